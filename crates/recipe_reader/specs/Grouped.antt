-- Pairs that come file by file.
use Rattle.std.specs.Prelude.{◌≡◌, ℕ, ◌≤◌, List, Option, Some, None, true, slice_index_or}
use Rattle.std.specs.List.{IsDistinct, list_any}
use Rattle.recipe_reader.specs.Recipes.{is_pair}

-- no pair has a later file
abbrev pub IsLast : ℕ → List (ℕ × ℕ) → Type 0
IsLast last pairs = (file chunk : ℕ) → list_any (is_pair file chunk) pairs ≡ true → file ≤ last

-- the latest file that uses a chunk, if any does
abbrev pub latest_of : List (Option ℕ) → ℕ → Option ℕ
latest_of latest chunk = slice_index_or latest chunk None

-- the pairs differ, none has a file past the last one, and the latest file of each chunk is noted
pub record IsGrouped (pairs : List (ℕ × ℕ)) (latest : List (Option ℕ)) (last : ℕ) : Type 0 where
  pub differ : IsDistinct (λ p. is_pair p.0 p.1) pairs
  pub below : IsLast last pairs
  pub noted : (file chunk : ℕ) → list_any (is_pair file chunk) pairs ≡ true → (late : ℕ) × (latest_of latest chunk ≡ Some late) × (file ≤ late)
  pub stands : (file chunk : ℕ) → latest_of latest chunk ≡ Some file → list_any (is_pair file chunk) pairs ≡ true
