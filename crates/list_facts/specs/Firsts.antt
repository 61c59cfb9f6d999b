-- First appearance: items numbered by the place where they first stand. Tests say which items are the same.
use Rattle.std.specs.Prelude.{◌≡◌, ℕ, List, [], ◌∷◌, ◌++◌, Bool, true, false, not, filter, Option, Some, None, if◌then◌else◌}
use Rattle.std.specs.List.{list_any, position_or_len}

-- each item that no earlier one is the same as
abbrev pub firsts : {X : Type 0} → (X → X → Bool) → List X → List X
firsts same [] = []
firsts same (x ∷ xs) = x ∷ filter (λ y. not (same x y)) (firsts same xs)

-- an item behind those so far, unless one of them passes the test
abbrev pub with_new : {X : Type 0} → (X → Bool) → List X → X → List X
with_new is_it items item = if list_any is_it items then items else items ++ item ∷ []

-- the number of the first item that passes the test; none where no item does
abbrev pub IsNumberOf : {X : Type 0} → (X → Bool) → List X → Option ℕ → Type 0
IsNumberOf test items None = list_any test items ≡ false
IsNumberOf test items (Some number) = (list_any test items ≡ true) × (number ≡ position_or_len test items)
