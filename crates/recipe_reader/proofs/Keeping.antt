-- A recipe stays one when a file, a pair or a chunk is put last.
use Rattle.std.specs.Prelude.{Result, Ok, Err, OnOk, OnErr, ◌&&◌, ◌⊎◌, ◌==◌, All, sum_by}
use Rattle.std.proofs.Common.{◌≡◌, ◌≢◌, ◌∷◌, ◌++◌, ◌+◌, ◌<◌, ◌≤◌, [], ℕ, List, Bool, refl, true, false, length, inl, inr, arith}
use Rattle.std.specs.Cmp.{IsEquivalence, on_equiv, and_equiv, nat_eq_equiv}
use Rattle.std.specs.Cmp.Lexicographic.{nat_list_eq_equiv}
use Rattle.std.specs.List.{IsDistinct, list_any}
use Rattle.std.proofs.lemmas.Bool.{cases_Bool, cases_lt, ne_eqb}
use Rattle.std.proofs.lemmas.List.{length_push}
use Rattle.std.proofs.lemmas.List.Elements.{All-push, All-nil, All-weaker}
use Rattle.std.proofs.lemmas.List.Folds.{list_any_none}
use Rattle.std.proofs.lemmas.List.Sums.{sum_by_push}
use Rattle.std.proofs.lemmas.Map.Keys.{IsDistinct-push}
use Rattle.file_names.specs.FileNames.{IsFileName}
use Rattle.seed_model.specs.declared.limits.TheConstants.{MOST_FILES, MOST_CHUNKS, MOST_PAIRS, MOST_BYTES}
use Rattle.list_facts.proofs.FirstAppearance.{any_before, any_last}
use Rattle.recipe_reader.specs.Lawful.{IsChunk, IsPairBelow, IsRecipe}
use Rattle.recipe_reader.specs.Recipes.{NamedChunk, RecipeValue, empty_recipe, bytes_of, is_named, is_chunk, is_pair, with_new, with_use}

-- the tests of names, chunks and pairs are equivalences
pub named_equiv : IsEquivalence is_named
named_equiv = nat_list_eq_equiv

pub chunk_equiv : IsEquivalence (λ (c : NamedChunk). is_chunk c.name)
chunk_equiv = on_equiv (λ (c : NamedChunk). c.name) nat_list_eq_equiv

pub pair_equiv : IsEquivalence (λ (p : ℕ × ℕ). is_pair p.0 p.1)
pair_equiv = and_equiv (on_equiv (λ (p : ℕ × ℕ). p.0) nat_eq_equiv) (on_equiv (λ (p : ℕ × ℕ). p.1) nat_eq_equiv)

-- the bytes of one chunk more
pub bytes_push : (chunks : List NamedChunk) (c : NamedChunk) → sum_by (λ (c : NamedChunk). c.size) (chunks ++ c ∷ []) ≡ sum_by (λ (c : NamedChunk). c.size) chunks + c.size
bytes_push chunks c = sum_by_push (λ (c : NamedChunk). c.size) chunks c

-- pairs stay below greater bounds
pub below_wider : (f c g d : ℕ) (pairs : List (ℕ × ℕ)) → f ≤ g → c ≤ d → All (IsPairBelow f c) pairs → All (IsPairBelow g d) pairs
below_wider f c g d pairs fg cd h =
    All-weaker (IsPairBelow f c) (IsPairBelow g d) (λ p below. record { file = omega (arith, below.file); chunk = omega (arith, below.chunk) }) pairs h

-- a pair of a chunk past the last one is new
pub new_pair : (file f chunks : ℕ) (pairs : List (ℕ × ℕ)) → All (IsPairBelow f chunks) pairs → list_any (is_pair file chunks) pairs ≡ false
new_pair file f chunks pairs h =
    list_any_none (is_pair file chunks) pairs (All-weaker (IsPairBelow f chunks) (λ p. is_pair file chunks p ≡ false)
    (λ p below. let other : chunks ≢ p.1 = omega (arith, below.chunk) in rw (ne_eqb chunks p.1 other) (and_false (file == p.0))) pairs h)
  where
    and_false : (b : Bool) → (b && false) ≡ false
    and_false true = refl
    and_false false = refl

pub empty_keeps : IsRecipe empty_recipe
unfolding IsDistinct
empty_keeps = record {
  limits = record { files = omega arith; chunks = omega arith; bytes = omega arith; pairs = omega arith };
  files = All-nil IsFileName;
  files_differ = tt;
  chunks = All-nil IsChunk;
  chunks_differ = tt;
  pairs = All-nil (IsPairBelow 0 0);
  pairs_differ = tt;
  used = λ chunk below. absurd (omega arith);
}

pub file_keeps : (r : RecipeValue) (name : List ℕ) → IsRecipe r → IsFileName name → list_any (is_named name) r.files ≡ false → length r.files < MOST_FILES
    → IsRecipe (record r { files = r.files ++ name ∷ [] })
file_keeps r name h lawful new room =
    let longer : length (r.files ++ name ∷ []) ≡ length r.files + 1 = length_push r.files name in
    record {
      limits = record { files = omega (arith, longer); chunks = h.limits.chunks; bytes = h.limits.bytes; pairs = h.limits.pairs };
      files = All-push IsFileName r.files name h.files lawful;
      files_differ = IsDistinct-push named_equiv r.files name h.files_differ new;
      chunks = h.chunks;
      chunks_differ = h.chunks_differ;
      pairs = below_wider (length r.files) (length r.chunks) (length (r.files ++ name ∷ [])) (length r.chunks) r.pairs (omega (arith, longer)) (omega arith) h.pairs;
      pairs_differ = h.pairs_differ;
      used = h.used;
    }

pub use_keeps : (r : RecipeValue) (file chunk : ℕ) → IsRecipe r → file < length r.files → chunk < length r.chunks → list_any (is_pair file chunk) r.pairs ≡ false → length r.pairs < MOST_PAIRS
    → IsRecipe (record r { pairs = r.pairs ++ (file, chunk) ∷ [] })
use_keeps r file chunk h file_there chunk_there new room =
    let longer : length (r.pairs ++ (file, chunk) ∷ []) ≡ length r.pairs + 1 = length_push r.pairs (file, chunk) in
    record {
      limits = record { files = h.limits.files; chunks = h.limits.chunks; bytes = h.limits.bytes; pairs = omega (arith, longer) };
      files = h.files;
      files_differ = h.files_differ;
      chunks = h.chunks;
      chunks_differ = h.chunks_differ;
      pairs = All-push (IsPairBelow (length r.files) (length r.chunks)) r.pairs (file, chunk) h.pairs (record { file = file_there; chunk = chunk_there });
      pairs_differ = IsDistinct-push pair_equiv r.pairs (file, chunk) h.pairs_differ new;
      used = λ c below. let u = h.used c below in (u.0, any_before (is_pair u.0 c) r.pairs (file, chunk) u.1);
    }

-- a use that is known changes nothing; one that is new needs room
pub known_or_new_keeps : (r : RecipeValue) (file chunk : ℕ) → IsRecipe r → file < length r.files → chunk < length r.chunks
    → (list_any (is_pair file chunk) r.pairs ≡ false → length r.pairs < MOST_PAIRS) → IsRecipe (with_use r file chunk)
known_or_new_keeps r file chunk h file_there chunk_there room = elim (cases_Bool (list_any (is_pair file chunk) r.pairs)) [
  | inl known ↦ rw known h
  | inr new ↦ rw new (use_keeps r file chunk h file_there chunk_there new (room new))
]

-- a recipe after a try to add a pair to it
pub tried_keeps : {E : Type 0} (r : RecipeValue) (pairs : List (ℕ × ℕ)) (file chunk : ℕ) (tried : Result (Unit {0}) E) → IsRecipe r → file < length r.files → chunk < length r.chunks
    → OnOk tried (pairs ≡ with_new (is_pair file chunk) r.pairs (file, chunk)) → OnOk tried (list_any (is_pair file chunk) r.pairs ≡ false → length r.pairs < MOST_PAIRS)
    → OnErr tried (pairs ≡ r.pairs) → IsRecipe (record r { pairs = pairs })
tried_keeps r pairs file chunk (Ok done) h file_there chunk_there is room same = rw is (known_or_new_keeps r file chunk h file_there chunk_there room)
tried_keeps r pairs file chunk (Err error) h file_there chunk_there is room same = rw same h

pub chunk_keeps : (r : RecipeValue) (file : ℕ) (c : NamedChunk) → IsRecipe r → file < length r.files → IsChunk c → list_any (is_chunk c.name) r.chunks ≡ false
    → length r.chunks < MOST_CHUNKS → bytes_of r + c.size ≤ MOST_BYTES → length r.pairs < MOST_PAIRS
    → IsRecipe (record r { chunks = r.chunks ++ c ∷ []; pairs = r.pairs ++ (file, length r.chunks) ∷ [] })
chunk_keeps r file c h file_there lawful new room bytes_room pairs_room =
    let n = length r.chunks in
    let longer : length (r.chunks ++ c ∷ []) ≡ length r.chunks + 1 = length_push r.chunks c in
    let more : length (r.pairs ++ (file, n) ∷ []) ≡ length r.pairs + 1 = length_push r.pairs (file, n) in
    let sum : bytes_of (record r { chunks = r.chunks ++ c ∷ [] }) ≡ bytes_of r + c.size = bytes_push r.chunks c in
    record {
      limits = record { files = h.limits.files; chunks = omega (arith, longer); bytes = omega (arith, sum); pairs = omega (arith, more) };
      files = h.files;
      files_differ = h.files_differ;
      chunks = All-push IsChunk r.chunks c h.chunks lawful;
      chunks_differ = IsDistinct-push chunk_equiv r.chunks c h.chunks_differ new;
      pairs = All-push (IsPairBelow (length r.files) (length (r.chunks ++ c ∷ []))) r.pairs (file, n)
          (below_wider (length r.files) n (length r.files) (length (r.chunks ++ c ∷ [])) r.pairs (omega arith) (omega (arith, longer)) h.pairs)
          (record { file = file_there; chunk = omega (arith, longer) });
      pairs_differ = IsDistinct-push pair_equiv r.pairs (file, n) h.pairs_differ (new_pair file (length r.files) n r.pairs h.pairs);
      used = λ k below. elim (split k below longer) [
        | inl old ↦ let u = h.used k old in (u.0, any_before (is_pair u.0 k) r.pairs (file, n) u.1)
        | inr last ↦ (file, any_last (is_pair file k) r.pairs (file, n) (rw last (pair_equiv.refl (file, n))))
      ];
    }
  where
    split : (k : ℕ) → k < length (r.chunks ++ c ∷ []) → length (r.chunks ++ c ∷ []) ≡ length r.chunks + 1 → (k < length r.chunks) ⊎ (k ≡ length r.chunks)
    split k below longer = elim (cases_lt k (length r.chunks)) [ inl lt ↦ inl lt | inr ge ↦ inr (omega arith) ]
