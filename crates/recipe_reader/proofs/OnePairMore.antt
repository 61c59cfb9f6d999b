-- What a recipe is with one pair more.
use Rattle.std.specs.Prelude.{Result, Ok, Err, OnOk}
use Rattle.std.proofs.Common.{◌≡◌, ◌∷◌, ◌++◌, ◌+◌, ◌<◌, ◌≤◌, [], ℕ, List, Bool, Some, refl, sym, subst, true, false, length, arith, inl, inr}
use Rattle.std.specs.List.{list_any, position_or_len}
use Rattle.std.proofs.lemmas.Bool.{cases_Bool}
use Rattle.std.proofs.lemmas.List.{length_push}
use Rattle.seed_model.specs.declared.limits.TheConstants.{MOST_CHUNKS, MOST_PAIRS, MOST_BYTES}
use Rattle.recipe_reader.specs.Lawful.{IsRecipe}
use Rattle.recipe_reader.specs.AddFaults.{IsLimitFault, IsPairFault}
use Rattle.recipe_reader.specs.Limits.{KeepsSize, PassesFirst, IsWithinLimits}
use Rattle.recipe_reader.specs.Recipes.{NamedChunk, RecipeValue, bytes_of, is_chunk, is_pair, chunk_number, with_pair, with_use}
use Rattle.recipe_reader.specs.declared.error.AddError.{AddError}
use Rattle.recipe_reader.specs.declared.error.AddError.TheVariants.{Clash, TooMany, Memory}
use Rattle.recipe_reader.specs.declared.error.What.TheVariants.{Pairs}
use Rattle.recipe_reader.proofs.Keeping.{bytes_push, chunk_equiv, new_pair}
use Rattle.list_facts.proofs.Numbering.{no_place}

-- the number of an item that is put last
pub number_last : {X : Type 0} (p : X → Bool) (xs : List X) (x : X) → list_any p xs ≡ false → p x ≡ true → position_or_len p (xs ++ x ∷ []) ≡ length xs
number_last p [] x none passes = rw passes refl
number_last p (y ∷ xs) x none passes = elim (cases_Bool (p y)) [
  | inl t ↦ cc (rw t at none)
  | inr f ↦ rw f (omega (arith, number_last p xs x (rw f at none) passes))
]

-- a known chunk gets one user more
pub with_pair-known : (r : RecipeValue) (file : ℕ) (c : NamedChunk) → list_any (is_chunk c.name) r.chunks ≡ true → with_pair r file c ≡ with_use r file (chunk_number r.chunks c.name)
with_pair-known r file c known = rw known refl

-- a new chunk goes last, and so does its pair
pub with_pair-new : (r : RecipeValue) (file : ℕ) (c : NamedChunk) → IsRecipe r → list_any (is_chunk c.name) r.chunks ≡ false
    → with_pair r file c ≡ record r { chunks = r.chunks ++ c ∷ []; pairs = r.pairs ++ (file, length r.chunks) ∷ [] }
with_pair-new r file c h new =
    let number = number_last (is_chunk c.name) r.chunks c new (chunk_equiv.refl c) in
    let lacking = new_pair file (length r.files) (length r.chunks) r.pairs h.pairs in
    rw (new, number, lacking) refl

-- a new chunk's pair passes the limit of pairs
pub full_of_pairs : (r : RecipeValue) (file : ℕ) (c : NamedChunk) → IsRecipe r → list_any (is_chunk c.name) r.chunks ≡ false → length r.chunks < MOST_CHUNKS → bytes_of r + c.size ≤ MOST_BYTES
    → MOST_PAIRS ≤ length r.pairs → PassesFirst (with_pair r file c) Pairs
full_of_pairs r file c h new room bytes_room full =
    let longer : length (r.chunks ++ c ∷ []) ≡ length r.chunks + 1 = length_push r.chunks c in
    let sum : bytes_of (record r { chunks = r.chunks ++ c ∷ [] }) ≡ bytes_of r + c.size = bytes_push r.chunks c in
    let more : length (r.pairs ++ (file, length r.chunks) ∷ []) ≡ length r.pairs + 1 = length_push r.pairs (file, length r.chunks) in
    let Full : RecipeValue → Type 0 = λ after. PassesFirst after Pairs in
    subst Full (sym (with_pair-new r file c h new)) (h.limits.files, omega (arith, longer), omega (arith, sum), omega (arith, more))

-- where the chunk keeps its size, a pair is refused as the recipe with it is
pub pair_fault : (r after : RecipeValue) (file : ℕ) (c : NamedChunk) (e : AddError) → KeepsSize r (Some c) → with_pair r file c ≡ after → IsLimitFault after e → IsPairFault r file c e
pair_fault r after file c (Clash first now) keeps same h = absurd h
pair_fault r after file c (TooMany what) keeps same h = let P : RecipeValue → Type 0 = λ a. PassesFirst a what in (keeps, subst P (sym same) h)
pair_fault r after file c Memory keeps same h = let P : RecipeValue → Type 0 = λ a. IsWithinLimits a in (keeps, subst P (sym same) h)

-- a chunk that stands in a pair is known
pub known_pair : (r : RecipeValue) (file : ℕ) (name : List ℕ) → IsRecipe r → list_any (is_chunk name) r.chunks ≡ false → list_any (is_pair file (chunk_number r.chunks name)) r.pairs ≡ true → ⊥
known_pair r file name h new there =
    let lacking = new_pair file (length r.files) (length r.chunks) r.pairs h.pairs in
    let number = no_place (is_chunk name) r.chunks new in
    cc (rw number at there, lacking)

-- what holds anyway
pub on_ok : {T E P : Type 0} (r : Result T E) → P → OnOk r P
on_ok (Ok x) p = p
on_ok (Err e) p = tt
