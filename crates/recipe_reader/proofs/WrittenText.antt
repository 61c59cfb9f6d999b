-- The text of a recipe, row by row.
use Rattle.std.specs.Prelude.{◌==◌, All, map}
use Rattle.std.proofs.Common.{◌≡◌, ◌≢◌, ◌∙◌, ◌∷◌, ◌++◌, ◌+◌, ◌<◌, [], ℕ, List, Option, Some, None, refl, sym, ap, true, false, length, append_assoc, arith, inl, inr}
use Rattle.std.specs.Cmp.{nat_eq_equiv}
use Rattle.std.specs.List.{flat_map, range_with_len}
use Rattle.list_facts.specs.Keyed.{values_of}
use Rattle.std.proofs.lemmas.Bool.{cases_Bool}
use Rattle.std.proofs.lemmas.Grind.{flat_map-append}
use Rattle.std.proofs.lemmas.List.{append-nil, map-id}
use Rattle.std.proofs.lemmas.List.Elements.{All-nil, All-cons, All-head, All-tail}
use Rattle.std.proofs.lemmas.List.FromFn.{map-range_with_len_more}
use Rattle.csv_rows.specs.Rows.{rows_text}
use Rattle.csv_rows.specs.Written.{with_more}
use Rattle.csv_rows.proofs.Written.{rows_text-append}
use Rattle.recipe_reader.specs.Lawful.{IsPairBelow}
use Rattle.recipe_reader.specs.Recipes.{RecipeValue}
use Rattle.recipe_reader.specs.WrittenRows.{chunks_used, file_rows, pair_row}

-- a file that uses chunks
pub file_rows-some : (r : RecipeValue) (file : ℕ) (chunks : List ℕ) → length chunks ≢ 0 → file_rows r file chunks ≡ map (pair_row r file) chunks
file_rows-some r file [] some = absurd (some refl)
file_rows-some r file (chunk ∷ chunks) some = refl

pub nothing : rows_text [] ≡ []
unfolding rows_text
nothing = refl

-- numbers up to one more
pub range-more : (n : ℕ) → range_with_len 0 (n + 1) ≡ range_with_len 0 n ++ n ∷ []
range-more n =
    sym (map-id (range_with_len 0 (n + 1))) ∙ (map-range_with_len_more (λ (k : ℕ). k) 0 n n (omega arith) ∙ ap (λ (t : List ℕ). t ++ n ∷ []) (map-id (range_with_len 0 n)))

-- the rows of one file more
pub rows-more : (f : ℕ → List (List (List ℕ))) (n : ℕ) → rows_text (flat_map f (range_with_len 0 (n + 1))) ≡ rows_text (flat_map f (range_with_len 0 n)) ++ rows_text (f n)
rows-more f n =
    ap (λ (t : List ℕ). rows_text (flat_map f t)) (range-more n)
    ∙ (ap rows_text (flat_map-append f (range_with_len 0 n) (n ∷ []) ∙ ap (λ (t : List (List (List ℕ))). flat_map f (range_with_len 0 n) ++ t) (append-nil (f n)))
    ∙ rows_text-append (flat_map f (range_with_len 0 n)) (f n))

-- the chunks that a file uses are chunks
pub chunks_below : (files chunks file : ℕ) (pairs : List (ℕ × ℕ)) → All (IsPairBelow files chunks) pairs → All (λ chunk. chunk < chunks) (chunks_used pairs file)
chunks_below files chunks file [] h = All-nil (λ chunk. chunk < chunks)
chunks_below files chunks file (p ∷ pairs) h =
    let head = All-head (IsPairBelow files chunks) p pairs h in
    let rest = chunks_below files chunks file pairs (All-tail (IsPairBelow files chunks) p pairs h) in
    elim (cases_Bool (p.0 == file)) [
      | inl t ↦ rw t (All-cons (λ chunk. chunk < chunks) p.1 (chunks_used pairs file) head.chunk rest)
      | inr f ↦ rw f rest
    ]

-- no text more, and two texts more
pub more_nothing : (o : Option (List ℕ)) → with_more o (rows_text []) ≡ o
more_nothing None = refl
more_nothing (Some text) = ap Some (ap (λ (t : List ℕ). text ++ t) nothing ∙ append-nil text)

pub more_twice : (o : Option (List ℕ)) (a b : List ℕ) → with_more (with_more o a) b ≡ with_more o (a ++ b)
more_twice None a b = refl
more_twice (Some text) a b = ap Some (append_assoc text a b)

-- the values that are paired with a file are the chunks that it uses
pub values-used : (pairs : List (ℕ × ℕ)) (file : ℕ) → values_of file pairs ≡ chunks_used pairs file
values-used [] file = refl
values-used (p ∷ pairs) file = elim (cases_Bool (p.0 == file)) [
  | inl t ↦
      let flipped : (file == p.0) ≡ true = nat_eq_equiv.symm file p.0 ∙ t in
      rw (flipped, t) (ap (λ (rest : List ℕ). p.1 ∷ rest) (values-used pairs file))
  | inr f ↦
      let flipped : (file == p.0) ≡ false = nat_eq_equiv.symm file p.0 ∙ f in
      rw (flipped, f) (values-used pairs file)
]
