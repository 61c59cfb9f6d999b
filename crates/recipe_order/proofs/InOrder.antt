-- The files of a recipe in an order have its files, chunks and pairs.
use Rattle.std.specs.Prelude.{◌==◌, Contains, map}
use Rattle.std.proofs.Common.{◌≡◌, ◌∙◌, ◌<◌, ◌∷◌, ◌++◌, [], ℕ, List, Some, true, false, refl, sym, ap, subst, length, slice_get, get_or, arith, inl, inr, append_assoc}
use Rattle.std.specs.Cmp.{nat_eq_equiv}
use Rattle.std.specs.List.{IsDistinct, fold, list_any, range_with_len}
use Rattle.std.specs.List.Sorted.{IsPermutation}
use Rattle.std.proofs.lemmas.Bool.{cases_Bool, and_parts, eqb-true}
use Rattle.std.proofs.lemmas.List.{append-nil, get_or_append_left, get_or_default, length-append}
use Rattle.std.proofs.lemmas.List.Elements.{Contains-get_or}
use Rattle.std.proofs.lemmas.List.Folds.{list_any_none}
use Rattle.std.proofs.lemmas.List.FromFn.{fill_by_all, get_or-range_with_len, length-range_with_len}
use Rattle.std.proofs.lemmas.List.Sorted.{Contains-permutation, IsPermutation-map}
use Rattle.std.proofs.lemmas.Map.Keys.{IsDistinct-IsPermutation, apart_from_distinct}
use Rattle.std.proofs.lemmas.Map.Views.{list_any-from_Contains}
use Rattle.std.proofs.Math.Seq.{get_or-append_seam}
use Rattle.list_facts.specs.Firsts.{with_new}
use Rattle.list_facts.proofs.FirstAppearance.{any_new}
use Rattle.recipe_reader.specs.Lawful.{IsRecipe}
use Rattle.recipe_reader.specs.Recipes.{NamedChunk, RecipeValue, empty_recipe, file_number, chunk_number, is_named, is_pair, name_at, with_file, with_pair}
use Rattle.recipe_reader.specs.Same.{UsesByName}
use Rattle.recipe_reader.specs.WrittenRows.{chunks_used, file_at}
use Rattle.recipe_reader.proofs.Keeping.{empty_keeps, named_equiv, pair_equiv}
use Rattle.recipe_reader.proofs.Sizes.{one_of_name}
use Rattle.recipe_reader.proofs.Subsets.{cons_cases, contains_head, contains_tail}
use Rattle.recipe_order.specs.Orders.{IsOrder}
use Rattle.recipe_order.specs.Parts.{IsPartOf}
use Rattle.recipe_order.specs.Reordered.{IsReordered}
use Rattle.recipe_order.specs.Sorted.{IsSorted, chunk_at, in_order, with_chunks_of, with_file_of}
use Rattle.recipe_order.proofs.Copying.{file_named, kept_file, kept_pair, new_pair}
use Rattle.recipe_order.proofs.Names.{keyed, no_chunk, name_is, numbered, pair_below, uses_of_pair}

-- ---- the chunks of a file

pub used_contains : (pairs : List (ℕ × ℕ)) (file chunk : ℕ) → list_any (is_pair file chunk) pairs ≡ true → Contains (chunks_used pairs file) chunk
used_contains [] file chunk any = cc any
used_contains (p ∷ pairs) file chunk any = elim (cases_Bool (is_pair file chunk p)) [
  | inl t ↦
      let both = and_parts (file == p.0) (chunk == p.1) t in
      let one = eqb-true file p.0 both.0 in
      let two = eqb-true chunk p.1 both.1 in
      let kept : (p.0 == file) ≡ true = rw one (nat_eq_equiv.refl p.0) in
      rw (kept, two) (contains_head p.1 (chunks_used pairs file))
  | inr f ↦
      let rest = used_contains pairs file chunk (rw f at any) in
      elim (cases_Bool (p.0 == file)) [ inl t ↦ rw t (contains_tail p.1 (chunks_used pairs file) chunk rest) | inr g ↦ rw g rest ]
]

used_pair : (pairs : List (ℕ × ℕ)) (file chunk : ℕ) → Contains (chunks_used pairs file) chunk → Contains pairs (file, chunk)
used_pair [] file chunk there = absurd (omega (arith, there.1))
used_pair (p ∷ pairs) file chunk there = elim (cases_Bool (p.0 == file)) [
  | inl t ↦ elim (cons_cases p.1 (chunks_used pairs file) chunk (rw t at there)) [
    | inl own ↦ let one = eqb-true p.0 file t in let same : p ≡ (file, chunk) = λ i. (one i, own i) in rw (← same) (contains_head p pairs)
    | inr behind ↦ contains_tail p pairs (file, chunk) (used_pair pairs file chunk behind)
  ]
  | inr f ↦ contains_tail p pairs (file, chunk) (used_pair pairs file chunk (rw f at there))
]

-- they are used by its name
pub uses_listed : (r : RecipeValue) (file : ℕ) (chunks : List ℕ) (i : ℕ) → IsRecipe r → chunks ≡ chunks_used r.pairs file → i < length chunks → UsesByName r (file_at r file) (name_at r (get_or chunks i 0))
uses_listed r file chunks i h is lt =
    let Listed : List ℕ → Type 0 = λ t. Contains t (get_or chunks i 0) in
    let pair = used_pair r.pairs file (get_or chunks i 0) (subst Listed is (Contains-get_or chunks i 0 lt)) in
    uses_of_pair r file (get_or chunks i 0) (keyed r h) (list_any-from_Contains pair_equiv (file, get_or chunks i 0) r.pairs pair)

pub chunk_listed : (r : RecipeValue) (file : ℕ) (chunks : List ℕ) (i : ℕ) → IsRecipe r → chunks ≡ chunks_used r.pairs file → i < length chunks → get_or chunks i 0 < length r.chunks
chunk_listed r file chunks i h is lt =
    let Listed : List ℕ → Type 0 = λ t. Contains t (get_or chunks i 0) in
    let pair = used_pair r.pairs file (get_or chunks i 0) (subst Listed is (Contains-get_or chunks i 0 lt)) in
    (pair_below r file (get_or chunks i 0) (keyed r h) (list_any-from_Contains pair_equiv (file, get_or chunks i 0) r.pairs pair)).chunk

-- ---- pairs are put last, one after the other

pub chunks_files : (other : RecipeValue) (file : ℕ) (r : RecipeValue) (chunks : List ℕ) → (with_chunks_of other file r chunks).files ≡ r.files
chunks_files other file r [] = refl
chunks_files other file r (c ∷ chunks) = chunks_files other file (with_pair r file (chunk_at other c)) chunks

chunks_kept : (other : RecipeValue) (file : ℕ) (r : RecipeValue) (chunks : List ℕ) (name chunk : List ℕ) → UsesByName r name chunk → UsesByName (with_chunks_of other file r chunks) name chunk
chunks_kept other file r [] name chunk u = u
chunks_kept other file r (c ∷ chunks) name chunk u =
    chunks_kept other file (with_pair r file (chunk_at other c)) chunks name chunk (kept_pair r file (chunk_at other c) name chunk u)

chunks_made : (other : RecipeValue) (file : ℕ) (r : RecipeValue) (chunks : List ℕ) (name : List ℕ) (chunk : ℕ) → slice_get r.files file ≡ Some name → Contains chunks chunk
    → UsesByName (with_chunks_of other file r chunks) name (name_at other chunk)
chunks_made other file r [] name chunk at there = absurd (omega (arith, there.1))
chunks_made other file r (c ∷ chunks) name chunk at there =
    let next = with_pair r file (chunk_at other c) in
    elim (cons_cases c chunks chunk there) [
      | inl own ↦ chunks_kept other file next chunks name (name_at other chunk) (rw (← own) (new_pair r file (chunk_at other c) name at))
      | inr behind ↦ chunks_made other file next chunks name chunk at behind
    ]

-- ---- and so are files

-- the number of a file that is put last, or known
pub number_there : (r : RecipeValue) (name : List ℕ) → slice_get (with_file r name).files (file_number (with_file r name).files name) ≡ Some name
number_there r name = file_named (with_file r name).files name (any_new (is_named name) r.files name (named_equiv.refl name))

file_kept : (other r : RecipeValue) (file : ℕ) (name chunk : List ℕ) → UsesByName r name chunk → UsesByName (with_file_of other r file) name chunk
file_kept other r file name chunk u =
    let own = file_at other file in
    let named = with_file r own in
    chunks_kept other (file_number named.files own) named (chunks_used other.pairs file) name chunk (kept_file r own name chunk u)

file_made : (other r : RecipeValue) (file chunk : ℕ) → Contains (chunks_used other.pairs file) chunk → UsesByName (with_file_of other r file) (file_at other file) (name_at other chunk)
file_made other r file chunk there =
    let own = file_at other file in
    let named = with_file r own in
    chunks_made other (file_number named.files own) named (chunks_used other.pairs file) own chunk (number_there r own) there

file_files : (other r : RecipeValue) (file : ℕ) → (with_file_of other r file).files ≡ with_new (is_named (file_at other file)) r.files (file_at other file)
file_files other r file =
    let own = file_at other file in
    chunks_files other (file_number (with_file r own).files own) (with_file r own) (chunks_used other.pairs file)

order_kept : (other r : RecipeValue) (order : List ℕ) (name chunk : List ℕ) → UsesByName r name chunk → UsesByName (fold (with_file_of other) r order) name chunk
order_kept other r [] name chunk u = u
order_kept other r (file ∷ order) name chunk u = order_kept other (with_file_of other r file) order name chunk (file_kept other r file name chunk u)

order_made : (other r : RecipeValue) (order : List ℕ) (file chunk : ℕ) → Contains order file → Contains (chunks_used other.pairs file) chunk
    → UsesByName (fold (with_file_of other) r order) (file_at other file) (name_at other chunk)
order_made other r [] file chunk there used = absurd (omega (arith, there.1))
order_made other r (f ∷ order) file chunk there used =
    let next = with_file_of other r f in
    elim (cons_cases f order file there) [
      | inl own ↦ order_kept other next order (file_at other file) (name_at other chunk) (rw own (file_made other r file chunk used))
      | inr behind ↦ order_made other next order file chunk behind used
    ]

-- a name that differs from those before it
name_new : (front : List (List ℕ)) (name : List ℕ) (back : List (List ℕ)) → IsDistinct is_named (front ++ name ∷ back) → list_any (is_named name) front ≡ false
name_new front name back differ =
    list_any_none (is_named name) front (λ k d lt.
    let long = length-append front (name ∷ back) in
    let apart = apart_from_distinct is_named (front ++ name ∷ back) k (length front) d differ lt (omega (arith, long)) in
    let here = get_or_append_left front (name ∷ back) d k lt in
    let there = get_or-append_seam front name back d in
    named_equiv.symm name (get_or front k d) ∙ (rw (here, there) at apart))

order_files : (other r : RecipeValue) (order : List ℕ) → IsDistinct is_named (r.files ++ map (file_at other) order) → (fold (with_file_of other) r order).files ≡ r.files ++ map (file_at other) order
order_files other r [] differ = sym (append-nil r.files)
order_files other r (file ∷ order) differ =
    let own = file_at other file in
    let next = with_file_of other r file in
    let new = name_new r.files own (map (file_at other) order) differ in
    let longer : next.files ≡ r.files ++ own ∷ [] = file_files other r file ∙ rw new refl in
    let joined : next.files ++ map (file_at other) order ≡ r.files ++ own ∷ map (file_at other) order = ap (λ (t : List (List ℕ)). t ++ map (file_at other) order) longer ∙ append_assoc r.files (own ∷ []) (map (file_at other) order) in
    order_files other next order (subst (IsDistinct is_named) (sym joined) differ) ∙ joined

-- ---- all of them

files_range : (r : RecipeValue) → r.files ≡ map (file_at r) (range_with_len 0 (length r.files))
files_range r = fill_by_all (file_at r) r.files (length r.files) [] refl (λ k lt. refl)

names_moved : (r : RecipeValue) (order : List ℕ) → IsPermutation (range_with_len 0 (length r.files)) order → IsPermutation r.files (map (file_at r) order)
names_moved r order moved =
    let P : List (List ℕ) → Type 0 = λ t. IsPermutation t (map (file_at r) order) in
    subst P (sym (files_range r)) (IsPermutation-map (file_at r) (range_with_len 0 (length r.files)) order moved)

pub files_in_order : (r : RecipeValue) (order : List ℕ) → IsRecipe r → IsPermutation (range_with_len 0 (length r.files)) order → (in_order r order).files ≡ map (file_at r) order
files_in_order r order h moved =
    order_files r empty_recipe order (IsDistinct-IsPermutation is_named named_equiv.symm r.files (map (file_at r) order) (names_moved r order moved) h.files_differ)

in_order_there : (r : RecipeValue) (order : List ℕ) (file : ℕ) → IsPermutation (range_with_len 0 (length r.files)) order → file < length r.files → Contains order file
in_order_there r order file moved lt =
    let long = length-range_with_len 0 (length r.files) in
    let at : get_or (range_with_len 0 (length r.files)) file file ≡ file = get_or-range_with_len 0 (length r.files) file file lt ∙ omega arith in
    Contains-permutation (range_with_len 0 (length r.files)) order file moved (file, omega (arith, long), at)

uses_made : (r : RecipeValue) (order : List ℕ) (file chunk : ℕ) → IsRecipe r → IsPermutation (range_with_len 0 (length r.files)) order → list_any (is_pair file chunk) r.pairs ≡ true
    → UsesByName (in_order r order) (file_at r file) (name_at r chunk)
uses_made r order file chunk h moved any =
    order_made r empty_recipe order file chunk (in_order_there r order file moved (pair_below r file chunk (keyed r h) any).file) (used_contains r.pairs file chunk any)

-- a chunk whose name is used in a part of the recipe is one of the part's
chunk_in_part : (r part : RecipeValue) (file : List ℕ) (c : NamedChunk) → IsRecipe r → IsPartOf r part → Contains r.chunks c → UsesByName part file c.name → Contains part.chunks c
chunk_in_part r part file c h p there u =
    let n = numbered part file c.name (keyed part p.recipe) u in
    let k = get_or part.chunks (chunk_number part.chunks c.name) no_chunk in
    let in_part : Contains part.chunks k = Contains-get_or part.chunks (chunk_number part.chunks c.name) no_chunk n.chunk_below in
    let same : k.name ≡ c.name = sym (name_is part (chunk_number part.chunks c.name) n.chunk_below) ∙ n.chunk_is in
    let Within : NamedChunk → Type 0 = λ t. Contains part.chunks t in
    subst Within (one_of_name r.chunks k c h.chunks_differ (p.chunks k in_part) there same) in_part

pub reordered : (r : RecipeValue) (order : List ℕ) → IsRecipe r → IsPermutation (range_with_len 0 (length r.files)) order → IsPartOf r (in_order r order) → IsReordered r (in_order r order)
reordered r order h moved p = record {
  files = λ name. (
    λ there.
        let P : List (List ℕ) → Type 0 = λ t. Contains t name in
        subst P (sym (files_in_order r order h moved)) (Contains-permutation r.files (map (file_at r) order) name (names_moved r order moved) there),
    p.files name,
  );
  chunks = λ c. (
    λ there.
        let u = h.used there.0 there.1 in
        let named : name_at r there.0 ≡ c.name = name_is r there.0 there.1 ∙ ap (λ (k : NamedChunk). k.name) (get_or_default r.chunks there.0 no_chunk c there.1 ∙ there.2) in
        chunk_in_part r (in_order r order) (file_at r u.0) c h p there (rw named at (uses_made r order u.0 there.0 h moved u.1)),
    p.chunks c,
  );
  pairs = λ file chunk. (
    λ u.
        let n = numbered r file chunk (keyed r h) u in
        let made = uses_made r order (file_number r.files file) (chunk_number r.chunks chunk) h moved n.pair in
        rw (n.file_is, n.chunk_is) at made,
    p.pairs file chunk,
  );
}

-- nothing is part of any recipe
pub nothing_part : (r : RecipeValue) → IsPartOf r empty_recipe
nothing_part r = record {
  recipe = empty_keeps;
  files = λ name there. absurd (omega (arith, there.1));
  chunks = λ c there. absurd (omega (arith, there.1));
  pairs = λ file chunk u. absurd (omega (arith, u.stands.1));
}

pub is_sorted : (r copy : RecipeValue) (order : List ℕ) → IsRecipe r → IsOrder r order → copy ≡ in_order r order → IsPartOf r copy → IsSorted r copy
is_sorted r copy order h ordered is part = record {
  order = order;
  is_order = ordered;
  is = is;
  files = ap (λ (t : RecipeValue). t.files) is ∙ files_in_order r order h ordered.each;
  same =
      let Part : RecipeValue → Type 0 = λ t. IsPartOf r t in
      let Alike : RecipeValue → Type 0 = λ t. IsReordered r t in
      subst Alike (sym is) (reordered r order h ordered.each (subst Part is part));
}
