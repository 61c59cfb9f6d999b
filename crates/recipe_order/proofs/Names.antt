-- Files, chunks and pairs of a lawful recipe, by name and by number.
use Rattle.std.specs.Prelude.{◌==◌, Contains, All, map}
use Rattle.std.proofs.Common.{◌≡◌, ◌∙◌, ◌<◌, ℕ, List, [], Some, true, sym, ap, length, slice_get, get_or, arith, inl, inr}
use Rattle.std.specs.Cmp.Lexicographic.{same_text}
use Rattle.std.specs.List.{IsDistinct, list_any}
use Rattle.std.proofs.lemmas.Bool.{cases_Bool, and_parts, eqb-true}
use Rattle.std.proofs.lemmas.List.{get_or-map, length-map}
use Rattle.std.proofs.lemmas.List.Elements.{All-contains}
use Rattle.std.proofs.lemmas.Map.Views.{list_any-from_Contains}
use Rattle.std.proofs.lemmas.Option.{slice_get-get_or, get_or_from_slice_get}
use Rattle.list_facts.proofs.Numbering.{place, no_place, number_of_only}
use Rattle.recipe_reader.specs.Lawful.{IsRecipe, IsPairBelow}
use Rattle.recipe_reader.specs.Recipes.{NamedChunk, RecipeValue, is_named, is_chunk, is_pair, file_number, chunk_number, name_at, size_at}
use Rattle.recipe_reader.specs.Same.{UsesByName}
use Rattle.recipe_reader.specs.WrittenRows.{file_at}
use Rattle.recipe_reader.proofs.Keeping.{named_equiv, chunk_equiv, pair_equiv}
use Rattle.recipe_reader.proofs.Sizes.{contains_at}

abbrev pub no_chunk : NamedChunk
no_chunk = record { name = []; size = 0 }

-- files and chunks that differ by name, and pairs of them
pub record IsKeyed (r : RecipeValue) : Type 0 where
  pub files_differ : IsDistinct is_named r.files
  pub chunks_differ : IsDistinct (λ (c : NamedChunk). is_chunk c.name) r.chunks
  pub pairs : All (IsPairBelow (length r.files) (length r.chunks)) r.pairs

pub keyed : (r : RecipeValue) → IsRecipe r → IsKeyed r
keyed r h = record { files_differ = h.files_differ; chunks_differ = h.chunks_differ; pairs = h.pairs }

-- numbers and names of files
pub number_of_file : (r : RecipeValue) (file : ℕ) → IsKeyed r → file < length r.files → file_number r.files (file_at r file) ≡ file
number_of_file r file h lt =
    let name = file_at r file in
    sym (number_of_only is_named (is_named name) r.files file name h.files_differ (λ y t. named_equiv.symm y name ∙ t) (slice_get-get_or r.files file [] lt) (named_equiv.refl name)).1

pub file_by_name : (r : RecipeValue) (name : List ℕ) → Contains r.files name → slice_get r.files (file_number r.files name) ≡ Some name
file_by_name r name there =
    let p = place (is_named name) r.files (list_any-from_Contains named_equiv name r.files there) in
    p.at ∙ ap Some (sym (same_text name p.item (sym p.passes)))

-- and of chunks
pub name_is : (r : RecipeValue) (chunk : ℕ) → chunk < length r.chunks → name_at r chunk ≡ (get_or r.chunks chunk no_chunk).name
name_is r chunk lt = get_or-map (λ (c : NamedChunk). c.name) r.chunks chunk no_chunk [] lt

pub size_is : (r : RecipeValue) (chunk : ℕ) → chunk < length r.chunks → size_at r chunk ≡ (get_or r.chunks chunk no_chunk).size
size_is r chunk lt = get_or-map (λ (c : NamedChunk). c.size) r.chunks chunk no_chunk 0 lt

pub number_of_chunk : (r : RecipeValue) (chunk : ℕ) → IsKeyed r → chunk < length r.chunks → chunk_number r.chunks (get_or r.chunks chunk no_chunk).name ≡ chunk
number_of_chunk r chunk h lt =
    let c = get_or r.chunks chunk no_chunk in
    sym (number_of_only (λ (c : NamedChunk). is_chunk c.name) (is_chunk c.name) r.chunks chunk c h.chunks_differ (λ y t. chunk_equiv.symm y c ∙ t) (slice_get-get_or r.chunks chunk no_chunk lt) (chunk_equiv.refl c)).1

pub chunk_by_name : (r : RecipeValue) (name : List ℕ) → chunk_number r.chunks name < length r.chunks → (get_or r.chunks (chunk_number r.chunks name) no_chunk).name ≡ name
chunk_by_name r name lt = elim (cases_Bool (list_any (is_chunk name) r.chunks)) [
  | inl t ↦
      let p = place (is_chunk name) r.chunks t in
      let is : get_or r.chunks (chunk_number r.chunks name) no_chunk ≡ p.item = get_or_from_slice_get r.chunks (chunk_number r.chunks name) p.item no_chunk p.at in
      ap (λ (c : NamedChunk). c.name) is ∙ sym (same_text name p.item.name (sym p.passes))
  | inr f ↦ let none = no_place (is_chunk name) r.chunks f in absurd (omega (arith, none, lt))
]

-- a pair that stands is below the bounds
pub pair_below : (r : RecipeValue) (file chunk : ℕ) → IsKeyed r → list_any (is_pair file chunk) r.pairs ≡ true → IsPairBelow (length r.files) (length r.chunks) (file, chunk)
pair_below r file chunk h any =
    let p = place (is_pair file chunk) r.pairs any in
    let both = and_parts (file == p.item.0) (chunk == p.item.1) p.passes in
    let one = eqb-true file p.item.0 both.0 in
    let two = eqb-true chunk p.item.1 both.1 in
    let below = All-contains (IsPairBelow (length r.files) (length r.chunks)) r.pairs p.item h.pairs (contains_at r.pairs _ p.item p.at) in
    record { file = omega (arith, one, below.file); chunk = omega (arith, two, below.chunk) }

-- and it is one by name
pub uses_of_pair : (r : RecipeValue) (file chunk : ℕ) → IsKeyed r → list_any (is_pair file chunk) r.pairs ≡ true → UsesByName r (file_at r file) (name_at r chunk)
uses_of_pair r file chunk h any =
    let p = place (is_pair file chunk) r.pairs any in
    let both = and_parts (file == p.item.0) (chunk == p.item.1) p.passes in
    let one = eqb-true file p.item.0 both.0 in
    let two = eqb-true chunk p.item.1 both.1 in
    let there = contains_at r.pairs _ p.item p.at in
    let below = All-contains (IsPairBelow (length r.files) (length r.chunks)) r.pairs p.item h.pairs there in
    let names = map (λ (c : NamedChunk). c.name) r.chunks in
    let long = length-map r.chunks (λ (c : NamedChunk). c.name) in
    record {
      pair = p.item;
      stands = there;
      file_named = slice_get-get_or r.files p.item.0 [] below.file ∙ ap (λ (n : ℕ). Some (file_at r n)) (sym one);
      chunk_named = slice_get-get_or names p.item.1 [] (omega (arith, long, below.chunk)) ∙ ap (λ (n : ℕ). Some (name_at r n)) (sym two);
    }

-- a use by name is a pair of the numbers of its names
pub record IsNumbered (r : RecipeValue) (file chunk : List ℕ) : Type 0 where
  pub pair : list_any (is_pair (file_number r.files file) (chunk_number r.chunks chunk)) r.pairs ≡ true
  pub file_is : file_at r (file_number r.files file) ≡ file
  pub file_below : file_number r.files file < length r.files
  pub chunk_below : chunk_number r.chunks chunk < length r.chunks
  pub chunk_is : name_at r (chunk_number r.chunks chunk) ≡ chunk

pub numbered : (r : RecipeValue) (file chunk : List ℕ) → IsKeyed r → UsesByName r file chunk → IsNumbered r file chunk
numbered r file chunk h u =
    let p = u.pair in
    let below = All-contains (IsPairBelow (length r.files) (length r.chunks)) r.pairs p h.pairs u.stands in
    let file_of : file_at r p.0 ≡ file = get_or_from_slice_get r.files p.0 file [] u.file_named in
    let name_of : name_at r p.1 ≡ chunk = get_or_from_slice_get (map (λ (c : NamedChunk). c.name) r.chunks) p.1 chunk [] u.chunk_named in
    let one : file_number r.files file ≡ p.0 = ap (file_number r.files) (sym file_of) ∙ number_of_file r p.0 h below.file in
    let two : chunk_number r.chunks chunk ≡ p.1 = ap (chunk_number r.chunks) (sym name_of ∙ name_is r p.1 below.chunk) ∙ number_of_chunk r p.1 h below.chunk in
    let any = list_any-from_Contains pair_equiv p r.pairs u.stands in
    record {
      pair = (λ i. list_any (is_pair (one i) (two i)) r.pairs) ∙ any;
      file_is = ap (file_at r) one ∙ file_of;
      file_below = omega (arith, one, below.file);
      chunk_below = omega (arith, two, below.chunk);
      chunk_is = ap (name_at r) two ∙ name_of;
    }
