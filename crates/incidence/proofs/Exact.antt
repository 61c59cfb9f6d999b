-- The incidence of a recipe is exact, and its classes are those of the recipe's chunks.
use Rattle.std.proofs.Common.{◌≡◌, ◌∙◌, ◌<◌, ◌∷◌, [], ℕ, List, true, sym, ap, length, get_or, arith, inl, inr}
use Rattle.std.specs.Prelude.{◌==◌, All}
use Rattle.std.specs.List.{list_any, range_with_len, AllByRecursion}
use Rattle.std.proofs.lemmas.Bool.{cases_Bool, eqb-true}
use Rattle.std.proofs.lemmas.List.{length-map}
use Rattle.std.proofs.lemmas.List.Elements.{All-filter, All-from_recursion, recursion_from_All}
use Rattle.std.proofs.lemmas.List.Kept.{IsStrictlyIncreasing-filter}
use Rattle.std.proofs.lemmas.List.FromFn.{length-map-range_with_len, get_or-map-range_with_len, fill_by_all}
use Rattle.seed_model.specs.declared.table.Class.{Class}
use Rattle.seed_model.specs.Tables.{IsClass}
use Rattle.recipe_reader.specs.Lawful.{IsRecipe, IsPairBelow}
use Rattle.recipe_reader.specs.Recipes.{NamedChunk, RecipeValue, is_pair, users_of, chunks_of, chunk_class, table_of, size_at}
use Rattle.incidence.specs.Incidences.{IncidenceValue, incidence_of, class_at, chunk_classes, chunk_table, IsIncidence, OfRecipes, UsersAreExact, ChunksAreExact}
use Rattle.incidence.proofs.ChunkTables.{is_table, range-below, range-rises, file_below}
use Rattle.incidence.proofs.Turned.{any-kept}

-- the chunk of a pair that stands is one of the chunks
chunk_below : (files chunks file chunk : ℕ) (pairs : List (ℕ × ℕ)) → AllByRecursion (IsPairBelow files chunks) pairs → list_any (is_pair file chunk) pairs ≡ true → chunk < chunks
chunk_below files chunks file chunk [] all any = cc any
chunk_below files chunks file chunk (p ∷ pairs) all any = elim (cases_Bool (is_pair file chunk p)) [
  | inl t ↦
      let own : (chunk == p.1) ≡ true = elim (cases_Bool (file == p.0)) [ inl u ↦ rw u at t | inr u ↦ cc (rw u at t) ] in
      omega (arith, eqb-true chunk p.1 own, all.0.chunk)
  | inr f ↦ chunk_below files chunks file chunk pairs all.1 (rw f at any)
]

pub users_exact : UsersAreExact
users_exact recipe chunk r =
    let files = length recipe.files in
    let test = λ (file : ℕ). list_any (is_pair file chunk) recipe.pairs in
    let all = recursion_from_All (IsPairBelow files (length recipe.chunks)) recipe.pairs r.pairs in (
      IsStrictlyIncreasing-filter test (range_with_len 0 files) (range-rises 0 files),
      λ file. any-kept test file 0 files (λ t. let below = file_below files (length recipe.chunks) file chunk recipe.pairs all t in (omega arith, omega (arith, below))),
    )

pub chunks_exact : ChunksAreExact
chunks_exact recipe file r =
    let chunks = length recipe.chunks in
    let test = λ (chunk : ℕ). list_any (is_pair file chunk) recipe.pairs in
    let all = recursion_from_All (IsPairBelow (length recipe.files) chunks) recipe.pairs r.pairs in (
      IsStrictlyIncreasing-filter test (range_with_len 0 chunks) (range-rises 0 chunks),
      λ chunk. any-kept test chunk 0 chunks (λ t. let below = chunk_below (length recipe.files) chunks file chunk recipe.pairs all t in (omega arith, omega (arith, below))),
    )

users_len : (recipe : RecipeValue) → length (incidence_of recipe).users ≡ length recipe.chunks
users_len recipe = length-map-range_with_len (users_of recipe) 0 (length recipe.chunks)

files_len : (recipe : RecipeValue) → length (incidence_of recipe).chunks ≡ length recipe.files
files_len recipe = length-map-range_with_len (chunks_of recipe) 0 (length recipe.files)

users_at : (recipe : RecipeValue) (chunk : ℕ) → chunk < length recipe.chunks → get_or (incidence_of recipe).users chunk [] ≡ users_of recipe chunk
users_at recipe chunk lt = get_or-map-range_with_len (users_of recipe) 0 (length recipe.chunks) chunk chunk [] lt (omega arith)

chunks_at : (recipe : RecipeValue) (file : ℕ) → file < length recipe.files → get_or (incidence_of recipe).chunks file [] ≡ chunks_of recipe file
chunks_at recipe file lt = get_or-map-range_with_len (chunks_of recipe) 0 (length recipe.files) file file [] lt (omega arith)

classes_same : (recipe : RecipeValue) → chunk_classes (incidence_of recipe) ≡ (table_of recipe).classes
classes_same recipe =
    let incidence = incidence_of recipe in
    let n = length recipe.chunks in
    let none : Class = record { size = 0; users = [] } in
    fill_by_all (chunk_class recipe) (chunk_classes incidence) n none (length-map-range_with_len (class_at incidence) 0 (length incidence.users) ∙ users_len recipe) (λ k lt.
    get_or-map-range_with_len (class_at incidence) 0 (length incidence.users) k k none (omega (arith, lt, users_len recipe)) (omega arith)
    ∙ ap (λ (us : List ℕ). record { size = size_at recipe k; users = us }) (users_at recipe k lt))

pub table_same : (recipe : RecipeValue) → chunk_table (incidence_of recipe) ≡ table_of recipe
table_same recipe =
    let files = files_len recipe in
    let classes = classes_same recipe in
    λ i. record { files = files i; classes = classes i }

chunks_below : (recipe : RecipeValue) (file : ℕ) → All (λ chunk. chunk < length recipe.chunks) (chunks_of recipe file)
chunks_below recipe file =
    let chunks = length recipe.chunks in
    All-filter (λ chunk. list_any (is_pair file chunk) recipe.pairs) (λ chunk. chunk < chunks) (range_with_len 0 chunks)
    (All-from_recursion (λ chunk. chunk < chunks) (range_with_len 0 chunks) (range-below 0 chunks chunks (omega arith)))

pub is_incidence : (recipe : RecipeValue) → IsRecipe recipe → IsIncidence (incidence_of recipe)
is_incidence recipe r = record {
  sizes = length-map recipe.chunks (λ (c : NamedChunk). c.size) ∙ sym (users_len recipe);
  table = rw (table_same recipe) (is_table recipe r);
  rising = λ file lt.
      let small : file < length recipe.files = omega (arith, lt, files_len recipe) in
      let rises = (chunks_exact recipe file r).0 in
      rw (chunks_at recipe file small) rises;
  below = λ file lt.
      let small : file < length recipe.files = omega (arith, lt, files_len recipe) in
      rw (chunks_at recipe file small, users_len recipe) (chunks_below recipe file);
  agree = λ file chunk f_lt c_lt.
      let f_small : file < length recipe.files = omega (arith, f_lt, files_len recipe) in
      let c_small : chunk < length recipe.chunks = omega (arith, c_lt, users_len recipe) in
      let us = (users_exact recipe chunk r).1 file in
      let cs = (chunks_exact recipe file r).1 chunk in
      ap (list_any (λ user. file == user)) (users_at recipe chunk c_small) ∙ (us ∙ (sym cs ∙ ap (list_any (λ used. chunk == used)) (sym (chunks_at recipe file f_small))));
}

pub of_recipes : OfRecipes
of_recipes recipe r = (is_incidence recipe r, table_same recipe)

-- the users of each chunk are those of a class
pub users_class : (incidence : IncidenceValue) (chunk : ℕ) → IsIncidence incidence → chunk < length incidence.users → IsClass (length incidence.chunks) (class_at incidence chunk)
users_class incidence chunk is lt =
    let none : Class = record { size = 0; users = [] } in
    let size = length-map-range_with_len (class_at incidence) 0 (length incidence.users) in
    rw (get_or-map-range_with_len (class_at incidence) 0 (length incidence.users) chunk chunk none lt (omega arith)) at (is.table.each chunk none (omega (arith, lt, size)))
