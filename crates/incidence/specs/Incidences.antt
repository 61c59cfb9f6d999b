-- Which file uses which chunk, both ways.
use Rattle.std.specs.Prelude.{◌≡◌, ℕ, ◌<◌, ◌==◌, All, List, [], length, map, refl, slice_index, slice_index_or}
use Rattle.std.specs.List.{list_any, range_with_len}
use Rattle.std.specs.List.Sorted.{IsStrictlyIncreasing}
use Rattle.std.specs.Coded.{Coded, code_by, coded×, coded_ℕ, coded_list}
use Rattle.seed_model.specs.declared.table.Class.{Class}
use Rattle.seed_model.specs.Tables.{TableValue, IsTable}
use Rattle.recipe_reader.specs.Lawful.{IsRecipe}
use Rattle.recipe_reader.specs.Recipes.{NamedChunk, RecipeValue, is_pair, users_of, chunks_of, table_of}

-- the size and the users of each chunk, and the chunks of each file
pub record IncidenceValue : Type 0 where
  pub sizes : List ℕ
  pub users : List (List ℕ)
  pub chunks : List (List ℕ)

-- as a pair of a pair and a list
abbrev pub incidence_code : Coded IncidenceValue
incidence_code =
    code_by ((List ℕ × List (List ℕ)) × List (List ℕ)) (coded× (coded× (coded_list coded_ℕ) (coded_list (coded_list coded_ℕ))) (coded_list (coded_list coded_ℕ)))
    (λ i. ((i.sizes, i.users), i.chunks)) (λ p. record { sizes = p.0.0; users = p.0.1; chunks = p.1 }) (λ _. refl)

-- that of a recipe
abbrev pub incidence_of : RecipeValue → IncidenceValue
incidence_of recipe = record {
  sizes = map (λ (c : NamedChunk). c.size) recipe.chunks;
  users = map (users_of recipe) (range_with_len 0 (length recipe.chunks));
  chunks = map (chunks_of recipe) (range_with_len 0 (length recipe.files));
}

-- a chunk as a class of its own
abbrev pub class_at : IncidenceValue → ℕ → Class
class_at incidence chunk = record { size = slice_index incidence.sizes chunk; users = slice_index_or incidence.users chunk [] }

-- a class for each chunk
abbrev pub chunk_classes : IncidenceValue → List Class
chunk_classes incidence = map (class_at incidence) (range_with_len 0 (length incidence.users))

-- the table with a class for each chunk
abbrev pub chunk_table : IncidenceValue → TableValue
chunk_table incidence = record { files = length incidence.chunks; classes = chunk_classes incidence }

-- a file is among a chunk's users where the chunk is among the file's chunks
abbrev pub Agree : IncidenceValue → Type 0
Agree incidence = (file chunk : ℕ) → file < length incidence.chunks → chunk < length incidence.users
    → list_any (λ user. file == user) (slice_index_or incidence.users chunk []) ≡ list_any (λ used. chunk == used) (slice_index_or incidence.chunks file [])

-- what every incidence keeps: a size and users for each chunk; the limits of a table, users among them that rise; chunks that
-- rise and are there; and both ways say the same
pub record IsIncidence (incidence : IncidenceValue) : Type 0 where
  pub sizes : length incidence.sizes ≡ length incidence.users
  pub table : IsTable (chunk_table incidence)
  pub rising : (file : ℕ) → file < length incidence.chunks → IsStrictlyIncreasing (slice_index_or incidence.chunks file [])
  pub below : (file : ℕ) → file < length incidence.chunks → All (λ chunk. chunk < length incidence.users) (slice_index_or incidence.chunks file [])
  pub agree : Agree incidence

-- the incidence of a recipe is one, and its classes are those of the recipe's chunks
abbrev pub OfRecipes : Type 0
OfRecipes = (recipe : RecipeValue) → IsRecipe recipe → IsIncidence (incidence_of recipe) × (chunk_table (incidence_of recipe) ≡ table_of recipe)

-- the users of a chunk are exactly the files that are paired with it, in strictly rising order
abbrev pub UsersAreExact : Type 0
UsersAreExact = (recipe : RecipeValue) (chunk : ℕ) → IsRecipe recipe
    → IsStrictlyIncreasing (users_of recipe chunk) × ((file : ℕ) → list_any (λ user. file == user) (users_of recipe chunk) ≡ list_any (is_pair file chunk) recipe.pairs)

-- the chunks of a file are exactly those that are paired with it, in strictly rising order
abbrev pub ChunksAreExact : Type 0
ChunksAreExact = (recipe : RecipeValue) (file : ℕ) → IsRecipe recipe
    → IsStrictlyIncreasing (chunks_of recipe file) × ((chunk : ℕ) → list_any (λ used. chunk == used) (chunks_of recipe file) ≡ list_any (is_pair file chunk) recipe.pairs)
