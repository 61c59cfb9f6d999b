-- Equal recipes, whatever the numbers of their chunks.
use Rattle.std.specs.Prelude.{◌≡◌, ◌↔◌, ℕ, List, Contains, Some, slice_get, map}
use Rattle.recipe_reader.specs.Reading.{Leads}
use Rattle.recipe_reader.specs.Recipes.{NamedChunk, RecipeValue, empty_recipe}

-- a file uses a chunk, both by name
pub record UsesByName (recipe : RecipeValue) (file chunk : List ℕ) : Type 0 where
  pub pair : ℕ × ℕ
  pub stands : Contains recipe.pairs pair
  pub file_named : slice_get recipe.files pair.0 ≡ Some file
  pub chunk_named : slice_get (map (λ (c : NamedChunk). c.name) recipe.chunks) pair.1 ≡ Some chunk

-- the same files in order, the same chunks with their sizes, the same pairs by name
pub record IsSameRecipe (a b : RecipeValue) : Type 0 where
  pub files : b.files ≡ a.files
  pub chunks : (chunk : NamedChunk) → Contains a.chunks chunk ↔ Contains b.chunks chunk
  pub pairs : (file chunk : List ℕ) → UsesByName a file chunk ↔ UsesByName b file chunk

-- these rows lead to an equal recipe
pub record ReadsBack (rows : List (List (List ℕ))) (recipe : RecipeValue) : Type 0 where
  pub back : RecipeValue
  pub leads : Leads empty_recipe rows back
  pub same : IsSameRecipe recipe back
