-- Recipes that are part of another one.
use Rattle.std.specs.Prelude.{ℕ, List, Contains}
use Rattle.recipe_reader.specs.Lawful.{IsRecipe}
use Rattle.recipe_reader.specs.Recipes.{NamedChunk, RecipeValue}
use Rattle.recipe_reader.specs.Same.{UsesByName}

-- a lawful recipe whose files, chunks and pairs are all another one's, by name
pub record IsPartOf (whole part : RecipeValue) : Type 0 where
  pub recipe : IsRecipe part
  pub files : (name : List ℕ) → Contains part.files name → Contains whole.files name
  pub chunks : (chunk : NamedChunk) → Contains part.chunks chunk → Contains whole.chunks chunk
  pub pairs : (file chunk : List ℕ) → UsesByName part file chunk → UsesByName whole file chunk
