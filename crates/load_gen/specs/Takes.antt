-- When a recipe takes a row that is drawn.
use Rattle.std.specs.Prelude.{ℕ, ◌<◌, List, Some}
use Rattle.file_names.specs.FileNames.{IsFileName}
use Rattle.recipe_reader.specs.Limits.{IsWithinLimits, KeepsSize}
use Rattle.recipe_reader.specs.Recipes.{RecipeValue, with_file}
use Rattle.recipe_reader.specs.RecipeRows.{with_row}
use Rattle.load_gen.specs.Draws.{chunk_numbered, row_of}

-- the names are lawful, the limits leave room for the file and for the pair, and the chunk's size is known or new
pub record Takes (recipe : RecipeValue) (file : List ℕ) (chunk : ℕ) : Type 0 where
  pub name : IsFileName file
  pub below : chunk < 49149
  pub file_room : IsWithinLimits (with_file recipe file)
  pub room : IsWithinLimits (with_row recipe (row_of file chunk))
  pub size : KeepsSize recipe (Some (chunk_numbered chunk))
