use Rattle.std.proofs.Common.{◌≡◌, take}
use Rattle.std.specs.List.{fold}
use Rattle.std.specs.FinMap as map
use Rattle.recipe_reader.specs.Recipes.{empty_recipe}
use Rattle.chunk_volume.specs.ReadingVolumes.{with_list}
use Rattle.chunk_volume.proofs.recipe.recipe_from.Given as goal

abbrev pub invariant-files : goal.invariant-files
invariant-files l = l.recipe ≡ fold (with_list l.holding.shape) empty_recipe (take l.place (map.entries l.holding.shape.files))
