use Rattle.std.proofs.Common.{◌≡◌, ℕ, List, Some}
use Rattle.std.specs.Prelude.{slice_get}
use Rattle.std.specs.FinMap as map
use Rattle.chunk_volume.proofs.Recipes.{ChunksAdded}
use Rattle.chunk_volume.proofs.recipe.add_list.Given as goal

abbrev pub invariant-chunks : goal.invariant-chunks
invariant-chunks l = (name : List ℕ) → slice_get (map.keys l.fn.holding.shape.files) l.fn.place ≡ Some name → ChunksAdded l.fn.holding.shape l.fn.recipe l.recipe l.file name l.list l.chunk-index
