use Rattle.std.proofs.Common.{◌≡◌, take}
use Rattle.recipe_order.specs.Matching.{chunk_names}
use Rattle.recipe_order.proofs.name_table.chunk_table.Given as goal

abbrev pub invariant-loop-chunk : goal.invariant-loop-chunk
invariant-loop-chunk l = l.table ≡ take l.chunk (chunk_names l.recipe)
