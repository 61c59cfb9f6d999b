use Rattle.std.proofs.Common.{take}
use Rattle.recipe_order.specs.Matching.{AreNumbers, chunk_names}
use Rattle.recipe_order.proofs.name_table.chunk_numbers.Given as goal

abbrev pub invariant-loop-chunk : goal.invariant-loop-chunk
invariant-loop-chunk l = AreNumbers (chunk_names l.whole) (take l.chunk (chunk_names l.part)) l.numbers.items
