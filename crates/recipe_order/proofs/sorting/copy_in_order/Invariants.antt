use Rattle.std.proofs.Common.{take}
use Rattle.recipe_order.proofs.Steps.{IsInOrder}
use Rattle.recipe_order.proofs.sorting.copy_in_order.Given as goal

abbrev pub invariant-loop-file : goal.invariant-loop-file
invariant-loop-file l = IsInOrder l.recipe l.copy (take l.file-index l.order)
