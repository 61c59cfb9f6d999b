use Rattle.std.proofs.Common.{take}
use Rattle.recipe_order.proofs.Steps.{IsCopying}
use Rattle.recipe_order.proofs.sorting.copy_file.Given as goal

abbrev pub invariant-loop-chunk : goal.invariant-loop-chunk
invariant-loop-chunk l = IsCopying l.recipe l.fn.copy l.copy l.file l.number (take l.chunk-index l.chunks)
