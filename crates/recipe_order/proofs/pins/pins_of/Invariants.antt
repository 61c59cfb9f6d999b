use Rattle.recipe_order.proofs.Pinned.{IsOutsideSoFar}
use Rattle.recipe_order.proofs.pins.pins_of.Given as goal

abbrev pub invariant-loop-file : goal.invariant-loop-file
invariant-loop-file l = IsOutsideSoFar l.set l.outside l.file
