use Rattle.recipe_order.proofs.Matched.{IsCarriedSoFar}
use Rattle.recipe_order.proofs.matching.carried.Given as goal

abbrev pub invariant-loop-file : goal.invariant-loop-file
invariant-loop-file l = IsCarriedSoFar l.from l.to l.set l.carried l.file
