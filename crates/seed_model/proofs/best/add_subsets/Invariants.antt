use Rattle.seed_model.proofs.SubsetSums.{HalfAdded}
use Rattle.seed_model.proofs.best.add_subsets.Given as goal

abbrev pub invariant-loop-mask : goal.invariant-loop-mask
invariant-loop-mask l = HalfAdded l.file l.mask l.initial.sums l.sums
