use Rattle.seed_model.proofs.FirstBest.{KeepsFirst}
use Rattle.seed_model.proofs.best.best_mask.Given as goal

abbrev pub invariant-loop-mask : goal.invariant-loop-mask
invariant-loop-mask l = KeepsFirst l.table l.range l.mask l.best
