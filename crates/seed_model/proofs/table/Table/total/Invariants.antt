use Rattle.std.proofs.Common.{◌≡◌, take}
use Rattle.std.specs.Prelude.{sum_by}
use Rattle.seed_model.specs.declared.table.Class.{Class}
use Rattle.seed_model.proofs.table.Table.total.Given as goal

abbrev pub invariant-loop-class : goal.invariant-loop-class
invariant-loop-class l = l.total ≡ sum_by (λ (c : Class). c.size) (take l.class-index l.class-items)
