use Rattle.seed_model.proofs.BitSets.{bits_from-zeros}
use Rattle.seed_model.proofs.plan_set.PlanSet.empty.Goals as goal

pub returns-in-Ok : goal.returns-in-Ok
returns-in-Ok c =
    record { empty = rw (c.in-Ok.ensures.items_if_clones_equal (λ y e. e)) (bits_from-zeros c.div_ceil-count.result 0 c.args.files) }
