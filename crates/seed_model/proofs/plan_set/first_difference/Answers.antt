use Rattle.std.proofs.Common.{arith}
use Rattle.seed_model.proofs.BitSets.{same_items}
use Rattle.seed_model.proofs.plan_set.first_difference.Goals as goal

pub returns-clause-none : goal.returns-clause-none
returns-clause-none c = same_items c.args.one.now c.args.other.now c.requires (λ i lt. c.loop-word.invariant i (omega (arith, lt, c.files.ensures, c.div_ceil-word-end.ensures, c.loop-word-test.false)))
