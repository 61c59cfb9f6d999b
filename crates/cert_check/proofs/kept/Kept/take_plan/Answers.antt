use Rattle.cert_check.proofs.Keepings.{plan_take, as_said}
use Rattle.cert_check.proofs.kept.Kept.take_plan.Goals as goal

pub returns : goal.returns
returns c = as_said _ _ _ _ _ _ _ c.here.ensures
    (plan_take c.args.table.now c.args.self.now c.root.result.now c.judge_plan-broken.new.plan c.args.set.now c.args.migrated c.args.replicated c.args.next c.judge_plan-broken.result c.requires.kept c.requires.placed
    c.root.ensures c.judge_plan-broken.ensures.judged c.judge_plan-broken.ensures.plan c.judge_plan-broken.ensures.stays)
