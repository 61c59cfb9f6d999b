use Rattle.cert_check.proofs.Keepings.{bound_take, as_said}
use Rattle.cert_check.proofs.kept.Kept.take_bound.Goals as goal

pub returns : goal.returns
returns c = as_said _ _ _ _ _ _ _ c.here.ensures
    (bound_take c.args.table.now c.args.self.now c.begin.new.self c.args.bound c.replicated_by-replicated.result c.args.next c.judge_bound.result c.requires.kept c.requires.lawful c.requires.placed
    c.begin.ensures.root c.begin.ensures.waiting c.replicated_by-replicated.ensures c.judge_bound.ensures.judged)
