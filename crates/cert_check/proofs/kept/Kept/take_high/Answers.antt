use Rattle.cert_check.proofs.Keepings.{high_take, as_said}
use Rattle.cert_check.proofs.kept.Kept.take_high.Goals as goal

pub returns : goal.returns
returns c = as_said _ _ _ _ _ _ _ c.here.ensures
    (high_take c.args.table.now c.args.self.now c.close.new.self c.node.result.now c.args.next c.judge_high-broken.result c.requires.kept c.requires.placed
    c.node.ensures c.close.ensures.root c.close.ensures.waiting c.judge_high-broken.ensures)
