use Rattle.std.proofs.Common.{drop, arith}
use Rattle.seed_model.specs.Files.{holds}
use Rattle.seed_model.specs.Nodes.{is_free}
use Rattle.hull_bound.specs.Walks.{asked}
use Rattle.hull_bound.proofs.Reading.{walk_left}
use Rattle.hull_bound.proofs.gives.push_gives.Goals as goal

pub loop-file-preserved : goal.loop-file-preserved
loop-file-preserved c =
    let amounts = c.args.amounts.flow.now.amounts in
    record {
      rest = omega (arith, c.loop-file.invariant.rest, c.take-reward.ensures.less);
      due = omega (arith, c.loop-file.invariant.due, c.take-charge.ensures.less);
      reward_pipe = omega (arith, c.loop-file.invariant.reward_pipe, c.take-reward.ensures.next);
      charge_pipe = omega (arith, c.loop-file.invariant.charge_pipe, c.take-charge.ensures.next);
      left =
          walk_left (is_free c.args.node.now) (asked c.args.node.now c.args.barred) (holds c.args.node.now.inside) c.args.class c.args.users.now c.loop-file.file-index
          c.loop-file.rewards.rest c.loop-file.charges.rest (drop c.loop-file.rewards.pipe amounts) (drop c.loop-file.charges.pipe amounts)
          c.loop-file.gives.items c.push_some.new.gives.items _ c.is_open-free.result c.is_asked-asks.result c.contains-pays.result
          c.take-charge.result c.take-reward.result c.take-reward.new.self.rest c.take-charge.new.self.rest (drop c.take-reward.new.self.pipe amounts) (drop c.take-charge.new.self.pipe amounts)
          c.loop-file-test.true c.loop-file.invariant.left c.is_open-free.ensures c.is_asked-asks.ensures c.contains-pays.ensures
          c.take-charge.ensures.taken c.take-reward.ensures.taken c.in_ok-push_some.ensures
          c.take-reward.ensures.rest c.take-charge.ensures.rest c.take-reward.ensures.pipe c.take-charge.ensures.pipe;
    }
