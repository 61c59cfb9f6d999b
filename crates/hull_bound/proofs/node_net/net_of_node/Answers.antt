use Rattle.std.proofs.Common.{arith}
use Rattle.hull_bound.specs.Slots.{pipe_of}
use Rattle.hull_bound.proofs.Building.{few_rewards, few_charges, left_next}
use Rattle.hull_bound.proofs.node_net.net_of_node.Goals as goal

pub add_rewards-requires-clause-few : goal.add_rewards-requires-clause-few
add_rewards-requires-clause-few c =
    few_rewards c.args.table.now (pipe_of c.args.table.now.files c.args.slope.p c.args.slope.q) c.args.node.now c.loop-class.net.pipes c.loop-class.class
    c.files.ensures.table (omega arith) c.loop-class.invariant.left

pub add_charges-requires-clause-few : goal.add_charges-requires-clause-few
add_charges-requires-clause-few c =
    few_charges c.args.table.now (pipe_of c.args.table.now.files c.args.slope.p c.args.slope.q) c.args.node.now c.loop-class.net.pipes c.loop-class.class
    c.files.ensures.table (omega arith) c.loop-class.invariant.left c.add_rewards.new.net.pipes c.in_ok-add_rewards.ensures.added

pub loop-class-preserved : goal.loop-class-preserved
loop-class-preserved c = record {
  nodes = omega (arith, c.loop-class.invariant.nodes, c.add_rewards.ensures.nodes, c.add_charges.ensures.nodes);
  left =
      left_next c.args.table.now (pipe_of c.args.table.now.files c.args.slope.p c.args.slope.q) c.args.node.now c.loop-class.net.pipes c.loop-class.class
      c.files.ensures.table (omega arith) c.loop-class.invariant.left c.add_rewards.new.net.pipes c.add_charges.new.net.pipes c.in_ok-add_rewards.ensures.added c.in_ok-add_charges.ensures.added;
}
