use Rattle.std.proofs.Common.{◌≡◌, ◌++◌, drop}
use Rattle.std.specs.Prelude.{map}
use Rattle.seed_model.specs.Keys.{class_at}
use Rattle.seed_model.specs.Nodes.{is_free}
use Rattle.hull_bound.specs.Slots.{pipe_of, reward_slots, reward_spokes}
use Rattle.hull_bound.proofs.node_net.add_rewards.Given as goal

abbrev pub invariant-loop-file : goal.invariant-loop-file
invariant-loop-file l = record {
  nodes : l.net.nodes ≡ l.fn.net.nodes;
  left :
      l.net.pipes ++ map (pipe_of l.table.files l.fn.slope.p l.fn.slope.q) (reward_spokes (is_free l.node) l.class (class_at l.table.classes l.class).size (drop l.file-index l.users))
      ≡ l.fn.net.pipes ++ map (pipe_of l.table.files l.fn.slope.p l.fn.slope.q) (reward_slots l.node l.class (class_at l.table.classes l.class));
}
