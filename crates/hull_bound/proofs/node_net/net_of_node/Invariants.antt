use Rattle.std.proofs.Common.{◌≡◌, ◌+◌, ◌*◌, ◌++◌, length, drop}
use Rattle.std.specs.Prelude.{map}
use Rattle.hull_bound.specs.Slots.{pipe_of, slots_from}
use Rattle.hull_bound.proofs.node_net.net_of_node.Given as goal

abbrev pub invariant-loop-class : goal.invariant-loop-class
invariant-loop-class l = record {
  nodes : l.net.nodes ≡ 2 + l.table.files + 2 * length l.table.classes;
  left :
      l.net.pipes ++ map (pipe_of l.table.files l.slope.p l.slope.q) (slots_from l.node l.class (drop l.class l.table.classes))
      ≡ map (pipe_of l.table.files l.slope.p l.slope.q) (slots_from l.node 0 l.table.classes);
}
