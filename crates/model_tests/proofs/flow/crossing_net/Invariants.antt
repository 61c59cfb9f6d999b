use Rattle.std.proofs.Common.{◌≡◌}
use Rattle.model_tests.proofs.flow.crossing_net.Given as goal

-- the net keeps its nodes
abbrev pub invariant-loop-crossing : goal.invariant-loop-crossing
invariant-loop-crossing l = l.net.nodes ≡ 42

abbrev pub invariant-loop-node : goal.invariant-loop-node
invariant-loop-node l = l.net.nodes ≡ 42
