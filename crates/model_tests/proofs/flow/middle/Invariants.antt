use Rattle.std.proofs.Common.{◌≡◌}
use Rattle.model_tests.proofs.flow.middle.Given as goal

-- the net keeps its nodes
abbrev pub invariant-loop-left : goal.invariant-loop-left
invariant-loop-left l = l.net.nodes ≡ l.fn.net.nodes

abbrev pub invariant-loop-right : goal.invariant-loop-right
invariant-loop-right l = l.net.nodes ≡ l.fn.net.nodes

abbrev pub invariant-loop-place : goal.invariant-loop-place
invariant-loop-place l = l.net.nodes ≡ l.fn.net.nodes
