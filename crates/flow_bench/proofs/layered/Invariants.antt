use Rattle.std.proofs.Common.{◌≡◌, ◌+◌, ◌*◌}
use Rattle.flow_bench.proofs.layered.Given as goal

-- the net keeps its nodes
abbrev pub invariant-loop : goal.invariant-loop
invariant-loop l = l.net.nodes ≡ l.shape.files + 2 * l.shape.classes + 2

abbrev pub invariant-loop-class : goal.invariant-loop-class
invariant-loop-class l = l.net.nodes ≡ l.shape.files + 2 * l.shape.classes + 2
