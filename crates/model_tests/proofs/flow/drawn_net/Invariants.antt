use Rattle.std.proofs.Common.{◌≡◌, ◌≤◌, length}
use Rattle.model_tests.proofs.flow.drawn_net.Given as goal

-- no more pipes than were drawn
abbrev pub invariant-loop-count : goal.invariant-loop-count
invariant-loop-count l =
    record {
      nodes : l.net.nodes ≡ l.nodes;
      few : length l.net.pipes ≤ l._count;
    }
