use Rattle.std.proofs.Common.{◌≡◌, ◌≤◌, length}
use Rattle.model_tests.proofs.flow.net_of.Given as goal

-- no more pipes than were read
abbrev pub invariant-loop-from : goal.invariant-loop-from
invariant-loop-from l =
    record {
      nodes : l.net.nodes ≡ l.nodes;
      few : length l.net.pipes ≤ l.from-index;
    }
