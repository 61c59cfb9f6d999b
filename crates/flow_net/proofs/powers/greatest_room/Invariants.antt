use Rattle.std.proofs.Common.{ℕ, ◌<◌, ◌≤◌}
use Rattle.flow_net.specs.Nets.{pipe_at}
use Rattle.flow_net.specs.Flows.{AreRoomsBelow}
use Rattle.flow_net.proofs.powers.greatest_room.Given as goal

-- the greatest so far
abbrev pub invariant-loop-pipe : goal.invariant-loop-pipe
invariant-loop-pipe l =
    record {
      upper : (i : ℕ) → i < l.pipe-index → (pipe_at l.pipes i).room ≤ l.greatest;
      least : (limit : ℕ) → 0 < limit → AreRoomsBelow limit l.pipes → l.greatest < limit;
    }
