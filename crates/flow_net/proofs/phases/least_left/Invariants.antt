use Rattle.std.proofs.Common.{ℕ, ◌^◌, ◌≤◌, ◌<◌}
use Rattle.flow_net.specs.Paths.{left_on, HaveLeft}
use Rattle.flow_net.specs.Trails.{use_at}
use Rattle.flow_net.proofs.phases.least_left.Given as goal

-- the least of what the uses so far have left
abbrev pub invariant-loop-along : goal.invariant-loop-along
invariant-loop-along l =
    record {
      left : (k : ℕ) → k < l.along-index → l.least ≤ left_on l.pipes l.filling.amounts (use_at l.path k);
      most : (w : ℕ) → w < 2 ^ 128 → HaveLeft l.pipes l.filling.amounts w l.path → w ≤ l.least;
    }
