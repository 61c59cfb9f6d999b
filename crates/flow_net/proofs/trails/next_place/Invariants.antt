use Rattle.std.proofs.Common.{ℕ, ◌≤◌, ◌<◌}
use Rattle.flow_net.specs.Links.{link_at}
use Rattle.flow_net.specs.Trails.{IsGood}
use Rattle.flow_net.proofs.trails.next_place.Given as goal

-- no link so far leads to the node
abbrev pub invariant-loop-place : goal.invariant-loop-place
invariant-loop-place l =
    record {
      behind : l.from ≤ l.place;
      first : (k : ℕ) → l.from ≤ k → k < l.place → ¬ IsGood l.pipes l.sought.filling.now.amounts l.sought.power l.levels l.level (link_at l.row k);
    }
