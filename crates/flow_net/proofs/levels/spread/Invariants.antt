use Rattle.std.proofs.Common.{ℕ, ◌<◌, length}
use Rattle.flow_net.specs.Links.{link_at}
use Rattle.flow_net.specs.Levels.{IsQueue, Spreads, IsNext, LeadsFar, IsReached}
use Rattle.flow_net.proofs.levels.spread.Given as goal

-- the links so far are crossed
abbrev pub invariant-loop-link : goal.invariant-loop-link
invariant-loop-link l =
    record {
      queue : IsQueue (length l.fn.levels) l.levels l.queue l.filled;
      spreads : Spreads (IsNext l.pipes l.sought.filling.now.amounts l.sought.power l.sought.backward l.row l.link-index) l.level l.fn.levels l.levels l.fn.queue l.queue l.count l.filled;
      crossed : (k : ℕ) → k < l.link-index → LeadsFar l.pipes l.sought.filling.now.amounts l.sought.power l.sought.backward (link_at l.row k) → IsReached l.levels (link_at l.row k).far;
    }
