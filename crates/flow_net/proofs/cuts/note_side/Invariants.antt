use Rattle.std.proofs.Common.{◌≡◌, ℕ, ◌<◌, false, get_or}
use Rattle.flow_net.specs.Levels.{reached}
use Rattle.flow_net.specs.Cuts.{chosen}
use Rattle.flow_net.proofs.cuts.note_side.Given as goal

-- the nodes so far are noted
abbrev pub invariant-loop-index : goal.invariant-loop-index
invariant-loop-index l = (v : ℕ) → v < l.index → get_or l.side v false ≡ chosen l.which (reached l.levels v)
