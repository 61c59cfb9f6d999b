use Rattle.std.proofs.Common.{◌≡◌, ℕ, ◌<◌, get_or}
use Rattle.flow_net.specs.Levels.{unreached}
use Rattle.flow_net.proofs.levels.clear.Given as goal

-- the levels so far are forgotten
abbrev pub invariant-loop-level : goal.invariant-loop-level
invariant-loop-level l = (v : ℕ) → v < l.level-index → get_or l.levels v unreached ≡ unreached
