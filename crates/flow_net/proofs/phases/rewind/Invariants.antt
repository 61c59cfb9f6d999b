use Rattle.std.proofs.Common.{◌≡◌, ℕ, ◌<◌, get_or}
use Rattle.flow_net.proofs.phases.rewind.Given as goal

-- the pointers so far are back
abbrev pub invariant-loop-pointer : goal.invariant-loop-pointer
invariant-loop-pointer l = (v : ℕ) → v < l.pointer-index → get_or l.next v 0 ≡ 0
