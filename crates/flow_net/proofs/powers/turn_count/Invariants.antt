use Rattle.std.proofs.Common.{ℕ, ◌^◌, ◌<◌, ◌≤◌}
use Rattle.flow_net.proofs.powers.turn_count.Given as goal

-- fewer digits are too few
abbrev pub invariant-loop-digits : goal.invariant-loop-digits
invariant-loop-digits l = (k : ℕ) → 1 ≤ k → l.greatest < 2 ^ k → l.digits ≤ k
