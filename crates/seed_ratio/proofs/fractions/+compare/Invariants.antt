use Rattle.std.proofs.Common.{◌+◌}
use Rattle.seed_ratio.proofs.fractions.+compare.Given as goal

abbrev pub decreases-compare : goal.decreases-compare
decreases-compare l = l.b + l.d
