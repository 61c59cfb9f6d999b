use Rattle.std.proofs.Common.{◌+◌}
use Rattle.seed_model.specs.Differences.{ClearsWithin}
use Rattle.seed_model.proofs.plan_set.clears_files.Given as goal

abbrev pub invariant-loop-place : goal.invariant-loop-place
invariant-loop-place l = ClearsWithin l.first (l.first + l.place) l.inside l.one l.other
