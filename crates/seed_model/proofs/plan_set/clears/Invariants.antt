use Rattle.std.proofs.Common.{◌*◌}
use Rattle.seed_model.specs.Differences.{ClearsWithin}
use Rattle.seed_model.proofs.plan_set.clears.Given as goal

abbrev pub invariant-loop-word : goal.invariant-loop-word
invariant-loop-word l = ClearsWithin 0 (64 * l.word) l.inside l.one l.other
