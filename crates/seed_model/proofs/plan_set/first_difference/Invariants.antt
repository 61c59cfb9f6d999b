use Rattle.std.proofs.Common.{◌≡◌, ◌<◌, ◌*◌, ℕ}
use Rattle.seed_model.specs.Files.{holds}
use Rattle.seed_model.proofs.plan_set.first_difference.Given as goal

abbrev pub invariant-loop-word : goal.invariant-loop-word
invariant-loop-word l = (before : ℕ) → before < 64 * l.word → holds l.one before ≡ holds l.other before
