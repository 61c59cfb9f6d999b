use Rattle.std.proofs.Common.{◌≡◌, ◌<◌, ◌+◌, ℕ}
use Rattle.seed_model.specs.Files.{holds}
use Rattle.seed_model.proofs.plan_set.difference_in_word.Given as goal

abbrev pub invariant-loop-place : goal.invariant-loop-place
invariant-loop-place l = (before : ℕ) → before < l.place → holds l.one (l.first + before) ≡ holds l.other (l.first + before)
