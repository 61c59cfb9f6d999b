use Rattle.std.proofs.Common.{ℕ, ◌<◌, [], slice_index_or}
use Rattle.site_forms.specs.Sites.{HoldsFile}
use Rattle.seed_mover.proofs.beginning.holds_names.Given as goal

abbrev pub invariant-loop-place : goal.invariant-loop-place
invariant-loop-place l = (j : ℕ) → j < l.place → HoldsFile l.holding.shape (slice_index_or l.names j [])
