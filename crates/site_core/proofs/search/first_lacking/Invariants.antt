use Rattle.std.proofs.Common.{ℕ, ◌<◌, ◌≤◌, [], slice_index_or}
use Rattle.site_forms.specs.Sites.{HoldsChunk}
use Rattle.site_core.proofs.search.first_lacking.Given as goal

abbrev pub invariant-loop-place : goal.invariant-loop-place
invariant-loop-place l = (j : ℕ) → l.from ≤ j → j < l.place → HoldsChunk l.target.shape (slice_index_or l.list j [])
