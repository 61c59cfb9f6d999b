use Rattle.std.proofs.Common.{◌≡◌, ℕ, ◌<◌, [], true, slice_index_or}
use Rattle.std.specs.FinMap as map
use Rattle.site_forms.specs.Volumes.{used}
use Rattle.site_core.proofs.fit.are_chunks_used.Given as goal

abbrev pub invariant-loop-place : goal.invariant-loop-place
invariant-loop-place l = (j : ℕ) → j < l.place → map.contains_key (used l.index.shape.files) (slice_index_or (map.keys l.volume.shape.chunks) j []) ≡ true
