use Rattle.std.proofs.Common.{ℕ, ◌<◌, [], slice_index_or}
use Rattle.std.specs.FinMap as map
use Rattle.site_forms.specs.Sites.{HoldsFile}
use Rattle.site_core.proofs.fit.are_files_in.Given as goal

abbrev pub invariant-loop-place : goal.invariant-loop-place
invariant-loop-place l = (j : ℕ) → j < l.place → HoldsFile l.index.shape (slice_index_or (map.keys l.volume.shape.files) j [])
