use Rattle.std.proofs.Common.{◌≡◌, ℕ, ◌<◌, [], false, slice_index_or}
use Rattle.std.specs.FinMap as map
use Rattle.site_core.proofs.fit.are_apart.Given as goal

abbrev pub invariant-loop-place : goal.invariant-loop-place
invariant-loop-place l = (j : ℕ) → j < l.place → map.contains_key l.b.shape.files (slice_index_or (map.keys l.a.shape.files) j []) ≡ false
