use Rattle.std.proofs.Common.{◌≡◌, ℕ, ◌<◌, [], slice_index_or}
use Rattle.std.specs.FinMap as map
use Rattle.site_forms.specs.Sites.{HoldsFile}
use Rattle.site_core.proofs.fit.have_one_list.Given as goal

abbrev pub invariant-files : goal.invariant-files
invariant-files l = (j : ℕ) → j < l.place → HoldsFile l.a.shape (slice_index_or (map.keys l.b.shape.files) j []) → map.get l.a.shape.files (slice_index_or (map.keys l.b.shape.files) j []) ≡ map.get l.b.shape.files (slice_index_or (map.keys l.b.shape.files) j [])
