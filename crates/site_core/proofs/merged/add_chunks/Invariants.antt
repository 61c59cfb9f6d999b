use Rattle.std.proofs.Common.{◌≡◌, ℕ, ◌<◌, [], slice_index_or}
use Rattle.std.specs.FinMap as map
use Rattle.site_forms.specs.Sites.{HoldsChunk}
use Rattle.site_core.specs.Fitting.{HoldsChunksOf}
use Rattle.site_core.proofs.merged.add_chunks.Given as goal

abbrev pub invariant-loop-place : goal.invariant-loop-place
invariant-loop-place l = record {
  files : l.index.shape.files ≡ l.fn.index.shape.files;
  old : HoldsChunksOf l.index.shape l.fn.index.shape;
  new : (j : ℕ) → j < l.place → HoldsChunk l.index.shape (slice_index_or (map.keys l.holding.shape.chunks) j []);
}
