use Rattle.std.proofs.Common.{sym, ◌∙◌, ap}
use Rattle.std.specs.FinMap as map
use Rattle.volume_index.specs.Indexes.{IndexValue}
use Rattle.volume_index.proofs.Indexing.{chunk_many}
use Rattle.volume_index.proofs.index.Index.chunk_count.Goals as goal

pub returns : goal.returns
returns c = c.len.ensures.len ∙ sym (chunk_many c.self.inside.chunks.entries) ∙ ap (λ (v : IndexValue). map.len v.shape.chunks) c.self.view_is
