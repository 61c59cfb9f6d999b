use Rattle.std.proofs.Common.{sym, ◌∙◌, ap, arith}
use Rattle.std.specs.Prelude.{slice_get}
use Rattle.std.specs.FinMap as map
use Rattle.volume_index.specs.Indexes.{IndexValue}
use Rattle.volume_index.specs.IndexInside.{view_of}
use Rattle.volume_index.proofs.IndexReads.{short_at}
use Rattle.volume_index.proofs.index.Index.file_chunks.Goals as goal

pub chunks_at-requires : goal.chunks_at-requires
chunks_at-requires c = omega (arith, c.requires, ap (λ (v : IndexValue). map.len v.shape.files) c.self.view_is)

pub returns-clause-list : goal.returns-clause-list
returns-clause-list c = ap (λ (v : IndexValue). slice_get (map.values v.shape.files) c.args.place) (sym c.self.view_is) ∙ c.chunks_at.ensures

pub returns-clause-short : goal.returns-clause-short
returns-clause-short c = short_at (view_of c.self.inside).shape c.args.place c.chunks_at.result.now c.self.invariant.shape c.chunks_at.ensures
