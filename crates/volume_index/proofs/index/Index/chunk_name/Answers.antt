use Rattle.std.proofs.Common.{List, ℕ, sym, ◌∙◌, ap, arith}
use Rattle.std.specs.Prelude.{slice_get}
use Rattle.std.specs.FinMap as map
use Rattle.volume_index.specs.Indexes.{IndexValue}
use Rattle.volume_index.proofs.Indexing.{chunk_many, chunk_keys}
use Rattle.volume_index.proofs.index.Index.chunk_name.Goals as goal

pub name_at-requires-clause-ordered : goal.name_at-requires-clause-ordered
name_at-requires-clause-ordered c = ap (λ (v : IndexValue). v.is_ordered) c.self.view_is ∙ c.requires.ordered

pub name_at-requires-clause-there : goal.name_at-requires-clause-there
name_at-requires-clause-there c = omega (arith, c.requires.there, chunk_many c.self.inside.chunks.entries, ap (λ (v : IndexValue). map.len v.shape.chunks) c.self.view_is)

pub returns : goal.returns
returns c =
    ap (λ (v : IndexValue). slice_get (map.keys v.shape.chunks) c.args.place) (sym c.self.view_is)
    ∙ ap (λ (l : List (List ℕ)). slice_get l c.args.place) (chunk_keys c.self.inside.chunks.entries)
    ∙ c.name_at.ensures
