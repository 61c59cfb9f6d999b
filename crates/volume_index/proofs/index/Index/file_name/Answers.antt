use Rattle.std.proofs.Common.{sym, ◌∙◌, ap, arith}
use Rattle.std.specs.Prelude.{slice_get}
use Rattle.std.specs.FinMap as map
use Rattle.volume_index.specs.Indexes.{IndexValue}
use Rattle.volume_index.specs.IndexInside.{view_of}
use Rattle.volume_index.proofs.IndexReads.{lawful_at}
use Rattle.volume_index.proofs.index.Index.file_name.Goals as goal

pub name_at-requires : goal.name_at-requires
name_at-requires c = omega (arith, c.requires, ap (λ (v : IndexValue). map.len v.shape.files) c.self.view_is)

pub returns-clause-name : goal.returns-clause-name
returns-clause-name c = ap (λ (v : IndexValue). slice_get (map.keys v.shape.files) c.args.place) (sym c.self.view_is) ∙ c.name_at.ensures

pub returns-clause-lawful : goal.returns-clause-lawful
returns-clause-lawful c = lawful_at (view_of c.self.inside).shape c.args.place c.name_at.result.now c.self.invariant.shape c.name_at.ensures
