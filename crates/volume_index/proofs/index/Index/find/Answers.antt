use Rattle.std.proofs.Common.{sym, ◌∙◌, ap, arith}
use Rattle.std.specs.Prelude.{slice_get}
use Rattle.std.specs.FinMap as map
use Rattle.std.proofs.lemmas.Option.{slice_get_within}
use Rattle.volume_index.specs.Indexes.{IndexValue}
use Rattle.volume_index.proofs.Indexing.{few_of}
use Rattle.volume_index.proofs.Ranks.{count_keys}
use Rattle.volume_index.proofs.index.Index.find.Goals as goal

pub overflow_cast-result : goal.overflow_cast-result
overflow_cast-result c =
    omega (arith, slice_get_within (map.keys c.self.inside.files.files) c.in-Some.place c.args.name.now c.in-Some.ensures, count_keys c.self.inside.files.files, (few_of c.self.inside c.self.invariant).files)

pub returns-in-Some : goal.returns-in-Some
returns-in-Some c = ap (λ (v : IndexValue). slice_get (map.keys v.shape.files) c.in-Some.place) (sym c.self.view_is) ∙ c.in-Some.ensures

pub returns-in-None : goal.returns-in-None
returns-in-None c = ap (λ (v : IndexValue). map.contains_key v.shape.files c.args.name.now) (sym c.self.view_is) ∙ c.in-None.ensures
