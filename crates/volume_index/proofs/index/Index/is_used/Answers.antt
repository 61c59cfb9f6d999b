use Rattle.std.proofs.Common.{sym, ◌∙◌, ap}
use Rattle.std.specs.FinMap as map
use Rattle.site_forms.specs.Volumes.{used}
use Rattle.volume_index.specs.Indexes.{IndexValue}
use Rattle.volume_index.proofs.IndexReads.{used_told, lacking_told}
use Rattle.volume_index.proofs.index.Index.is_used.Goals as goal

pub returns-in-Some : goal.returns-in-Some
returns-in-Some c =
    used_told c.self.inside c.args.name.now c.in-Some.chunk c.self.invariant (sym c.in-Some.ensures)
    ∙ ap (λ (v : IndexValue). map.contains_key (used v.shape.files) c.args.name.now) c.self.view_is

pub returns-in-None : goal.returns-in-None
returns-in-None c =
    sym (lacking_told c.self.inside c.args.name.now c.self.invariant (sym c.in-None.ensures))
    ∙ ap (λ (v : IndexValue). map.contains_key (used v.shape.files) c.args.name.now) c.self.view_is
