use Rattle.std.proofs.Common.{sym, ◌∙◌, ap}
use Rattle.site_forms.specs.Volumes.{may_drop_chunk}
use Rattle.volume_index.specs.Indexes.{IndexValue}
use Rattle.volume_index.proofs.IndexReads.{may_told, may_not}
use Rattle.volume_index.proofs.index.Index.may_drop_chunk.Goals as goal

pub returns-in-Some : goal.returns-in-Some
returns-in-Some c =
    may_told c.self.inside c.args.name.now c.in-Some.chunk c.self.invariant (sym c.in-Some.ensures) ∙ ap (λ (v : IndexValue). may_drop_chunk v.shape c.args.name.now) c.self.view_is

pub returns-in-None : goal.returns-in-None
returns-in-None c = may_not c.self.inside c.args.name.now (sym c.in-None.ensures) ∙ ap (λ (v : IndexValue). may_drop_chunk v.shape c.args.name.now) c.self.view_is
