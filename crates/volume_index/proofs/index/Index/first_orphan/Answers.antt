use Rattle.std.proofs.Common.{◌<◌, ◌≤◌, ◌∙◌, ap, arith, ⊎_elim}
use Rattle.std.specs.Prelude.{slice_get}
use Rattle.std.proofs.lemmas.Bool.{cases_lt}
use Rattle.volume_index.specs.HoldingValues.{orphans}
use Rattle.volume_index.specs.Indexes.{IndexValue}
use Rattle.volume_index.proofs.Indexing.{UsedBefore}
use Rattle.volume_index.proofs.IndexReads.{least_orphan, no_orphan}
use Rattle.volume_index.proofs.index.Index.first_orphan.Goals as goal

pub first_unused-place-requires-clause-ordered : goal.first_unused-place-requires-clause-ordered
first_unused-place-requires-clause-ordered c = ap (λ (v : IndexValue). v.is_ordered) c.self.view_is ∙ c.requires

pub first_unused-place-requires-clause-within : goal.first_unused-place-requires-clause-within
first_unused-place-requires-clause-within c = c.self.invariant.within

pub name_at-requires-clause-ordered : goal.name_at-requires-clause-ordered
name_at-requires-clause-ordered c = ap (λ (v : IndexValue). v.is_ordered) c.self.view_is ∙ c.requires

pub returns-then-place-len : goal.returns-then-place-len
returns-then-place-len c =
    let before : UsedBefore c.self.inside.chunks.entries c.first_unused-place.result = λ j less. ⊎_elim (λ (early : j < c.self.inside.first). c.self.invariant.first j early)
    (λ (late : c.self.inside.first ≤ j). c.first_unused-place.ensures.used j late less) (cases_lt j c.self.inside.first) in
    least_orphan c.self.inside c.first_unused-place.result c.name_at.result.now c.self.invariant c.name_at.ensures before (c.first_unused-place.ensures.unused (omega (arith, c.if-place-len.true, c.len.ensures.len)))
    ∙ ap (λ (v : IndexValue). slice_get (orphans v.shape) 0) c.self.view_is

pub returns : goal.returns
returns c =
    let before : UsedBefore c.self.inside.chunks.entries c.first_unused-place.result = λ j less. ⊎_elim (λ (early : j < c.self.inside.first). c.self.invariant.first j early)
    (λ (late : c.self.inside.first ≤ j). c.first_unused-place.ensures.used j late less) (cases_lt j c.self.inside.first) in
    no_orphan c.self.inside c.first_unused-place.result c.self.invariant (omega (arith, c.if-place-len.false, c.len.ensures.len)) before
    ∙ ap (λ (v : IndexValue). slice_get (orphans v.shape) 0) c.self.view_is
