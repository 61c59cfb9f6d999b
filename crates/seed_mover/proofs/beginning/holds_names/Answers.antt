use Rattle.std.proofs.Common.{◌≡◌, ℕ, [], get_or, true, sym, ◌∙◌, ap, arith}
use Rattle.std.specs.Prelude.{not}
use Rattle.std.proofs.lemmas.Bool.{true≢false}
use Rattle.std.proofs.lemmas.Option.{get_or_from_slice_get, slice_get_within}
use Rattle.site_forms.specs.Names.{is_listed}
use Rattle.site_forms.specs.Sites.{HoldsFile}
use Rattle.volume_index.proofs.IndexReads.{lacking_by_place}
use Rattle.site_core.proofs.Fitting.{each_listed, is_not, is_so}
use Rattle.site_core.proofs.Lists.{listed_at}
use Rattle.site_core.proofs.Searching.{holds_at, more_before}
use Rattle.seed_mover.proofs.beginning.holds_names.Goals as goal

pub returns-then-is_none : goal.returns-then-is_none
returns-then-is_none c =
    let names = c.args.names.now in
    let name = c.get.result.now in
    let place = c.loop-place.place in
    let listed : is_listed names name ≡ true =
    ap (is_listed names) (sym (get_or_from_slice_get names place name [] c.get.ensures.name)) ∙ listed_at names place (slice_get_within names place name c.get.ensures.name) in
    is_not (λ all. true≢false (sym (all name listed) ∙ lacking_by_place c.args.holding.now.shape.files name c.find.result c.find.ensures (c.is_none.ensures ∙ ap not c.if-is_none.true)))

pub loop-place-preserved : goal.loop-place-preserved
loop-place-preserved c =
    more_before (λ (j : ℕ). HoldsFile c.args.holding.now.shape (get_or c.args.names.now j [])) c.loop-place.place c.loop-place.invariant
    (holds_at c.args.holding.now.shape.files c.args.names.now c.loop-place.place c.get.result.now c.find.result c.get.ensures.name c.find.ensures (c.is_none.ensures ∙ ap not c.if-is_none.false))

pub returns : goal.returns
returns c = is_so (each_listed (HoldsFile c.args.holding.now.shape) c.args.names.now (λ j inside. c.loop-place.invariant j (omega (arith, inside, c.loop-place-test.false, c.len-place-end.ensures.count))))
