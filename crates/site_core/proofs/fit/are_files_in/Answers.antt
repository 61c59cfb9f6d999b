use Rattle.std.proofs.Common.{ℕ, [], get_or, sym, ◌∙◌, ap, arith}
use Rattle.std.specs.Prelude.{not}
use Rattle.std.specs.FinMap as map
use Rattle.std.proofs.lemmas.Bool.{true≢false}
use Rattle.site_forms.specs.Sites.{HoldsFile}
use Rattle.volume_index.proofs.IndexReads.{lacking_by_place}
use Rattle.volume_index.proofs.TableReads.{key_held}
use Rattle.site_core.proofs.Fitting.{is_so, is_not}
use Rattle.site_core.proofs.Merging.{each_key}
use Rattle.site_core.proofs.Searching.{holds_at, more_before}
use Rattle.site_core.proofs.fit.are_files_in.Goals as goal

pub returns-then-is_none : goal.returns-then-is_none
returns-then-is_none c =
    let name = c.file_name.result.now in
    is_not (λ all. true≢false (sym (all name (key_held c.args.volume.now.shape.files c.loop-place.place name c.file_name.ensures.name))
    ∙ lacking_by_place c.args.index.now.shape.files name c.find.result c.find.ensures (c.is_none.ensures ∙ ap not c.if-is_none.true)))

pub loop-place-preserved : goal.loop-place-preserved
loop-place-preserved c = more_before (λ (j : ℕ). HoldsFile c.args.index.now.shape (get_or (map.keys c.args.volume.now.shape.files) j [])) c.loop-place.place c.loop-place.invariant
    (holds_at c.args.index.now.shape.files (map.keys c.args.volume.now.shape.files) c.loop-place.place c.file_name.result.now c.find.result c.file_name.ensures.name c.find.ensures (c.is_none.ensures ∙ ap not c.if-is_none.false))

pub returns : goal.returns
returns c = is_so (each_key c.args.volume.now.shape.files (HoldsFile c.args.index.now.shape) (λ j inside. c.loop-place.invariant j (omega (arith, inside, c.loop-place-test.false, c.file_count-place-end.ensures.count))))
