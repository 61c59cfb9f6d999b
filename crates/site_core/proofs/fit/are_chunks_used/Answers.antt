use Rattle.std.proofs.Common.{◌≡◌, ℕ, [], get_or, true, sym, ◌∙◌, ap, arith}
use Rattle.std.specs.FinMap as map
use Rattle.std.proofs.lemmas.Bool.{true≢false}
use Rattle.std.proofs.lemmas.Option.{get_or_from_slice_get}
use Rattle.site_forms.specs.Volumes.{used}
use Rattle.volume_index.proofs.TableReads.{key_held}
use Rattle.site_core.proofs.Fitting.{is_so, is_not}
use Rattle.site_core.proofs.Merging.{each_key}
use Rattle.site_core.proofs.Searching.{more_before}
use Rattle.site_core.proofs.fit.are_chunks_used.Goals as goal

pub returns-then-not-is_used : goal.returns-then-not-is_used
returns-then-not-is_used c =
    let name = c.chunk_name.result.now in
    is_not (λ all. true≢false (sym (all name (key_held c.args.volume.now.shape.chunks c.loop-place.place name c.chunk_name.ensures)) ∙ sym c.is_used.ensures ∙ c.if-not-is_used.true))

pub loop-place-preserved : goal.loop-place-preserved
loop-place-preserved c = more_before (λ (j : ℕ). map.contains_key (used c.args.index.now.shape.files) (get_or (map.keys c.args.volume.now.shape.chunks) j []) ≡ true) c.loop-place.place c.loop-place.invariant
    (ap (map.contains_key (used c.args.index.now.shape.files)) (get_or_from_slice_get (map.keys c.args.volume.now.shape.chunks) c.loop-place.place c.chunk_name.result.now [] c.chunk_name.ensures) ∙ sym c.is_used.ensures ∙ c.if-not-is_used.false)

pub returns : goal.returns
returns c = is_so (each_key c.args.volume.now.shape.chunks (λ q. map.contains_key (used c.args.index.now.shape.files) q ≡ true) (λ j inside. c.loop-place.invariant j (omega (arith, inside, c.loop-place-test.false, c.chunk_count-place-end.ensures))))
