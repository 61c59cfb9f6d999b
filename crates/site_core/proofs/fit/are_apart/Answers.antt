use Rattle.std.proofs.Common.{◌≡◌, ℕ, [], get_or, false, sym, ◌∙◌, arith}
use Rattle.std.specs.FinMap as map
use Rattle.volume_index.proofs.IndexReads.{held_by_place}
use Rattle.volume_index.proofs.TableReads.{key_held}
use Rattle.site_core.proofs.Fitting.{is_so, is_not, not_both, apart_by}
use Rattle.site_core.proofs.Merging.{each_key}
use Rattle.site_core.proofs.Searching.{lacks_at, more_before}
use Rattle.site_core.proofs.fit.are_apart.Goals as goal

pub returns-then-is_some : goal.returns-then-is_some
returns-then-is_some c =
    let name = c.file_name.result.now in
    is_not (λ all. not_both (map.contains_key c.args.a.now.shape.files name) (map.contains_key c.args.b.now.shape.files name) (all name) (key_held c.args.a.now.shape.files c.loop-place.place name c.file_name.ensures.name)
    (held_by_place c.args.b.now.shape.files name c.find.result c.find.ensures (sym c.is_some.ensures ∙ c.if-is_some.true)))

pub loop-place-preserved : goal.loop-place-preserved
loop-place-preserved c = more_before (λ (j : ℕ). map.contains_key c.args.b.now.shape.files (get_or (map.keys c.args.a.now.shape.files) j []) ≡ false) c.loop-place.place c.loop-place.invariant
    (lacks_at c.args.b.now.shape.files (map.keys c.args.a.now.shape.files) c.loop-place.place c.file_name.result.now c.find.result c.file_name.ensures.name c.find.ensures (sym c.is_some.ensures ∙ c.if-is_some.false))

pub returns : goal.returns
returns c = is_so (λ name. apart_by (map.contains_key c.args.a.now.shape.files name) (map.contains_key c.args.b.now.shape.files name)
    (each_key c.args.a.now.shape.files (λ q. map.contains_key c.args.b.now.shape.files q ≡ false) (λ j inside. c.loop-place.invariant j (omega (arith, inside, c.loop-place-test.false, c.file_count-place-end.ensures.count))) name))
