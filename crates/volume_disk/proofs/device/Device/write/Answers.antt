use Rattle.std.proofs.Common.{arith, refl, sym, subst, ◌∙◌, ◌+◌, ◌-◌, ap, length, List, Bool, false, ℕ, get_or}
use Rattle.std.specs.Prelude.{slice_index_or}
use Rattle.std.proofs.lemmas.List.{with_items_is}
use Rattle.volume_disk.specs.Device.{DeviceState, Mirrors}
use Rattle.volume_disk.proofs.Mirror.{mirrors_wrote}
use Rattle.volume_disk.proofs.device.Device.write.Goals as goal

pub returns-clause-done : goal.returns-clause-done
returns-clause-done c = λ m was.
    let inside = c.self.inside in
    let held = subst (λ (x : DeviceState). Mirrors x m) (sym c.self.view_is) was in
    let marks = with_items_is inside.touched c.mark.new.touched (omega arith) in
    let newest = with_items_is inside.newest c.copy_range.new.to (omega arith) in
    let marked = rw c.deref_mut.ensures.value at c.mark.ensures in
    let copied = rw (c.deref_mut-2.ensures.value, c.deref.ensures.value) at c.copy_range.ensures in
    mirrors_wrote _ _ m held c.args.at c.args.bytes.now c.min-start.result (c.args.at + length c.args.bytes.now - c.min-start.result)
    (omega (arith, inside.image.ok.0)) (omega arith) c.overwrite.ensures.items refl refl
    (omega (arith, c.overwrite.new.image.ok.0)) (ap length marks ∙ omega arith)
    (λ i below. ap (λ (l : List Bool). slice_index_or l i false) marks ∙ marked i below)
    (λ i below. ap (λ (l : List ℕ). get_or l i 0) newest ∙ copied i (omega (arith, below, c.self.invariant.newest_room)))
