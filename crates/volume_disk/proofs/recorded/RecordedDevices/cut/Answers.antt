use Rattle.std.proofs.Common.{arith, refl, ◌<◌, sym, ap, subst, ◌∙◌, List, add-zero}
use Rattle.volume_disk.specs.Device.{DeviceState}
use Rattle.volume_disk.specs.Record.{Recorded, FitsCall, past_of}
use Rattle.volume_disk.specs.Record.Step.{Cutting}
use Rattle.volume_disk.specs.declared.recorded.Entry.{Entry}
use Rattle.volume_disk.specs.declared.recorded.Entry.TheVariants.{Cut}
use Rattle.volume_disk.proofs.Recording.{past_of_push, stands_at, stands_step, device_read, fits_more, same_record, bases_of-set}
use Rattle.volume_disk.proofs.recorded.RecordedDevices.cut.Goals as goal

pub invariant_of-self : goal.invariant_of-self
invariant_of-self c =
    let old = c.self.inside in
    let stands = c.self.invariant.0 in
    let fits = c.self.invariant.1 in
    let is_device : c.args.device < 6 = omega (arith, c.requires.is_device) in
    let call = subst (λ (r : Recorded). FitsCall r) (sym c.self.view_is) c.requires.call in
    let past = ap (λ (l : List Entry). past_of old.bytes.items l) c.push.ensures.items ∙ past_of_push old.bytes.items old.entries.items (Cut c.args.device c.args.len) in
    let read = device_read old.devices.items c.args.device c.index_mut-state.result.now stands.six is_device c.index_mut-state.ensures.value in (
      stands_at _ _ _ _ past (stands_step old.devices.items _ _ c.args.device (Cutting c.args.device c.args.len) c.index_mut-state.result.now c.cut.new.self stands is_device read c.cut.ensures.base c.cut.ensures.room refl c.cut.ensures.done),
      fits_more old.entries c.push.new.entries old.bytes old.bytes _ _ _ _ (Cut c.args.device c.args.len) fits c.push.ensures.items (omega arith) (omega arith) fits.bytes_in call c.push.ensures.capacity (omega arith),
    )

pub returns : goal.returns
returns c =
    let old = c.self.inside in
    let is_device : c.args.device < 6 = omega (arith, c.requires.is_device) in
    let past = ap (λ (l : List Entry). past_of old.bytes.items l) c.push.ensures.items ∙ past_of_push old.bytes.items old.entries.items (Cut c.args.device c.args.len) in
    let read = device_read old.devices.items c.args.device c.index_mut-state.result.now c.self.invariant.0.six is_device c.index_mut-state.ensures.value in
    rw (← c.self.view_is) (same_record _ _ _ _ _ _ _ _ _ _ _ (bases_of-set old.devices.items c.args.device c.cut.new.self (c.cut.ensures.base ∙ ap (λ (d : DeviceState). d.base) read)) past (sym (add-zero _)))
