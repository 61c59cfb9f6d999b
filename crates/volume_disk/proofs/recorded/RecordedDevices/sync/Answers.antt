use Rattle.std.proofs.Common.{arith, refl, ◌<◌, sym, ap, subst, ◌∙◌, List, ℕ, add-zero}
use Rattle.volume_disk.specs.Device.{DeviceState, Mirrors}
use Rattle.volume_disk.specs.Medium.{at_rest}
use Rattle.volume_disk.specs.Record.{Recorded, FitsCall, past_of}
use Rattle.volume_disk.specs.Record.Step.{Syncing}
use Rattle.volume_disk.specs.declared.recorded.Entry.{Entry}
use Rattle.volume_disk.specs.declared.recorded.Entry.TheVariants.{Sync}
use Rattle.volume_disk.proofs.Recording.{past_of_push, stands_at, stands_step, device_read, fits_more, same_record, bases_of-set}
use Rattle.volume_disk.proofs.recorded.RecordedDevices.sync.Goals as goal

pub invariant_of-self : goal.invariant_of-self
invariant_of-self c =
    let old = c.self.inside in
    let stands = c.self.invariant.0 in
    let fits = c.self.invariant.1 in
    let is_device : c.args.device < 6 = omega (arith, c.requires.is_device) in
    let call = subst (λ (r : Recorded). FitsCall r) (sym c.self.view_is) c.requires.call in
    let past = ap (λ (l : List Entry). past_of old.bytes.items l) c.push.ensures.items ∙ past_of_push old.bytes.items old.entries.items (Sync c.args.device) in
    let read = device_read old.devices.items c.args.device c.index_mut-state.result.now stands.six is_device c.index_mut-state.ensures.value in (
      stands_at _ _ _ _ past (stands_step old.devices.items _ _ c.args.device (Syncing c.args.device) c.index_mut-state.result.now c.sync.new.self stands is_device read c.sync.ensures.base c.sync.ensures.room refl (λ m was. subst (λ (l : List ℕ). Mirrors c.sync.new.self (at_rest l)) was.image c.sync.ensures.rest)),
      fits_more old.entries c.push.new.entries old.bytes old.bytes _ _ _ _ (Sync c.args.device) fits c.push.ensures.items (omega arith) (omega arith) fits.bytes_in call c.push.ensures.capacity (omega arith),
    )

pub returns : goal.returns
returns c =
    let old = c.self.inside in
    let is_device : c.args.device < 6 = omega (arith, c.requires.is_device) in
    let past = ap (λ (l : List Entry). past_of old.bytes.items l) c.push.ensures.items ∙ past_of_push old.bytes.items old.entries.items (Sync c.args.device) in
    let read = device_read old.devices.items c.args.device c.index_mut-state.result.now c.self.invariant.0.six is_device c.index_mut-state.ensures.value in
    rw (← c.self.view_is) (same_record _ _ _ _ _ _ _ _ _ _ _ (bases_of-set old.devices.items c.args.device c.sync.new.self (c.sync.ensures.base ∙ ap (λ (d : DeviceState). d.base) read)) past (sym (add-zero _)))
