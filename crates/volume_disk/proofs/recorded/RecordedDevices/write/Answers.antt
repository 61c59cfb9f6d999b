use Rattle.std.proofs.Common.{arith, refl, ◌≡◌, ◌<◌, sym, ap, subst, ◌∙◌, ◌+◌, length}
use Rattle.std.proofs.lemmas.List.{length-append}
use Rattle.volume_disk.specs.Device.{DeviceState}
use Rattle.volume_disk.specs.Record.{Recorded, FitsWrite}
use Rattle.volume_disk.specs.Record.Step.{Writing}
use Rattle.volume_disk.specs.declared.recorded.Entry.TheVariants.{Write}
use Rattle.volume_disk.proofs.Recording.{past_of_write, stands_at, stands_step, device_read, fits_more, same_record, bases_of-set}
use Rattle.volume_disk.proofs.recorded.RecordedDevices.write.Goals as goal

pub invariant_of-self : goal.invariant_of-self
invariant_of-self c =
    let old = c.self.inside in
    let stands = c.self.invariant.0 in
    let fits = c.self.invariant.1 in
    let start = c.len-start.ensures ∙ old.bytes.ok.0 in
    let room = subst (λ (r : Recorded). FitsWrite r c.args.at (length c.args.bytes.now)) (sym c.self.view_is) c.requires.room in
    let long : length c.extend.new.to.items ≡ length old.bytes.items + length c.args.bytes.now = ap length c.extend.ensures.items ∙ length-append old.bytes.items c.args.bytes.now in
    let is_device : c.args.device < 6 = omega (arith, c.requires.is_device) in
    let past = past_of_write old.bytes.items c.args.bytes.now c.extend.new.to.items old.entries.items c.push.new.entries.items c.args.device c.args.at c.len-start.result (length c.args.bytes.now) c.extend.ensures.items c.push.ensures.items start refl fits.ends in
    let read = device_read old.devices.items c.args.device c.index_mut-state.result.now stands.six is_device c.index_mut-state.ensures.value in (
      stands_at _ _ _ _ past (stands_step old.devices.items _ _ c.args.device (Writing c.args.device c.args.at c.args.bytes.now) c.index_mut-state.result.now c.write.new.self stands is_device read c.write.ensures.base c.write.ensures.room refl c.write.ensures.done),
      fits_more old.entries c.push.new.entries old.bytes c.extend.new.to _ _ _ _ (Write c.args.device c.args.at c.len-start.result (length c.args.bytes.now)) fits c.push.ensures.items
          (omega (arith, long)) (omega (arith, long, start)) (omega (arith, long, room.bytes)) room.call c.push.ensures.capacity c.extend.ensures.capacity,
    )

pub returns : goal.returns
returns c =
    let old = c.self.inside in
    let is_device : c.args.device < 6 = omega (arith, c.requires.is_device) in
    let start = c.len-start.ensures ∙ old.bytes.ok.0 in
    let past = past_of_write old.bytes.items c.args.bytes.now c.extend.new.to.items old.entries.items c.push.new.entries.items c.args.device c.args.at c.len-start.result (length c.args.bytes.now) c.extend.ensures.items c.push.ensures.items start refl c.self.invariant.1.ends in
    let read = device_read old.devices.items c.args.device c.index_mut-state.result.now c.self.invariant.0.six is_device c.index_mut-state.ensures.value in
    rw (← c.self.view_is) (same_record _ _ _ _ _ _ _ _ _ _ _ (bases_of-set old.devices.items c.args.device c.write.new.self (c.write.ensures.base ∙ ap (λ (d : DeviceState). d.base) read)) past
    (ap length c.extend.ensures.items ∙ length-append old.bytes.items c.args.bytes.now))
