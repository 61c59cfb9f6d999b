use Rattle.std.proofs.Common.{arith, refl, ◌<◌, ◌≤◌, length}
use Rattle.std.proofs.lemmas.List.Elements.{All-filter, All-same}
use Rattle.volume_disk.specs.Record.{past_of, end_of, is_entry_elsewhere}
use Rattle.volume_disk.specs.declared.recorded.Entry.{Entry}
use Rattle.volume_disk.proofs.Recording.{past_of_filter, stands_at, stands_anew, device_read, same_record, bases_of_image, image_here, image_elsewhere}
use Rattle.volume_disk.proofs.recorded.RecordedDevices.set_image.Goals as goal

pub invariant_of-self : goal.invariant_of-self
invariant_of-self c =
    let old = c.self.inside in
    let stands = c.self.invariant.0 in
    let fits = c.self.invariant.1 in
    let is_device : c.args.device < 6 = omega (arith, c.requires.is_device) in
    let past = past_of_filter c.args.device old.bytes.items old.entries.items c.forget.new.entries.items c.forget.ensures.items in
    let read = device_read old.devices.items c.args.device c.index_mut-state.result.now stands.six is_device c.index_mut-state.ensures.value in
    let P : Entry → Type 0 = λ e. end_of e ≤ length old.bytes.items in (
      stands_at _ _ _ _ past (stands_anew old.devices.items _ _ c.args.device c.index_mut-state.result.now c.set.new.self c.args.image.now stands is_device read c.set.ensures.base c.set.ensures.room c.set.ensures.rest),
      record {
        ends = All-same P _ _ c.forget.ensures.items (All-filter (is_entry_elsewhere c.args.device) P old.entries.items fits.ends);
        fewer = omega (arith, c.forget.ensures.fewer, fits.fewer);
        calls_in = fits.calls_in;
        moments_in = omega arith;
        bytes_in = fits.bytes_in;
        entries_room = omega (arith, fits.entries_room, c.forget.ensures.capacity);
        bytes_room = fits.bytes_room;
      },
    )

pub returns-clause-state : goal.returns-clause-state
returns-clause-state c =
    let old = c.self.inside in
    rw (← c.self.view_is) (same_record _ _ _ _ _ _ _ _ _ _ _
    (bases_of_image old.devices.items c.args.device c.set.new.self c.args.image.now c.set.ensures.base)
    (past_of_filter c.args.device old.bytes.items old.entries.items c.forget.new.entries.items c.forget.ensures.items) refl)

pub returns-clause-rest : goal.returns-clause-rest
returns-clause-rest c =
    let old = c.self.inside in
    image_here old.devices.items (past_of old.bytes.items old.entries.items) _ c.args.device c.set.new.self c.args.image.now (omega (arith, c.self.invariant.0.six, c.requires.is_device)) c.set.ensures.base
    (past_of_filter c.args.device old.bytes.items old.entries.items c.forget.new.entries.items c.forget.ensures.items)

pub returns-clause-others : goal.returns-clause-others
returns-clause-others c =
    let old = c.self.inside in
    rw (← c.self.view_is) (image_elsewhere old.devices.items (past_of old.bytes.items old.entries.items) _ c.args.device c.set.new.self c.args.image.now c.set.ensures.base
    (past_of_filter c.args.device old.bytes.items old.entries.items c.forget.new.entries.items c.forget.ensures.items))
