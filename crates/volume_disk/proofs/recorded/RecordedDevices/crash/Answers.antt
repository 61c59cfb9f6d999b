use Rattle.std.proofs.Common.{List, ℕ, sym, ap, subst, arith, refl, length}
use Rattle.std.proofs.lemmas.List.{with_items_is}
use Rattle.volume_disk.specs.Picks.{IsPicked}
use Rattle.volume_disk.specs.Record.{past_of, disk_after, bases_of}
use Rattle.volume_disk.specs.declared.recorded.Entry.{Entry}
use Rattle.volume_disk.proofs.Recording.{crash_picks, crashed_image}
use Rattle.volume_disk.proofs.recorded.RecordedDevices.crash.Goals as goal

pub returns : goal.returns
returns c =
    let old = c.self.inside in
    let past = ap (λ (l : List Entry). past_of c.clear-2.new.self.items l) c.clear.ensures.items in
    let devices = with_items_is old.devices c.crash_all.new.devices (omega (arith, c.crash_all.auto.devices, c.deref_mut.ensures.len, old.devices.ok.0)) in
    let each = rw c.deref_mut.ensures.value at c.crash_all.ensures in
    rw (← c.self.view_is) (record {
      picked = λ device is_device.
          subst (λ (l : List ℕ). IsPicked c.args.pick (disk_after (past_of old.bytes.items old.entries.items) (bases_of old.devices.items) device) l)
          (sym (crashed_image _ _ _ device past devices))
          (crash_picks c.args.pick old.devices.items c.crash_all.new.devices (past_of old.bytes.items old.entries.items) old.room device c.self.invariant.0 each is_device);
      past = past;
      moment = refl;
      counted = refl;
      taken = ap length c.clear-2.ensures.items;
      room = refl;
      calls = refl;
      written = refl;
    })
