use Rattle.std.proofs.Common.{◌<◌, ◌∙◌, subst, arith, length, get_or}
use Rattle.std.proofs.lemmas.List.{get_or_default, get_or-set_other}
use Rattle.volume_disk.specs.Device.{DeviceState}
use Rattle.volume_disk.specs.Record.{Crashed, no_device}
use Rattle.volume_disk.proofs.Recording.{crashed_more}
use Rattle.volume_disk.proofs.recorded.crash_all.Goals as goal

pub loop-device-preserved : goal.loop-device-preserved
loop-device-preserved c =
    let devices = c.loop-device.devices in
    let at = c.loop-device.device-index in
    let lies : at < length devices = omega arith in
    let read = get_or_default devices at c.device-item.result no_device lies ∙ c.loop-device.invariant.rest at (omega arith) in
    let here : Crashed c.args.pick (get_or devices at c.device-item.result) c.crash.new.self = record { room = c.crash.ensures.room; picked = c.crash.ensures.picked; rest = c.crash.ensures.rest } in
    record {
      done = crashed_more c.args.pick c.args.devices.now devices at c.crash.new.self lies c.loop-device.invariant.done (subst (λ (d : DeviceState). Crashed c.args.pick d c.crash.new.self) read here);
      rest = λ k past. get_or-set_other devices at k c.crash.new.self no_device (λ e. omega (arith, e, past)) ∙ c.loop-device.invariant.rest k (omega (arith, past));
    }
