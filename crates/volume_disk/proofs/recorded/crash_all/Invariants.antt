use Rattle.std.proofs.Common.{◌≡◌, ◌<◌, ◌≤◌, ℕ, get_or}
use Rattle.volume_disk.specs.Record.{Crashed, no_device}
use Rattle.volume_disk.proofs.recorded.crash_all.Given as goal

abbrev pub invariant-loop-device : goal.invariant-loop-device
invariant-loop-device l = record {
  done : (k : ℕ) → k < l.device-index → Crashed l.pick (get_or l.fn.devices k no_device) (get_or l.devices k no_device);
  rest : (k : ℕ) → l.device-index ≤ k → get_or l.devices k no_device ≡ get_or l.fn.devices k no_device;
}
