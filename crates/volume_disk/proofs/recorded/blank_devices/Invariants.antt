use Rattle.std.proofs.Common.{◌≡◌, length}
use Rattle.std.specs.Prelude.{All}
use Rattle.volume_disk.specs.Record.{IsBlank}
use Rattle.volume_disk.proofs.recorded.blank_devices.Given as goal

abbrev pub invariant-loop-count : goal.invariant-loop-count
invariant-loop-count l = record {
  count : length l.devices.items ≡ l._count;
  blank : All (IsBlank l.room) l.devices.items;
}
