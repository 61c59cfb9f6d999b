use Rattle.std.proofs.Common.{◌≡◌, ◌≤◌, ◌*◌, length, take}
use Rattle.std.specs.List.{flat_map}
use Rattle.site_forms.specs.JournalRecords.{measured_name}
use Rattle.site_forms.specs.Names.{IsNames}
use Rattle.seed_mover.proofs.beginning.names_len.Given as goal

abbrev pub invariant-loop-place : goal.invariant-loop-place
invariant-loop-place l = record { names : IsNames l.names; len : l.len ≡ length (flat_map measured_name (take l.place l.names)); most : l.len ≤ 256 * l.place }
