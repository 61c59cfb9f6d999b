use Rattle.std.proofs.Common.{◌≡◌}
use Rattle.site_forms.specs.VolumeRecords.{names_of_chunks}
use Rattle.chunk_volume.proofs.records.names_in.Given as goal

abbrev pub invariant-loop-number : goal.invariant-loop-number
invariant-loop-number l = l.names.items ≡ names_of_chunks l.number l.bytes
