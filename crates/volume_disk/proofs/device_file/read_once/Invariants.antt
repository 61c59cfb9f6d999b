use Rattle.std.proofs.Common.{◌≡◌, length}
use Rattle.std.specs.Io.KnownBytes.{Keeps}
use Rattle.volume_disk.proofs.device_file.read_once.Given as goal

abbrev pub invariant-loop-try : goal.invariant-loop-try
invariant-loop-try g l = (length l.into ≡ length l.initial.into) × Keeps (g.F.Read.remaining l.initial.file) (g.F.Read.remaining l.file)
