use Rattle.std.proofs.Common.{refl, arith}
use Rattle.chunk_volume.proofs.SmallVolume.{abc_kept, bbc_not_kept, beside_not_kept}
use Rattle.chunk_volume.proofs.examples.small_volume_examples.Goals as goal

pub returns : goal.returns
returns g = record { place = refl; kept = abc_kept; changed = bbc_not_kept; beside = beside_not_kept; file = refl; full = omega arith; fits = λ full. omega (arith, full) }
