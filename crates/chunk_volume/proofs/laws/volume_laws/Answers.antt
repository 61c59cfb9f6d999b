use Rattle.chunk_volume.proofs.Shapes.{shape_step}
use Rattle.chunk_volume.proofs.Standing.{volume_settled, volume_rests, volume_outside, volume_beside, volume_steps}
use Rattle.chunk_volume.proofs.Writing.{stands_quiet}
use Rattle.chunk_volume.proofs.laws.volume_laws.Goals as goal

pub returns : goal.returns
returns g = record { shape = shape_step; settled = volume_settled; rest = volume_rests; outside = volume_outside; beside = volume_beside; same_disk = stands_quiet; steps = volume_steps }
