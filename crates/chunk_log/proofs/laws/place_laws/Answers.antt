use Rattle.chunk_log.proofs.Appended.{log_settled}
use Rattle.chunk_log.proofs.Appends.{stands_beside}
use Rattle.chunk_log.proofs.HalfFound.{stands_outside}
use Rattle.chunk_log.proofs.Resting.{log_rests, stands_same, stands_steps}
use Rattle.chunk_log.proofs.laws.place_laws.Goals as goal

pub returns : goal.returns
returns g = record { settled = log_settled; rest = log_rests; outside = stands_outside; beside = stands_beside; same_disk = stands_same; steps = stands_steps }
