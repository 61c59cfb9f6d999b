-- Refusals of logs as refusals of volumes.
use Rattle.chunk_log.specs.declared.errors.LogError.{LogError}
use Rattle.chunk_log.specs.declared.errors.LogError.TheVariants as log
use Rattle.chunk_volume.specs.declared.errors.VolError.{VolError}
use Rattle.chunk_volume.specs.declared.errors.VolError.TheVariants.{RackFault, Damage}

abbrev pub of_log : LogError → VolError
of_log log.RackFault = RackFault
of_log (log.Damage device at) = Damage device at
