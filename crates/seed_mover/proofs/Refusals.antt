-- Errors that are refusals, and faults, which are none.
use Rattle.std.proofs.Common.{◌⊎◌, inl, inr}
use Rattle.seed_mover.specs.declared.errors.SiteError.{SiteError}
use Rattle.seed_mover.specs.declared.errors.SiteError.TheVariants.{RackFault, Spent, Memory, Exists, NoSuchFile, MigrationOpen, TargetNotEmpty, NothingOpen, NotMoved, Collision, Damage, BadChunk, DeviceFull, VolumeFull}
use Rattle.seed_mover.specs.Errors.{refuses}

pub decides : (error : SiteError) → (refuses error) ⊎ (refuses error → ⊥)
decides RackFault = inr (λ no. no)
decides Spent = inl tt
decides Memory = inl tt
decides Exists = inl tt
decides NoSuchFile = inl tt
decides MigrationOpen = inl tt
decides TargetNotEmpty = inl tt
decides NothingOpen = inl tt
decides NotMoved = inl tt
decides (Collision name) = inl tt
decides (Damage device at) = inl tt
decides (BadChunk name found) = inl tt
decides (DeviceFull device at len) = inl tt
decides (VolumeFull what) = inl tt
