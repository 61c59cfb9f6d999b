-- Refusals of volumes and journals as refusals of sites.
use Rattle.std.specs.Prelude.{⊤, Bool, true, false}
use Rattle.chunk_volume.specs.declared.errors.VolError.{VolError}
use Rattle.chunk_volume.specs.declared.errors.VolError.TheVariants as vol
use Rattle.move_journal.specs.declared.errors.JournalError.{JournalError}
use Rattle.move_journal.specs.declared.errors.JournalError.TheVariants as journal
use Rattle.seed_mover.specs.declared.errors.SiteError.{SiteError}
use Rattle.seed_mover.specs.declared.errors.SiteError.TheVariants.{RackFault, Spent, Memory, Exists, NoSuchFile, MigrationOpen, TargetNotEmpty, NothingOpen, NotMoved, Collision, Damage, BadChunk, DeviceFull, VolumeFull}

abbrev pub of_volume : VolError → SiteError
of_volume vol.RackFault = RackFault
of_volume (vol.Damage device at) = Damage device at
of_volume (vol.BadChunk name found) = BadChunk name found
of_volume (vol.Collision name) = Collision name
of_volume vol.Exists = Exists
of_volume vol.NoSuchFile = NoSuchFile
of_volume (vol.DeviceFull device at len) = DeviceFull device at len
of_volume vol.Spent = Spent
of_volume vol.Memory = Memory

abbrev pub of_journal : JournalError → SiteError
of_journal journal.RackFault = RackFault
of_journal (journal.Damage device at) = Damage device at
of_journal (journal.DeviceFull device at len) = DeviceFull device at len
of_journal journal.Spent = Spent
of_journal journal.Memory = Memory

-- whether a refusal is a fault of the rack
abbrev pub is_rack_fault : SiteError → Bool
is_rack_fault RackFault = true
is_rack_fault _ = false

-- refusals: all but faults. They leave the rack and the site as they were.
abbrev pub refuses : SiteError → Type 0
refuses RackFault = ⊥
refuses Spent = ⊤
refuses Memory = ⊤
refuses Exists = ⊤
refuses NoSuchFile = ⊤
refuses MigrationOpen = ⊤
refuses TargetNotEmpty = ⊤
refuses NothingOpen = ⊤
refuses NotMoved = ⊤
refuses (Collision name) = ⊤
refuses (Damage device at) = ⊤
refuses (BadChunk name found) = ⊤
refuses (DeviceFull device at len) = ⊤
refuses (VolumeFull what) = ⊤
