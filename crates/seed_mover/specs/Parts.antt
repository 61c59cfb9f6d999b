-- The parts of a site, one after the other.
use Rattle.std.specs.Prelude.{◌≡◌, ◌⊎◌, ℕ, ⊤, true, false, Some, Result, Ok, Err, OnOk}
use Rattle.volume_disk.specs.Disk.{Disk, Images, Crash}
use Rattle.volume_disk.specs.Time.{Passes}
use Rattle.site_forms.specs.Halves.{SameRecords}
use Rattle.site_forms.specs.Names.{is_name_list}
use Rattle.site_forms.specs.Phases.{names_of}
use Rattle.site_forms.specs.Sites.{Fits, phase_at, volume_at}
use Rattle.site_forms.specs.Volumes.{Volume}
use Rattle.chunk_log.specs.PlaceHalves.{RestsAt, images_of}
use Rattle.chunk_volume.specs.Standing.{VolumeStands}
use Rattle.move_journal.specs.Standing.{JournalStands}
use Rattle.seed_mover.specs.declared.errors.SiteError.{SiteError}
use Rattle.seed_mover.specs.declared.errors.SiteError.TheVariants.{RackFault, Spent, Memory, Exists, NoSuchFile, MigrationOpen, TargetNotEmpty, NothingOpen, NotMoved, Collision, Damage, BadChunk, DeviceFull, VolumeFull}
use Rattle.seed_mover.specs.declared.opening.Volumes.{Volumes}
use Rattle.seed_mover.specs.declared.opening.Parts.{Parts}
use Rattle.seed_mover.specs.Opening.{IsBadJournal, IsBadVolume, IsNewLog, IsOfSite}
use Rattle.site_runs.specs.SiteValues.{AllAtRest, SiteValue}

-- WHAT IS ANSWERED, ON EVERY RACK

-- a value, or damage of one of the devices, a fault, or want of memory
abbrev pub AnswersOpen : {T : Type 0} → (T → Type 0) → Result T SiteError → Type 0
AnswersOpen IsNew (Ok value) = IsNew value
AnswersOpen IsNew (Err (Damage device at)) = IsOfSite device
AnswersOpen IsNew (Err RackFault) = ⊤
AnswersOpen IsNew (Err Memory) = ⊤
AnswersOpen IsNew (Err Spent) = ⊥
AnswersOpen IsNew (Err Exists) = ⊥
AnswersOpen IsNew (Err NoSuchFile) = ⊥
AnswersOpen IsNew (Err MigrationOpen) = ⊥
AnswersOpen IsNew (Err TargetNotEmpty) = ⊥
AnswersOpen IsNew (Err NothingOpen) = ⊥
AnswersOpen IsNew (Err NotMoved) = ⊥
AnswersOpen IsNew (Err (Collision name)) = ⊥
AnswersOpen IsNew (Err (BadChunk name found)) = ⊥
AnswersOpen IsNew (Err (DeviceFull device at len)) = ⊥
AnswersOpen IsNew (Err (VolumeFull what)) = ⊥

pub record AreNewVolumes (limit : ℕ) (volumes : Volumes) : Type 0 where
  pub a : IsNewLog 0 limit volumes.a.log
  pub b : IsNewLog 1 limit volumes.b.log

pub record AreNewParts (limit : ℕ) (parts : Parts) : Type 0 where
  pub volumes : AreNewVolumes limit parts.volumes
  pub journal : IsNewLog 2 limit parts.journal.log

abbrev pub AnswersVolumes : ℕ → Result Volumes SiteError → Type 0
AnswersVolumes limit result = AnswersOpen (AreNewVolumes limit) result

abbrev pub AnswersParts : ℕ → Result Parts SiteError → Type 0
AnswersParts limit result = AnswersOpen (AreNewParts limit) result

-- WHAT THE DISK SAYS

-- a value that the disk says, or the place at fault
abbrev pub IsOpened : {T : Type 0} → (T → Type 0) → (ℕ → ℕ → Type 0) → Result T SiteError → Type 0
IsOpened Says IsBad (Ok value) = Says value
IsOpened Says IsBad (Err (Damage device at)) = IsBad device at
IsOpened Says IsBad (Err RackFault) = ⊤
IsOpened Says IsBad (Err Memory) = ⊤
IsOpened Says IsBad (Err Spent) = ⊥
IsOpened Says IsBad (Err Exists) = ⊥
IsOpened Says IsBad (Err NoSuchFile) = ⊥
IsOpened Says IsBad (Err MigrationOpen) = ⊥
IsOpened Says IsBad (Err TargetNotEmpty) = ⊥
IsOpened Says IsBad (Err NothingOpen) = ⊥
IsOpened Says IsBad (Err NotMoved) = ⊥
IsOpened Says IsBad (Err (Collision name)) = ⊥
IsOpened Says IsBad (Err (BadChunk name found)) = ⊥
IsOpened Says IsBad (Err (DeviceFull device at len)) = ⊥
IsOpened Says IsBad (Err (VolumeFull what)) = ⊥

-- volumes that stand for what the disk said
pub record AreVolumesOf (d e : Disk) (volumes : Volumes) : Type 0 where
  pub a : Volume
  pub b : Volume
  pub told_a : volume_at (images_of d) 0 ≡ Some a
  pub told_b : volume_at (images_of d) 1 ≡ Some b
  pub stands_a : VolumeStands 0 volumes.a e a
  pub stands_b : VolumeStands 1 volumes.b e b

pub record ArePartsOf (d e : Disk) (parts : Parts) : Type 0 where
  pub volumes : AreVolumesOf d e parts.volumes
  pub told : phase_at (images_of d) ≡ Some parts.journal.phase
  pub stands : JournalStands parts.journal e

abbrev pub AreBadVolumes : Disk → ℕ → ℕ → Type 0
AreBadVolumes d device at = IsBadVolume d 0 device at ⊎ IsBadVolume d 1 device at

abbrev pub AreBadParts : Disk → ℕ → ℕ → Type 0
AreBadParts d device at = IsBadVolume d 0 device at ⊎ (IsBadVolume d 1 device at ⊎ IsBadJournal d device at)

module _ {D : Type 0} (moment : D → ℕ) (left_since : D → ℕ → Images → Type 0) (old new : D) (d e : Disk) where
  pub record OpensVolumes (result : Result Volumes SiteError) : Type 0 where
    -- the devices of the journal's place are as they were
    pub journal : (e 2 ≡ d 2) × (e 5 ≡ d 5)
    pub volumes : IsOpened (AreVolumesOf d e) (AreBadVolumes d) result
    pub rest : OnOk result (RestsAt 0 e × RestsAt 1 e)
    pub moments : Passes moment left_since old new (λ c. (b : Images) × Crash d b × SameRecords b c)

  pub record OpensParts (result : Result Parts SiteError) : Type 0 where
    pub parts : IsOpened (ArePartsOf d e) (AreBadParts d) result
    pub rest : OnOk result (AllAtRest e)
    pub moments : Passes moment left_since old new (λ c. (b : Images) × Crash d b × SameRecords b c)

-- JUDGED

-- the phase has lawful names, and fits the volumes
abbrev pub FitsNamed : Parts → Type 0
FitsNamed parts = (is_name_list (names_of parts.journal.phase) ≡ true) × Fits parts.volumes.a.shape parts.volumes.b.shape parts.journal.phase

-- the site of parts that fit, or damage at the last record of the journal
abbrev pub IsJudged : Parts → Result SiteValue SiteError → Type 0
IsJudged parts (Ok v) = FitsNamed parts × (v ≡ record { a = parts.volumes.a; b = parts.volumes.b; journal = parts.journal; spent = false })
IsJudged parts (Err (Damage device at)) = (¬ FitsNamed parts) × (device ≡ parts.journal.log.device) × (at ≡ parts.journal.last_gate)
IsJudged parts (Err Memory) = ⊤
IsJudged parts (Err RackFault) = ⊥
IsJudged parts (Err Spent) = ⊥
IsJudged parts (Err Exists) = ⊥
IsJudged parts (Err NoSuchFile) = ⊥
IsJudged parts (Err MigrationOpen) = ⊥
IsJudged parts (Err TargetNotEmpty) = ⊥
IsJudged parts (Err NothingOpen) = ⊥
IsJudged parts (Err NotMoved) = ⊥
IsJudged parts (Err (Collision name)) = ⊥
IsJudged parts (Err (BadChunk name found)) = ⊥
IsJudged parts (Err (DeviceFull device at len)) = ⊥
IsJudged parts (Err (VolumeFull what)) = ⊥
