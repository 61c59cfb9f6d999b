-- What opening a site does.
use Rattle.std.specs.Prelude.{◌≡◌, ◌⊎◌, ◌+◌, ℕ, ⊤, false, Some, None, Result, Ok, Err, OnOk}
use Rattle.volume_disk.specs.Disk.{Disk, Images, Crash}
use Rattle.volume_disk.specs.Time.{Passes}
use Rattle.site_forms.specs.Halves.{SameRecords}
use Rattle.site_forms.specs.Sites.{Fits, phase_at, shape_of, state_of, volume_at}
use Rattle.site_forms.specs.Views.{State}
use Rattle.chunk_log.specs.PlaceHalves.{images_of, IsOfPlace, IsDamaged}
use Rattle.chunk_log.specs.LogValues.{LogValue}
use Rattle.chunk_volume.specs.OpeningVolumes.{IsUnfolded as IsUnfoldedVolume}
use Rattle.move_journal.specs.JournalValues.{JournalValue}
use Rattle.move_journal.specs.Opening.{IsUnfolded as IsUnfoldedJournal}
use Rattle.move_journal.specs.Standing.{JournalStands}
use Rattle.site_core.specs.Plans.{IsSiteRack}
use Rattle.seed_mover.specs.declared.errors.SiteError.{SiteError}
use Rattle.seed_mover.specs.declared.errors.SiteError.TheVariants.{RackFault, Spent, Memory, Exists, NoSuchFile, MigrationOpen, TargetNotEmpty, NothingOpen, NotMoved, Collision, Damage, BadChunk, DeviceFull, VolumeFull}
use Rattle.site_runs.specs.SiteValues.{AllAtRest, SiteStands, SiteValue}

-- a log that was opened for a place
pub record IsNewLog (place limit : ℕ) (log : LogValue) : Type 0 where
  pub device : IsOfPlace place log.device
  pub limit_is : log.limit ≡ limit
  pub fresh : log.spent ≡ false

-- what is answered, on every rack
pub record IsNewSite (limit : ℕ) (v : SiteValue) : Type 0 where
  pub a : IsNewLog 0 limit v.a.log
  pub b : IsNewLog 1 limit v.b.log
  pub journal : IsNewLog 2 limit v.journal.log
  pub fresh : v.spent ≡ false

-- damage names one of the six devices
abbrev pub IsOfSite : ℕ → Type 0
IsOfSite device = IsOfPlace 0 device ⊎ (IsOfPlace 1 device ⊎ IsOfPlace 2 device)

abbrev pub AnswersSite : ℕ → Result SiteValue SiteError → Type 0
AnswersSite limit (Ok v) = IsNewSite limit v
AnswersSite limit (Err (Damage device at)) = IsOfSite device
AnswersSite limit (Err RackFault) = ⊤
AnswersSite limit (Err Memory) = ⊤
AnswersSite limit (Err Spent) = ⊥
AnswersSite limit (Err Exists) = ⊥
AnswersSite limit (Err NoSuchFile) = ⊥
AnswersSite limit (Err MigrationOpen) = ⊥
AnswersSite limit (Err TargetNotEmpty) = ⊥
AnswersSite limit (Err NothingOpen) = ⊥
AnswersSite limit (Err NotMoved) = ⊥
AnswersSite limit (Err (Collision name)) = ⊥
AnswersSite limit (Err (BadChunk name found)) = ⊥
AnswersSite limit (Err (DeviceFull device at len)) = ⊥
AnswersSite limit (Err (VolumeFull what)) = ⊥

-- the records of a volume's place do not fold: the place is blamed first, and then the first of its records at fault
pub record IsBadVolume (d : Disk) (place device at : ℕ) : Type 0 where
  pub none : volume_at (images_of d) place ≡ None
  pub cause : IsDamaged (d place).image (d (place + 3)).image place device at ⊎ IsUnfoldedVolume (d place).image (d (place + 3)).image place device at

-- those of the journal do not fold
pub record IsBadJournal (d : Disk) (device at : ℕ) : Type 0 where
  pub none : phase_at (images_of d) ≡ None
  pub cause : IsDamaged (d 2).image (d 5).image 2 device at ⊎ IsUnfoldedJournal (d 2).image (d 5).image device at

-- all records fold, and the phase does not fit the volumes: the last record of the journal is blamed
pub record IsMisfit (d e : Disk) (device at : ℕ) : Type 0 where
  pub state : State
  pub told : state_of (images_of d) ≡ Some state
  pub misfit : ¬ Fits (shape_of state.a) (shape_of state.b) state.phase
  pub journal : JournalValue
  pub stands : JournalStands journal e
  pub device_is : device ≡ journal.log.device
  pub at_is : at ≡ journal.last_gate

-- damage is that of A, else that of B, else that of the journal
abbrev pub IsBadSite : Disk → Disk → ℕ → ℕ → Type 0
IsBadSite d e device at = IsBadVolume d 0 device at ⊎ (IsBadVolume d 1 device at ⊎ (IsBadJournal d device at ⊎ IsMisfit d e device at))

-- a site that stands for what the disk said
pub record IsSiteOf (d e : Disk) (v : SiteValue) : Type 0 where
  pub state : State
  pub told : state_of (images_of d) ≡ Some state
  pub fits : Fits (shape_of state.a) (shape_of state.b) state.phase
  pub stands : SiteStands v e state

-- a site, exactly where the records of the three places fold and the phase fits
abbrev pub IsPlaceSite : Disk → Disk → Result SiteValue SiteError → Type 0
IsPlaceSite d e (Ok v) = IsSiteOf d e v
IsPlaceSite d e (Err (Damage device at)) = IsBadSite d e device at
IsPlaceSite d e (Err RackFault) = ⊤
IsPlaceSite d e (Err Memory) = ⊤
IsPlaceSite d e (Err Spent) = ⊥
IsPlaceSite d e (Err Exists) = ⊥
IsPlaceSite d e (Err NoSuchFile) = ⊥
IsPlaceSite d e (Err MigrationOpen) = ⊥
IsPlaceSite d e (Err TargetNotEmpty) = ⊥
IsPlaceSite d e (Err NothingOpen) = ⊥
IsPlaceSite d e (Err NotMoved) = ⊥
IsPlaceSite d e (Err (Collision name)) = ⊥
IsPlaceSite d e (Err (BadChunk name found)) = ⊥
IsPlaceSite d e (Err (DeviceFull device at len)) = ⊥
IsPlaceSite d e (Err (VolumeFull what)) = ⊥

-- no damage is answered
abbrev pub IsWhole : {T : Type 0} → Result T SiteError → Type 0
IsWhole (Ok value) = ⊤
IsWhole (Err (Damage device at)) = ⊥
IsWhole (Err RackFault) = ⊤
IsWhole (Err Memory) = ⊤
IsWhole (Err Spent) = ⊤
IsWhole (Err Exists) = ⊤
IsWhole (Err NoSuchFile) = ⊤
IsWhole (Err MigrationOpen) = ⊤
IsWhole (Err TargetNotEmpty) = ⊤
IsWhole (Err NothingOpen) = ⊤
IsWhole (Err NotMoved) = ⊤
IsWhole (Err (Collision name)) = ⊤
IsWhole (Err (BadChunk name found)) = ⊥
IsWhole (Err (DeviceFull device at len)) = ⊤
IsWhole (Err (VolumeFull what)) = ⊤

-- opening a site: once it is open nothing is pending on the six devices; a crash at any moment leaves the same records at
-- every place; and where whatever a crash might have left is a site, no damage is answered
pub record OpensSite {D : Type 0} (moment : D → ℕ) (left_since : D → ℕ → Images → Type 0) (old new : D) (d e : Disk) (result : Result SiteValue SiteError) : Type 0 where
  pub site : IsPlaceSite d e result
  pub rest : OnOk result (AllAtRest e)
  pub whole : IsSiteRack d → IsWhole result
  pub moments : Passes moment left_since old new (λ c. (b : Images) × Crash d b × SameRecords b c)
