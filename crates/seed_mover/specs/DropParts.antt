-- The parts of dropping a file.
use Rattle.std.specs.Prelude.{◌≡◌, ◌≢◌, ◌⊎◌, ◌+◌, ℕ, ◌≤◌, true, false, List, [], ◌∷◌, length, Result, Ok, Err}
use Rattle.std.specs.FinMap as map
use Rattle.site_forms.specs.declared.phase.Phase.TheVariants.{Idle}
use Rattle.site_forms.specs.VolumeRecords.{VolumeRecord, volume_body}
use Rattle.site_forms.specs.VolumeRecords.VolumeRecord.{DropFileRecord}
use Rattle.site_forms.specs.Volumes.{without_file}
use Rattle.chunk_log.specs.Appending.{IsFull, after_append}
use Rattle.chunk_log.specs.LogValues.{LogValue}
use Rattle.chunk_volume.specs.VolumeValues.{VolumeValue}
use Rattle.site_core.specs.Events.{Append}
use Rattle.seed_mover.specs.declared.entries.Side.{Side}
use Rattle.seed_mover.specs.declared.entries.Side.TheVariants.{A, B}
use Rattle.seed_mover.specs.declared.errors.SiteError.{SiteError}
use Rattle.seed_mover.specs.declared.errors.SiteError.TheVariants.{RackFault, Spent, Memory, Exists, NoSuchFile, MigrationOpen, TargetNotEmpty, NothingOpen, NotMoved, Collision, Damage, BadChunk, DeviceFull, VolumeFull}
use Rattle.seed_mover.specs.Entries.{on_side, append_to}
use Rattle.seed_mover.specs.Dropping.{IsHeld, MayDrop, drops, site_bytes}
use Rattle.seed_mover.specs.Plans.{AllFit, IsFirstFull, logs_in}
use Rattle.seed_mover.specs.Running.{IsAfter, IsSameSite}
use Rattle.site_runs.specs.SiteValues.{SiteValue}
use Rattle.seed_mover.specs.Unused.{unused_plan}

-- ROOM IN ONE LOG

-- records have room in a log, one behind the other
abbrev pub HaveRoom : LogValue → List VolumeRecord → Type 0
HaveRoom log [] = Unit {0}
HaveRoom log (r ∷ rest) = (¬ IsFull log (length (volume_body r))) × HaveRoom (after_append log (length (volume_body r))) rest

-- the first record without room
abbrev pub IsFirstWithout : LogValue → List VolumeRecord → ℕ → ℕ → ℕ → Type 0
IsFirstWithout log [] device at len = ⊥
IsFirstWithout log (r ∷ rest) device at len =
    IsFull log (length (volume_body r)) × (device ≡ log.device) × (at ≡ log.end) × (len ≡ length (volume_body r))
    ⊎ (¬ IsFull log (length (volume_body r))) × IsFirstWithout (after_append log (length (volume_body r))) rest device at len

-- whether all records have room that drop a file of a volume and then the chunks that no other file uses
abbrev pub JudgesRoom : VolumeValue → List ℕ → Result (Unit {0}) SiteError → Type 0
JudgesRoom v name (Ok done) = HaveRoom v.log (drops v.shape name) × (length name ≤ 255)
JudgesRoom v name (Err (DeviceFull device at len)) = IsFirstWithout v.log (drops v.shape name) device at len
JudgesRoom v name (Err Memory) = ⊥
JudgesRoom v name (Err RackFault) = ⊥
JudgesRoom v name (Err Spent) = ⊥
JudgesRoom v name (Err Exists) = ⊥
JudgesRoom v name (Err NoSuchFile) = ⊥
JudgesRoom v name (Err MigrationOpen) = ⊥
JudgesRoom v name (Err TargetNotEmpty) = ⊥
JudgesRoom v name (Err NothingOpen) = ⊥
JudgesRoom v name (Err NotMoved) = ⊥
JudgesRoom v name (Err (Collision chunk)) = ⊥
JudgesRoom v name (Err (Damage device at)) = ⊥
JudgesRoom v name (Err (BadChunk chunk found)) = ⊥
JudgesRoom v name (Err (VolumeFull what)) = ⊥

-- THE FILE THAT IS DROPPED

-- the side that holds a file, A before B
abbrev pub IsHolder : Side → SiteValue → List ℕ → Type 0
IsHolder A v name = map.contains_key v.a.shape.files name ≡ true
IsHolder B v name = (map.contains_key v.a.shape.files name ≡ false) × (map.contains_key v.b.shape.files name ≡ true)

-- the records, on a side
abbrev pub drops_on : Side → SiteValue → List ℕ → List Append
drops_on side v name = append_to side (DropFileRecord name) ∷ unused_plan side (without_file (on_side side v).shape name)

-- from which volume a file may be dropped
abbrev pub JudgesDrop : SiteValue → List ℕ → Result Side SiteError → Type 0
JudgesDrop v name (Ok side) = (v.journal.phase ≡ Idle) × IsHolder side v name
JudgesDrop v name (Err MigrationOpen) = v.journal.phase ≢ Idle
JudgesDrop v name (Err NoSuchFile) = (v.journal.phase ≡ Idle) × (¬ IsHeld v name)
JudgesDrop v name (Err RackFault) = ⊥
JudgesDrop v name (Err Spent) = ⊥
JudgesDrop v name (Err Memory) = ⊥
JudgesDrop v name (Err Exists) = ⊥
JudgesDrop v name (Err TargetNotEmpty) = ⊥
JudgesDrop v name (Err NothingOpen) = ⊥
JudgesDrop v name (Err NotMoved) = ⊥
JudgesDrop v name (Err (Collision chunk)) = ⊥
JudgesDrop v name (Err (Damage device at)) = ⊥
JudgesDrop v name (Err (BadChunk chunk found)) = ⊥
JudgesDrop v name (Err (DeviceFull device at len)) = ⊥
JudgesDrop v name (Err (VolumeFull what)) = ⊥

-- all is ready to drop a file from a side: there is room on its device, and in memory
pub record IsReadyToDrop (v : SiteValue) (side : Side) (name : List ℕ) : Type 0 where
  pub fresh : v.spent ≡ false
  pub idle : v.journal.phase ≡ Idle
  pub holder : IsHolder side v name
  pub file_room : 1 + length name ≤ (on_side side v).room.body
  pub chunk_room : 33 ≤ (on_side side v).room.body
  pub fit : AllFit (logs_in v) (drops_on side v name)

-- before the first record
abbrev pub ReadiesDrop : SiteValue → SiteValue → List ℕ → Result Side SiteError → Type 0
ReadiesDrop v w name (Ok side) = IsSameSite v w × IsReadyToDrop w side name
ReadiesDrop v w name (Err Spent) = (v.spent ≡ true) × (w ≡ v)
ReadiesDrop v w name (Err MigrationOpen) = (v.spent ≡ false) × (v.journal.phase ≢ Idle) × (w ≡ v)
ReadiesDrop v w name (Err NoSuchFile) = (v.spent ≡ false) × (v.journal.phase ≡ Idle) × (¬ IsHeld v name) × (w ≡ v)
ReadiesDrop v w name (Err Memory) = MayDrop v name × IsSameSite v w
ReadiesDrop v w name (Err (DeviceFull device at len)) = MayDrop v name × ((side : Side) × IsHolder side v name × IsFirstFull (logs_in v) (drops_on side v name) device at len) × IsSameSite v w
ReadiesDrop v w name (Err RackFault) = ⊥
ReadiesDrop v w name (Err Exists) = ⊥
ReadiesDrop v w name (Err TargetNotEmpty) = ⊥
ReadiesDrop v w name (Err NothingOpen) = ⊥
ReadiesDrop v w name (Err NotMoved) = ⊥
ReadiesDrop v w name (Err (Collision chunk)) = ⊥
ReadiesDrop v w name (Err (Damage device at)) = ⊥
ReadiesDrop v w name (Err (BadChunk chunk found)) = ⊥
ReadiesDrop v w name (Err (VolumeFull what)) = ⊥

-- what a site is once a file is dropped for which all is ready: the bytes of the dropped chunks are answered
abbrev pub DropsHeld : Side → SiteValue → SiteValue → List ℕ → Result ℕ SiteError → Type 0
DropsHeld side v w name (Ok freed) = IsAfter v w (drops_on side v name) × (freed + site_bytes w ≡ site_bytes v)
DropsHeld side v w name (Err RackFault) = w.spent ≡ true
DropsHeld side v w name (Err Spent) = ⊥
DropsHeld side v w name (Err Memory) = ⊥
DropsHeld side v w name (Err Exists) = ⊥
DropsHeld side v w name (Err NoSuchFile) = ⊥
DropsHeld side v w name (Err MigrationOpen) = ⊥
DropsHeld side v w name (Err TargetNotEmpty) = ⊥
DropsHeld side v w name (Err NothingOpen) = ⊥
DropsHeld side v w name (Err NotMoved) = ⊥
DropsHeld side v w name (Err (Collision chunk)) = ⊥
DropsHeld side v w name (Err (Damage device at)) = ⊥
DropsHeld side v w name (Err (BadChunk chunk found)) = ⊥
DropsHeld side v w name (Err (DeviceFull device at len)) = ⊥
DropsHeld side v w name (Err (VolumeFull what)) = ⊥
