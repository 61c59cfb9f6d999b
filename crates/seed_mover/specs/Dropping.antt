-- What dropping a file does.
use Rattle.std.specs.Prelude.{◌≡◌, ◌≢◌, ◌+◌, ℕ, true, false, ◌||◌, List, ◌∷◌, map as each, Result, Ok, Err, if◌then◌else◌}
use Rattle.std.specs.FinMap as map
use Rattle.site_forms.specs.declared.phase.Phase.TheVariants.{Idle}
use Rattle.site_forms.specs.VolumeRecords.{VolumeRecord}
use Rattle.site_forms.specs.VolumeRecords.VolumeRecord.{DropFileRecord, DropChunkRecord}
use Rattle.site_forms.specs.Volumes.{Shape, without_file}
use Rattle.volume_index.specs.HoldingValues.{held_bytes, orphans}
use Rattle.site_core.specs.Events.{Append, Shapes}
use Rattle.site_core.specs.Events.Append.{ToA, ToB}
use Rattle.seed_mover.specs.declared.errors.SiteError.{SiteError}
use Rattle.seed_mover.specs.declared.errors.SiteError.TheVariants.{RackFault, Spent, Memory, Exists, NoSuchFile, MigrationOpen, TargetNotEmpty, NothingOpen, NotMoved, Collision, Damage, BadChunk, DeviceFull, VolumeFull}
use Rattle.seed_mover.specs.Plans.{AllFit, IsFirstFull, logs_in}
use Rattle.seed_mover.specs.Running.{IsAfter, IsSameSite}
use Rattle.site_runs.specs.SiteValues.{SiteValue, shapes_in}

-- the file is dropped, and then each chunk of its volume that no file uses, in the order of the names
abbrev pub drops : Shape → List ℕ → List VolumeRecord
drops shape name = DropFileRecord name ∷ each DropChunkRecord (orphans (without_file shape name))

-- from A where A holds it, else from B
abbrev pub drop_plan : Shapes → List ℕ → List Append
drop_plan t name = if map.contains_key t.a.files name then each ToA (drops t.a name) else each ToB (drops t.b name)

-- whether A or B holds a file
abbrev pub IsHeld : SiteValue → List ℕ → Type 0
IsHeld v name = (map.contains_key v.a.shape.files name || map.contains_key v.b.shape.files name) ≡ true

-- the bytes of the chunks of both volumes
abbrev pub site_bytes : SiteValue → ℕ
site_bytes v = held_bytes v.a.shape + held_bytes v.b.shape

-- a file may be dropped
pub record MayDrop (v : SiteValue) (name : List ℕ) : Type 0 where
  pub fresh : v.spent ≡ false
  pub idle : v.journal.phase ≡ Idle
  pub held : IsHeld v name

-- what a site is once a file is to be dropped, on every rack: the bytes of the dropped chunks are answered; room is judged for
-- all records before the first
abbrev pub Drops : SiteValue → SiteValue → List ℕ → Result ℕ SiteError → Type 0
Drops v w name (Ok freed) = MayDrop v name × AllFit (logs_in v) (drop_plan (shapes_in v) name) × IsAfter v w (drop_plan (shapes_in v) name) × (freed + site_bytes w ≡ site_bytes v)
Drops v w name (Err Spent) = (v.spent ≡ true) × (w ≡ v)
Drops v w name (Err MigrationOpen) = (v.spent ≡ false) × (v.journal.phase ≢ Idle) × (w ≡ v)
Drops v w name (Err NoSuchFile) = (v.spent ≡ false) × (v.journal.phase ≡ Idle) × (¬ IsHeld v name) × (w ≡ v)
Drops v w name (Err Memory) = MayDrop v name × IsSameSite v w
Drops v w name (Err (DeviceFull device at len)) = MayDrop v name × IsFirstFull (logs_in v) (drop_plan (shapes_in v) name) device at len × IsSameSite v w
Drops v w name (Err RackFault) = MayDrop v name × AllFit (logs_in v) (drop_plan (shapes_in v) name) × (w.spent ≡ true)
Drops v w name (Err Exists) = ⊥
Drops v w name (Err TargetNotEmpty) = ⊥
Drops v w name (Err NothingOpen) = ⊥
Drops v w name (Err NotMoved) = ⊥
Drops v w name (Err (Collision chunk)) = ⊥
Drops v w name (Err (Damage device at)) = ⊥
Drops v w name (Err (BadChunk chunk found)) = ⊥
Drops v w name (Err (VolumeFull what)) = ⊥
