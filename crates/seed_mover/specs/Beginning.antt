-- What beginning a migration does.
use Rattle.std.specs.Prelude.{◌≡◌, ◌≢◌, ℕ, true, false, List, [], ◌∷◌, ◌++◌, map as each, Result, Ok, Err}
use Rattle.std.specs.FinMap as map
use Rattle.site_forms.specs.declared.phase.Phase.TheVariants.{Idle}
use Rattle.site_forms.specs.JournalRecords.JournalRecord.{BeginRecord}
use Rattle.site_forms.specs.Sites.{HoldsAllNames, HoldsFile, IsNamed}
use Rattle.site_forms.specs.VolumeRecords.VolumeRecord.{DropChunkRecord}
use Rattle.site_forms.specs.Volumes.{Shape}
use Rattle.volume_index.specs.HoldingValues.{orphans}
use Rattle.site_core.specs.Events.{Append, Shapes}
use Rattle.site_core.specs.Events.Append.{ToA, ToB, ToJournal}
use Rattle.site_runs.specs.SiteValues.{SiteValue, shapes_in}
use Rattle.seed_mover.specs.declared.errors.SiteError.{SiteError}
use Rattle.seed_mover.specs.declared.errors.SiteError.TheVariants.{RackFault, Spent, Memory, Exists, NoSuchFile, MigrationOpen, TargetNotEmpty, NothingOpen, NotMoved, Collision, Damage, BadChunk, DeviceFull, VolumeFull}
use Rattle.seed_mover.specs.Plans.{AllFit, IsFirstFull, logs_in}
use Rattle.seed_mover.specs.Running.{IsAfter, IsPartlyAfter, IsSameSite}

abbrev pub HasNoFile : Shape → Type 0
HasNoFile shape = (name : List ℕ) → map.contains_key shape.files name ≡ false

abbrev pub HasSomeFile : Shape → Type 0
HasSomeFile shape = (name : List ℕ) × HoldsFile shape name

-- whether a migration may begin
abbrev pub JudgesBegin : SiteValue → Result (Unit {0}) SiteError → Type 0
JudgesBegin v (Ok done) = (v.journal.phase ≡ Idle) × HasNoFile v.b.shape
JudgesBegin v (Err MigrationOpen) = v.journal.phase ≢ Idle
JudgesBegin v (Err TargetNotEmpty) = (v.journal.phase ≡ Idle) × HasSomeFile v.b.shape
JudgesBegin v (Err Spent) = ⊥
JudgesBegin v (Err RackFault) = ⊥
JudgesBegin v (Err Memory) = ⊥
JudgesBegin v (Err Exists) = ⊥
JudgesBegin v (Err NoSuchFile) = ⊥
JudgesBegin v (Err NothingOpen) = ⊥
JudgesBegin v (Err NotMoved) = ⊥
JudgesBegin v (Err (Collision name)) = ⊥
JudgesBegin v (Err (Damage device at)) = ⊥
JudgesBegin v (Err (BadChunk name found)) = ⊥
JudgesBegin v (Err (DeviceFull device at len)) = ⊥
JudgesBegin v (Err (VolumeFull what)) = ⊥

-- the unused chunks of A are dropped, then those of B, each in the order of the names; then the beginning is recorded
abbrev pub begin_plan : Shapes → List (List ℕ) → List Append
begin_plan t names = each (λ chunk. ToA (DropChunkRecord chunk)) (orphans t.a) ++ (each (λ chunk. ToB (DropChunkRecord chunk)) (orphans t.b) ++ ToJournal (BeginRecord names) ∷ [])

-- a migration of these files may begin
pub record IsReady (v : SiteValue) (names : List (List ℕ)) : Type 0 where
  pub fresh : v.spent ≡ false
  pub idle : v.journal.phase ≡ Idle
  pub empty : HasNoFile v.b.shape
  pub held : HoldsAllNames v.a.shape names

-- A lacks a name
abbrev pub LacksName : Shape → List (List ℕ) → Type 0
LacksName shape names = (name : List ℕ) × IsNamed names name × (map.contains_key shape.files name ≡ false)

-- what a site is once a migration is asked for, on every rack. A device that is too full shows after the records that have
-- room.
abbrev pub Begins : SiteValue → SiteValue → List (List ℕ) → Result (Unit {0}) SiteError → Type 0
Begins v w names (Ok done) = IsReady v names × AllFit (logs_in v) (begin_plan (shapes_in v) names) × IsAfter v w (begin_plan (shapes_in v) names)
Begins v w names (Err Spent) = (v.spent ≡ true) × (w ≡ v)
Begins v w names (Err MigrationOpen) = (v.spent ≡ false) × (v.journal.phase ≢ Idle) × (w ≡ v)
Begins v w names (Err TargetNotEmpty) = (v.spent ≡ false) × (v.journal.phase ≡ Idle) × HasSomeFile v.b.shape × (w ≡ v)
Begins v w names (Err NoSuchFile) = (v.spent ≡ false) × (v.journal.phase ≡ Idle) × HasNoFile v.b.shape × LacksName v.a.shape names × (w ≡ v)
Begins v w names (Err Memory) = IsReady v names × IsSameSite v w
Begins v w names (Err (DeviceFull device at len)) = IsReady v names × IsFirstFull (logs_in v) (begin_plan (shapes_in v) names) device at len × IsPartlyAfter v w (begin_plan (shapes_in v) names)
Begins v w names (Err RackFault) = IsReady v names × (w.spent ≡ true)
Begins v w names (Err Exists) = ⊥
Begins v w names (Err NothingOpen) = ⊥
Begins v w names (Err NotMoved) = ⊥
Begins v w names (Err (Collision name)) = ⊥
Begins v w names (Err (Damage device at)) = ⊥
Begins v w names (Err (BadChunk name found)) = ⊥
Begins v w names (Err (VolumeFull what)) = ⊥
