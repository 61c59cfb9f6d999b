-- The parts of a beginning.
use Rattle.std.specs.Prelude.{◌≡◌, ◌≢◌, ℕ, ◌≤◌, true, false, List, ◌++◌, length, Result, Ok, Err, OnOk}
use Rattle.site_forms.specs.declared.phase.Phase.TheVariants.{Idle}
use Rattle.site_forms.specs.JournalRecords.{journal_body}
use Rattle.site_forms.specs.JournalRecords.JournalRecord.{BeginRecord}
use Rattle.site_core.specs.Events.{Append}
use Rattle.seed_mover.specs.declared.entries.Side.TheVariants.{A, B}
use Rattle.seed_mover.specs.declared.errors.SiteError.{SiteError}
use Rattle.seed_mover.specs.declared.errors.SiteError.TheVariants.{RackFault, Spent, Memory, Exists, NoSuchFile, MigrationOpen, TargetNotEmpty, NothingOpen, NotMoved, Collision, Damage, BadChunk, DeviceFull, VolumeFull}
use Rattle.seed_mover.specs.Beginning.{HasNoFile, HasSomeFile, IsReady, LacksName, begin_plan}
use Rattle.seed_mover.specs.Plans.{AllFit, IsFirstFull, logs_in}
use Rattle.seed_mover.specs.Running.{IsAfter, IsPartlyAfter, IsSameSite}
use Rattle.site_runs.specs.SiteValues.{SiteValue, shapes_in}
use Rattle.seed_mover.specs.Unused.{unused_of}

-- there is room for all records of a beginning
pub record HasRoomToBegin (v : SiteValue) (names : List (List ℕ)) : Type 0 where
  pub a : 33 ≤ v.a.room.body
  pub b : 33 ≤ v.b.room.body
  pub journal : length (journal_body (BeginRecord names)) ≤ v.journal.room

-- before the first record
abbrev pub ReadiesBegin : SiteValue → SiteValue → List (List ℕ) → Result (Unit {0}) SiteError → Type 0
ReadiesBegin v w names (Ok done) = IsReady v names × IsSameSite v w × HasRoomToBegin w names
ReadiesBegin v w names (Err Spent) = (v.spent ≡ true) × (w ≡ v)
ReadiesBegin v w names (Err MigrationOpen) = (v.spent ≡ false) × (v.journal.phase ≢ Idle) × (w ≡ v)
ReadiesBegin v w names (Err TargetNotEmpty) = (v.spent ≡ false) × (v.journal.phase ≡ Idle) × HasSomeFile v.b.shape × (w ≡ v)
ReadiesBegin v w names (Err NoSuchFile) = (v.spent ≡ false) × (v.journal.phase ≡ Idle) × HasNoFile v.b.shape × LacksName v.a.shape names × (w ≡ v)
ReadiesBegin v w names (Err Memory) = IsReady v names × IsSameSite v w
ReadiesBegin v w names (Err RackFault) = ⊥
ReadiesBegin v w names (Err Exists) = ⊥
ReadiesBegin v w names (Err NothingOpen) = ⊥
ReadiesBegin v w names (Err NotMoved) = ⊥
ReadiesBegin v w names (Err (Collision name)) = ⊥
ReadiesBegin v w names (Err (Damage device at)) = ⊥
ReadiesBegin v w names (Err (BadChunk name found)) = ⊥
ReadiesBegin v w names (Err (DeviceFull device at len)) = ⊥
ReadiesBegin v w names (Err (VolumeFull what)) = ⊥

-- a plan is run, or stops inside where a device is too full; no memory is wanted
abbrev pub RunsPlan : SiteValue → SiteValue → List Append → Result (Unit {0}) SiteError → Type 0
RunsPlan v w plan (Ok done) = AllFit (logs_in v) plan × IsAfter v w plan
RunsPlan v w plan (Err RackFault) = w.spent ≡ true
RunsPlan v w plan (Err (DeviceFull device at len)) = IsFirstFull (logs_in v) plan device at len × IsPartlyAfter v w plan
RunsPlan v w plan (Err Memory) = ⊥
RunsPlan v w plan (Err Spent) = ⊥
RunsPlan v w plan (Err Exists) = ⊥
RunsPlan v w plan (Err NoSuchFile) = ⊥
RunsPlan v w plan (Err MigrationOpen) = ⊥
RunsPlan v w plan (Err TargetNotEmpty) = ⊥
RunsPlan v w plan (Err NothingOpen) = ⊥
RunsPlan v w plan (Err NotMoved) = ⊥
RunsPlan v w plan (Err (Collision name)) = ⊥
RunsPlan v w plan (Err (Damage device at)) = ⊥
RunsPlan v w plan (Err (BadChunk name found)) = ⊥
RunsPlan v w plan (Err (VolumeFull what)) = ⊥

abbrev pub RunsBegin : SiteValue → SiteValue → List (List ℕ) → Result (Unit {0}) SiteError → Type 0
RunsBegin v w names result = RunsPlan v w (begin_plan (shapes_in v) names) result

-- the unused chunks of A, then those of B
abbrev pub all_unused : SiteValue → List Append
all_unused v = unused_of A v ++ unused_of B v

pub record DropsAllUnused (v w : SiteValue) (result : Result (Unit {0}) SiteError) : Type 0 where
  pub runs : RunsPlan v w (all_unused v) result
  pub bodies : OnOk result (v.journal.room ≤ w.journal.room)
