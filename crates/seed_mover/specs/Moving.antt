-- What the calls do that move a migration on.
use Rattle.std.specs.Prelude.{◌≡◌, ◌≢◌, ◌⊎◌, ℕ, ⊤, Bool, true, false, List, [], ◌∷◌, Option, Some, None, Result, Ok, Err}
use Rattle.std.specs.FinMap as map
use Rattle.volume_disk.specs.Disk.{Disk, Images}
use Rattle.site_forms.specs.declared.phase.Phase.{Phase}
use Rattle.site_forms.specs.declared.phase.Phase.TheVariants.{Idle, Moving, Moved, Undoing}
use Rattle.site_forms.specs.JournalRecords.{JournalRecord}
use Rattle.site_forms.specs.JournalRecords.JournalRecord.{AcceptedRecord}
use Rattle.site_forms.specs.Views.{State}
use Rattle.chunk_volume.specs.VolumeValues.{VolumeValue}
use Rattle.site_core.specs.declared.action.Action.{Action}
use Rattle.site_core.specs.declared.action.Action.TheVariants.{CopyToB, CopyToA}
use Rattle.site_core.specs.Events.{Append, append_of, next_action_of, IsNextOf}
use Rattle.site_core.specs.Events.Append.{ToJournal}
use Rattle.site_core.specs.Steps.{next_of}
use Rattle.site_runs.specs.Runs.{Runs}
use Rattle.site_runs.specs.SiteValues.{SiteValue, shapes_in}
use Rattle.seed_mover.specs.declared.errors.SiteError.{SiteError}
use Rattle.seed_mover.specs.declared.errors.SiteError.TheVariants.{RackFault, Spent, Memory, Exists, NoSuchFile, MigrationOpen, TargetNotEmpty, NothingOpen, NotMoved, Collision, Damage, BadChunk, DeviceFull, VolumeFull}
use Rattle.seed_mover.specs.Errors.{refuses}
use Rattle.seed_mover.specs.Plans.{AllFit, IsFirstFull, logs_after, logs_in}
use Rattle.seed_mover.specs.Running.{IsAfter, IsSameSite}

-- THE NEXT ACTION

-- as a plan
abbrev pub plan_of : State → Option Action → List Append
plan_of s None = []
plan_of s (Some action) = append_of s action ∷ []

abbrev pub act_plan : State → List Append
act_plan s = plan_of s (next_action_of s)

-- files are on the way, forth or back
abbrev pub IsOnTheWay : Phase → Type 0
IsOnTheWay Idle = ⊥
IsOnTheWay (Moving names) = Unit {0}
IsOnTheWay (Moved names) = ⊥
IsOnTheWay (Undoing names) = Unit {0}

-- the next action is done
pub record IsActed (v w : SiteValue) (action : Action) : Type 0 where
  pub append : Append
  pub next : IsNextOf (shapes_in v) append
  pub action_is : next.action ≡ action
  pub fit : AllFit (logs_in v) (append ∷ [])
  pub after : IsAfter v w (append ∷ [])

-- the append of the next action has no room
pub record IsFullToAct (v : SiteValue) (device at len : ℕ) : Type 0 where
  pub append : Append
  pub next : IsNextOf (shapes_in v) append
  pub full : IsFirstFull (logs_in v) (append ∷ []) device at len

-- the next action copies a chunk from this volume
abbrev pub CopiesFrom : SiteValue → VolumeValue → List ℕ → Type 0
CopiesFrom v source chunk =
    (next_of v.a.shape v.b.shape v.journal.phase ≡ Some (CopyToB chunk)) × (source ≡ v.a) ⊎ (next_of v.a.shape v.b.shape v.journal.phase ≡ Some (CopyToA chunk)) × (source ≡ v.b)

-- the log of the source ends before the bytes of the chunk that the next action copies
pub record IsCutShort (v : SiteValue) (device at : ℕ) : Type 0 where
  pub source : VolumeValue
  pub chunk : List ℕ
  pub copies : CopiesFrom v source chunk
  pub device_is : device ≡ source.log.device
  pub at_is : map.get source.places chunk ≡ Some at

-- the bytes of the chunk that the next action copies have another digest
pub record IsMisnamed (v : SiteValue) (name found : List ℕ) : Type 0 where
  pub source : VolumeValue
  pub copies : CopiesFrom v source name
  pub other : found ≢ name

-- what a site is after a next action, on every rack: each refusal has its cause
abbrev pub Acts : SiteValue → SiteValue → Result Action SiteError → Type 0
Acts v w (Ok action) = (v.spent ≡ false) × IsActed v w action
Acts v w (Err Spent) = (v.spent ≡ true) × (w ≡ v)
Acts v w (Err RackFault) = (v.spent ≡ false) × (w.spent ≡ true)
Acts v w (Err Memory) = (v.spent ≡ false) × IsSameSite v w
Acts v w (Err (DeviceFull device at len)) = (v.spent ≡ false) × IsFullToAct v device at len × IsSameSite v w
Acts v w (Err (Damage device at)) = (v.spent ≡ false) × IsCutShort v device at × IsSameSite v w
Acts v w (Err (BadChunk name found)) = (v.spent ≡ false) × IsMisnamed v name found × IsSameSite v w
Acts v w (Err Exists) = ⊥
Acts v w (Err NoSuchFile) = ⊥
Acts v w (Err MigrationOpen) = ⊥
Acts v w (Err TargetNotEmpty) = ⊥
Acts v w (Err NothingOpen) = ⊥
Acts v w (Err NotMoved) = ⊥
Acts v w (Err (Collision name)) = ⊥
Acts v w (Err (VolumeFull what)) = ⊥

-- what would say that a device or a chunk is damaged
abbrev pub tells_damage : SiteError → Bool
tells_damage (Damage device at) = true
tells_damage (BadChunk name found) = true
tells_damage _ = false

-- what the disk of a site says to a next action: it is the next one of the state, and nothing is damaged
abbrev pub FindsCopy : State → Result Action SiteError → Type 0
FindsCopy s (Ok action) = next_action_of s ≡ Some action
FindsCopy s (Err error) = tells_damage error ≡ false

-- a device that is too full is so for this plan's first append without room
abbrev pub IsFullFor : SiteValue → List Append → SiteError → Type 0
IsFullFor v plan (DeviceFull device at len) = IsFirstFull (logs_in v) plan device at len
IsFullFor v plan _ = ⊤

-- the append of the state's next action has room, and the logs are those with it; or it is the one without room
abbrev pub FindsRoom : SiteValue → SiteValue → State → Result Action SiteError → Type 0
FindsRoom v w s (Ok action) = AllFit (logs_in v) (act_plan s) × (logs_in w ≡ logs_after (logs_in v) (act_plan s))
FindsRoom v w s (Err error) = IsFullFor v (act_plan s) error

-- a next action, on a site that stands for a state
pub record ActsOn {D : Type 0} (disk : D → Disk) (moment : D → ℕ) (left_since : D → ℕ → Images → Type 0) (old new : D) (v w : SiteValue) (s : State) (result : Result Action SiteError) : Type 0 where
  pub runs : Runs disk moment left_since refuses old new v w s (act_plan s) result
  pub finds : FindsCopy s result
  pub room : FindsRoom v w s result

-- MARKS

-- while files move, and once all have moved
abbrev pub IsMoving : Phase → Type 0
IsMoving Idle = ⊥
IsMoving (Moving names) = Unit {0}
IsMoving (Moved names) = ⊥
IsMoving (Undoing names) = ⊥

abbrev pub IsMoved : Phase → Type 0
IsMoved Idle = ⊥
IsMoved (Moving names) = ⊥
IsMoved (Moved names) = Unit {0}
IsMoved (Undoing names) = ⊥

-- a record of the journal, as a plan
abbrev pub mark_plan : JournalRecord → List Append
mark_plan r = ToJournal r ∷ []

-- what a site is once a record of the journal is asked for, on every rack; no memory is wanted
abbrev pub Marks : SiteValue → SiteValue → JournalRecord → Result (Unit {0}) SiteError → Type 0
Marks v w r (Ok done) = (v.spent ≡ false) × AllFit (logs_in v) (mark_plan r) × IsAfter v w (mark_plan r)
Marks v w r (Err Spent) = (v.spent ≡ true) × (w ≡ v)
Marks v w r (Err RackFault) = (v.spent ≡ false) × AllFit (logs_in v) (mark_plan r) × (w.spent ≡ true)
Marks v w r (Err (DeviceFull device at len)) = (v.spent ≡ false) × IsFirstFull (logs_in v) (mark_plan r) device at len × IsSameSite v w
Marks v w r (Err Memory) = ⊥
Marks v w r (Err Exists) = ⊥
Marks v w r (Err NoSuchFile) = ⊥
Marks v w r (Err MigrationOpen) = ⊥
Marks v w r (Err TargetNotEmpty) = ⊥
Marks v w r (Err NothingOpen) = ⊥
Marks v w r (Err NotMoved) = ⊥
Marks v w r (Err (Collision name)) = ⊥
Marks v w r (Err (Damage device at)) = ⊥
Marks v w r (Err (BadChunk name found)) = ⊥
Marks v w r (Err (VolumeFull what)) = ⊥

-- the same of the end of a migration, which is accepted only where all has moved
pub record Accepts (v w : SiteValue) (result : Result (Unit {0}) SiteError) : Type 0 where
  pub spent : v.spent ≡ true → (result ≡ Err Spent) × (w ≡ v)
  pub other : v.spent ≡ false → ¬ IsMoved v.journal.phase → (result ≡ Err NotMoved) × (w ≡ v)
  pub moved : v.spent ≡ false → IsMoved v.journal.phase → Marks v w AcceptedRecord result
