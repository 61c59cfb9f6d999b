-- What one record more does to a site in memory.
use Rattle.std.specs.Prelude.{◌≡◌, ◌≤◌, length, true, [], ◌∷◌, Result, Ok, Err}
use Rattle.chunk_volume.specs.Room.{HasRoomFor, KeepsRoom, TakesRoom}
use Rattle.site_forms.specs.JournalRecords.{journal_body}
use Rattle.site_core.specs.Events.{Append}
use Rattle.site_core.specs.Events.Append.{ToA, ToB, ToJournal}
use Rattle.seed_mover.specs.declared.errors.SiteError.{SiteError}
use Rattle.seed_mover.specs.declared.errors.SiteError.TheVariants.{RackFault, Spent, Memory, Exists, NoSuchFile, MigrationOpen, TargetNotEmpty, NothingOpen, NotMoved, Collision, Damage, BadChunk, DeviceFull, VolumeFull}
use Rattle.seed_mover.specs.Plans.{IsFullAt, IsTooFullFor, logs_in}
use Rattle.seed_mover.specs.Running.{IsAfter, IsSameSite}
use Rattle.site_runs.specs.SiteValues.{SiteValue}

-- there is room for a record, so that no memory is wanted
abbrev pub HasRoomIn : SiteValue → Append → Type 0
HasRoomIn v (ToA r) = HasRoomFor v.a.room r
HasRoomIn v (ToB r) = HasRoomFor v.b.room r
HasRoomIn v (ToJournal r) = length (journal_body r) ≤ v.journal.room

-- no less room but for what a record takes
abbrev pub TakesRoomOf : SiteValue → SiteValue → Append → Type 0
TakesRoomOf v w (ToA r) = TakesRoom r v.a.room w.a.room × KeepsRoom v.b.room w.b.room × (v.journal.room ≤ w.journal.room)
TakesRoomOf v w (ToB r) = KeepsRoom v.a.room w.a.room × TakesRoom r v.b.room w.b.room × (v.journal.room ≤ w.journal.room)
TakesRoomOf v w (ToJournal r) = KeepsRoom v.a.room w.a.room × KeepsRoom v.b.room w.b.room × (v.journal.room ≤ w.journal.room)

-- what a site that is not spent is once a record is to be appended, on every rack
abbrev pub AppendsOne : SiteValue → SiteValue → Append → Result (Unit {0}) SiteError → Type 0
AppendsOne v w x (Ok done) = (¬ IsTooFullFor (logs_in v) x) × IsAfter v w (x ∷ []) × TakesRoomOf v w x
AppendsOne v w x (Err RackFault) = (¬ IsTooFullFor (logs_in v) x) × (w.spent ≡ true)
AppendsOne v w x (Err (DeviceFull device at len)) = IsFullAt (logs_in v) x device at len × IsSameSite v w
AppendsOne v w x (Err Memory) = (¬ HasRoomIn v x) × IsSameSite v w
AppendsOne v w x (Err Spent) = ⊥
AppendsOne v w x (Err Exists) = ⊥
AppendsOne v w x (Err NoSuchFile) = ⊥
AppendsOne v w x (Err MigrationOpen) = ⊥
AppendsOne v w x (Err TargetNotEmpty) = ⊥
AppendsOne v w x (Err NothingOpen) = ⊥
AppendsOne v w x (Err NotMoved) = ⊥
AppendsOne v w x (Err (Collision name)) = ⊥
AppendsOne v w x (Err (Damage device at)) = ⊥
AppendsOne v w x (Err (BadChunk name found)) = ⊥
AppendsOne v w x (Err (VolumeFull what)) = ⊥
