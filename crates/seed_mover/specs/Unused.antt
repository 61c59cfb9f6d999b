-- Chunks that no file uses, dropped one after the other.
use Rattle.std.specs.Prelude.{◌≡◌, ◌≤◌, true, List, map as each, Result, Ok, Err}
use Rattle.site_forms.specs.VolumeRecords.VolumeRecord.{DropChunkRecord}
use Rattle.site_forms.specs.Volumes.{Shape}
use Rattle.volume_index.specs.HoldingValues.{orphans}
use Rattle.site_core.specs.Events.{Append}
use Rattle.seed_mover.specs.declared.entries.Side.{Side}
use Rattle.seed_mover.specs.declared.errors.SiteError.{SiteError}
use Rattle.seed_mover.specs.declared.errors.SiteError.TheVariants.{RackFault, Spent, Memory, Exists, NoSuchFile, MigrationOpen, TargetNotEmpty, NothingOpen, NotMoved, Collision, Damage, BadChunk, DeviceFull, VolumeFull}
use Rattle.seed_mover.specs.Entries.{append_to, on_side}
use Rattle.seed_mover.specs.Plans.{AllFit, IsFirstFull, logs_in}
use Rattle.seed_mover.specs.Running.{IsAfter, IsPartlyAfter}
use Rattle.site_runs.specs.SiteValues.{SiteValue}

-- in the order of the names
abbrev pub unused_plan : Side → Shape → List Append
unused_plan side shape = each (λ chunk. append_to side (DropChunkRecord chunk)) (orphans shape)

abbrev pub unused_of : Side → SiteValue → List Append
unused_of side v = unused_plan side (on_side side v).shape

-- records may be as long as before
pub record KeepsBodies (v w : SiteValue) : Type 0 where
  pub a : v.a.room.body ≤ w.a.room.body
  pub b : v.b.room.body ≤ w.b.room.body
  pub journal : v.journal.room ≤ w.journal.room

-- what a site is then, on every rack
abbrev pub DropsUnused : Side → SiteValue → SiteValue → Result (Unit {0}) SiteError → Type 0
DropsUnused side v w (Ok done) = AllFit (logs_in v) (unused_of side v) × IsAfter v w (unused_of side v) × KeepsBodies v w
DropsUnused side v w (Err RackFault) = w.spent ≡ true
DropsUnused side v w (Err (DeviceFull device at len)) = IsFirstFull (logs_in v) (unused_of side v) device at len × IsPartlyAfter v w (unused_of side v)
DropsUnused side v w (Err Memory) = ⊥
DropsUnused side v w (Err Spent) = ⊥
DropsUnused side v w (Err Exists) = ⊥
DropsUnused side v w (Err NoSuchFile) = ⊥
DropsUnused side v w (Err MigrationOpen) = ⊥
DropsUnused side v w (Err TargetNotEmpty) = ⊥
DropsUnused side v w (Err NothingOpen) = ⊥
DropsUnused side v w (Err NotMoved) = ⊥
DropsUnused side v w (Err (Collision name)) = ⊥
DropsUnused side v w (Err (Damage device at)) = ⊥
DropsUnused side v w (Err (BadChunk name found)) = ⊥
DropsUnused side v w (Err (VolumeFull what)) = ⊥
