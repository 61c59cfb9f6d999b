-- What the calls do that undo a migration.
use Rattle.std.specs.Prelude.{◌≡◌, ◌⊎◌, true, false, List, [], ◌∷◌, Result, Ok, Err}
use Rattle.site_forms.specs.declared.phase.Phase.{Phase}
use Rattle.site_forms.specs.declared.phase.Phase.TheVariants.{Idle, Moving, Moved, Undoing}
use Rattle.site_forms.specs.JournalRecords.JournalRecord.{UndoBeginRecord}
use Rattle.site_forms.specs.Views.{State}
use Rattle.site_core.specs.declared.action.Action.{Action}
use Rattle.site_core.specs.Events.{Append}
use Rattle.site_core.specs.Events.Append.{ToJournal}
use Rattle.site_runs.specs.SiteValues.{SiteValue}
use Rattle.seed_mover.specs.declared.errors.SiteError.{SiteError}
use Rattle.seed_mover.specs.declared.errors.SiteError.TheVariants.{Spent, NothingOpen}
use Rattle.seed_mover.specs.Moving.{Acts, Marks}

-- files are moving, or have moved
abbrev pub MayTurn : Phase → Type 0
MayTurn Idle = ⊥
MayTurn (Moving names) = Unit {0}
MayTurn (Moved names) = Unit {0}
MayTurn (Undoing names) = ⊥

-- files are moving back
abbrev pub IsUndoing : Phase → Type 0
IsUndoing Idle = ⊥
IsUndoing (Moving names) = ⊥
IsUndoing (Moved names) = ⊥
IsUndoing (Undoing names) = Unit {0}

-- what the beginning of an undo appends: one record where files are moving or have moved, and nothing elsewhere
abbrev pub turn_plan : Phase → List Append
turn_plan Idle = []
turn_plan (Moving names) = ToJournal UndoBeginRecord ∷ []
turn_plan (Moved names) = ToJournal UndoBeginRecord ∷ []
turn_plan (Undoing names) = []

abbrev pub undo_plan : State → List Append
undo_plan s = turn_plan s.phase

-- what a site is once an undo is asked for, on every rack
pub record BeginsUndo (v w : SiteValue) (result : Result (Unit {0}) SiteError) : Type 0 where
  pub spent : v.spent ≡ true → (result ≡ Err Spent) × (w ≡ v)
  pub nothing : v.spent ≡ false → v.journal.phase ≡ Idle → (result ≡ Err NothingOpen) × (w ≡ v)
  pub again : v.spent ≡ false → IsUndoing v.journal.phase → (result ≡ Ok tt) × (w ≡ v)
  pub turns : v.spent ≡ false → MayTurn v.journal.phase → Marks v w UndoBeginRecord result

-- no record is to be appended
abbrev pub IsLeft : SiteValue → Type 0
IsLeft v = (v.spent ≡ true) ⊎ ¬ MayTurn v.journal.phase

-- what a site is once an action of an undo is asked for, on every rack
pub record UndoSteps (v w : SiteValue) (result : Result Action SiteError) : Type 0 where
  pub spent : v.spent ≡ true → (result ≡ Err Spent) × (w ≡ v)
  pub other : v.spent ≡ false → ¬ IsUndoing v.journal.phase → (result ≡ Err NothingOpen) × (w ≡ v)
  pub undoing : v.spent ≡ false → IsUndoing v.journal.phase → Acts v w result
