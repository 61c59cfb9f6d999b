-- One append as a whole plan: the marks of the journal.
use Rattle.std.proofs.Common.{◌≡◌, ◌≢◌, ◌⊎◌, inl, inr, ℕ, List, [], false, Some, refl, ap}
use Rattle.std.specs.Prelude.{Result, Ok, Err}
use Rattle.std.specs.Option.{option_map}
use Rattle.volume_disk.specs.Disk.{Disk, Images, Crash}
use Rattle.site_forms.specs.declared.phase.Phase.{Phase}
use Rattle.site_forms.specs.declared.phase.Phase.TheVariants.{Idle, Moving, Moved, Undoing}
use Rattle.site_forms.specs.JournalRecords.{JournalRecord}
use Rattle.site_forms.specs.JournalRecords.JournalRecord.{UndoBeginRecord, AcceptedRecord}
use Rattle.site_forms.specs.Phases.{phase_after}
use Rattle.site_forms.specs.Views.{State}
use Rattle.site_core.specs.Events.{Append, IsTurn, MayAppend, MayAppendTo, Shapes, after, happens_to}
use Rattle.site_core.specs.Events.Append.{ToJournal}
use Rattle.site_core.specs.Events.Event.{Appends}
use Rattle.site_core.specs.Lasting.{IsFoldedSite}
use Rattle.site_core.specs.Plans.{IsFrontOf}
use Rattle.site_runs.specs.Runs.{AddsTo, Runs}
use Rattle.site_runs.specs.SiteValues.{SiteStands, SiteValue, shapes_in}
use Rattle.site_runs.proofs.Fronts.{front_none}
use Rattle.site_runs.proofs.RunEnds.{runs_nothing, runs_one}
use Rattle.site_runs.proofs.Runs.{run_begins}
use Rattle.seed_mover.specs.declared.errors.SiteError.{SiteError}
use Rattle.seed_mover.specs.declared.errors.SiteError.TheVariants.{RackFault, Spent, Memory, Exists, NoSuchFile, MigrationOpen, TargetNotEmpty, NothingOpen, NotMoved, Collision, Damage, BadChunk, DeviceFull, VolumeFull}
use Rattle.seed_mover.specs.Appending.{AppendsOne}
use Rattle.seed_mover.specs.Errors.{refuses}
use Rattle.seed_mover.specs.Moving.{IsMoved, IsMoving, Marks, mark_plan}
use Rattle.seed_mover.proofs.Acted.{refusal}
use Rattle.seed_mover.proofs.Folded.{folds_state}

-- IN MEMORY

-- a turn whose record folds may be appended
turn_folds : (v : SiteValue) (r : JournalRecord) (next : Phase) → IsTurn (ToJournal r) → phase_after v.journal.phase r ≡ Some next → MayAppendTo (shapes_in v) (ToJournal r)
turn_folds v r next turn is =
    let t = shapes_in v in
    inr (inr (record { turn = turn; next = record t { phase = next }; folds = ap (λ o. option_map (λ (p : Phase). record t { phase = p }) o) is }))

moved_accepted : (phase : Phase) → IsMoved phase → phase_after phase AcceptedRecord ≡ Some Idle
moved_accepted Idle moved = absurd moved
moved_accepted (Moving names) moved = absurd moved
moved_accepted (Moved names) moved = refl
moved_accepted (Undoing names) moved = absurd moved

pub may_accept : (v : SiteValue) → IsMoved v.journal.phase → MayAppendTo (shapes_in v) (ToJournal AcceptedRecord)
may_accept v moved = turn_folds v AcceptedRecord Idle (inr refl) (moved_accepted v.journal.phase moved)

undone : (phase : Phase) → IsMoving phase ⊎ IsMoved phase → (next : Phase) × (phase_after phase UndoBeginRecord ≡ Some next)
undone Idle (inl is) = absurd is
undone Idle (inr is) = absurd is
undone (Moving names) is = (Undoing names, refl)
undone (Moved names) is = (Undoing names, refl)
undone (Undoing names) (inl is) = absurd is
undone (Undoing names) (inr is) = absurd is

pub may_undo : (v : SiteValue) → IsMoving v.journal.phase ⊎ IsMoved v.journal.phase → MayAppendTo (shapes_in v) (ToJournal UndoBeginRecord)
may_undo v is = let its = undone v.journal.phase is in turn_folds v UndoBeginRecord its.0 (inl refl) its.1

pub marks_append : (v w : SiteValue) (r : JournalRecord) (result : Result (Unit {0}) SiteError) → v.spent ≡ false → result ≢ Err Memory → AppendsOne v w (ToJournal r) result → Marks v w r result
marks_append v w r (Ok u) fresh memory one = (fresh, (one.0, tt), one.1)
marks_append v w r (Err RackFault) fresh memory one = (fresh, (one.0, tt), one.1)
marks_append v w r (Err (DeviceFull device at len)) fresh memory one = (fresh, inl one.0, one.1)
marks_append v w r (Err Memory) fresh memory one = memory refl
marks_append v w r (Err Spent) fresh memory one = absurd one
marks_append v w r (Err Exists) fresh memory one = absurd one
marks_append v w r (Err NoSuchFile) fresh memory one = absurd one
marks_append v w r (Err MigrationOpen) fresh memory one = absurd one
marks_append v w r (Err TargetNotEmpty) fresh memory one = absurd one
marks_append v w r (Err NothingOpen) fresh memory one = absurd one
marks_append v w r (Err NotMoved) fresh memory one = absurd one
marks_append v w r (Err (Collision name)) fresh memory one = absurd one
marks_append v w r (Err (Damage device at)) fresh memory one = absurd one
marks_append v w r (Err (BadChunk name found)) fresh memory one = absurd one
marks_append v w r (Err (VolumeFull what)) fresh memory one = absurd one

-- ON THE DISK

-- a turn that may be made in memory may be made of the state
turn_state : (v : SiteValue) (d : Disk) (s : State) (r : JournalRecord) (next : Shapes) → SiteStands v d s → IsTurn (ToJournal r) → happens_to (shapes_in v) (ToJournal r) ≡ Some next → MayAppend s (ToJournal r)
turn_state v d s r next stands turn is = inr (inr (record { turn = turn; next = after s (Appends (ToJournal r)); folds = folds_state v d s (ToJournal r) next stands is }))

module _ {D : Type 0} (disk : D → Disk) (moment : D → ℕ) (left_since : D → ℕ → Images → Type 0) (old : D) (v : SiteValue) (s : State) (only_now : (c : Images) → left_since old (moment old) c → Crash (disk old) c) (stands : SiteStands v (disk old) s) where
  module _ (new : D) (w : SiteValue) (is : IsFoldedSite s) where
    turn_runs : (r : JournalRecord) (next : Phase) (result : Result (Unit {0}) SiteError) → IsTurn (ToJournal r) → phase_after v.journal.phase r ≡ Some next → AddsTo disk moment left_since refuses old new v w (ToJournal r) result
        → Runs disk moment left_since refuses old new v w s (mark_plan r) result
    turn_runs r next result turn folds call =
        let t = shapes_in v in
        runs_one disk moment left_since refuses old new v w s (ToJournal r) is only_now stands
        (turn_state v (disk old) s r (record t { phase = next }) stands turn (ap (λ o. option_map (λ (p : Phase). record t { phase = p }) o) folds)) refusal result call

    pub accept_runs : (result : Result (Unit {0}) SiteError) → IsMoved v.journal.phase → AddsTo disk moment left_since refuses old new v w (ToJournal AcceptedRecord) result → Runs disk moment left_since refuses old new v w s (mark_plan AcceptedRecord) result
    accept_runs result moved call = turn_runs AcceptedRecord Idle result (inr refl) (moved_accepted v.journal.phase moved) call

    pub undo_runs : (result : Result (Unit {0}) SiteError) → IsMoving v.journal.phase ⊎ IsMoved v.journal.phase → AddsTo disk moment left_since refuses old new v w (ToJournal UndoBeginRecord) result
        → Runs disk moment left_since refuses old new v w s (mark_plan UndoBeginRecord) result
    undo_runs result turning call = let its = undone v.journal.phase turning in turn_runs UndoBeginRecord its.0 result (inl refl) its.1 call

  -- nothing is done, before any call
  pub nothing_runs : {T : Type 0} (plan : List Append) (error : SiteError) → Runs disk moment left_since refuses old old v v {T = T} s plan (Err error)
  nothing_runs plan error = runs_nothing disk moment left_since refuses old old v v s plan error (run_begins disk moment left_since (IsFrontOf []) s old v (front_none []) only_now stands) (λ device. refl)

-- a phase that is another
pub not_moved : (phase : Phase) → ((names : List (List ℕ)) → phase ≡ Moved names → ⊥) → IsMoved phase → ⊥
not_moved Idle other moved = moved
not_moved (Moving names) other moved = moved
not_moved (Moved names) other moved = other names refl
not_moved (Undoing names) other moved = moved
