-- Where an undo ends.
use Rattle.std.proofs.Common.{◌≡◌, ◌≢◌, inl, inr, ℕ, List, [], ◌∷◌, Option, Some, refl, sym, ◌∙◌, ap, subst}
use Rattle.std.specs.Prelude.{unwrap_or}
use Rattle.std.specs.Option.{option_map}
use Rattle.site_forms.specs.declared.phase.Phase.{Phase}
use Rattle.site_forms.specs.declared.phase.Phase.TheVariants.{Idle, Moving, Moved, Undoing}
use Rattle.site_forms.specs.JournalRecords.JournalRecord.{UndoBeginRecord}
use Rattle.site_forms.specs.Phases.{phase_after}
use Rattle.site_forms.specs.Views.{State}
use Rattle.site_core.specs.Events.{Append, MayAppend, after, happens}
use Rattle.site_core.specs.Events.Append.{ToJournal}
use Rattle.site_core.specs.Events.Event.{Appends}
use Rattle.site_core.specs.Lasting.{IsFoldedSite, IsUndone}
use Rattle.site_core.specs.Plans.{AreActions, after_plan, events_of}
use Rattle.site_core.proofs.Lasting.{all_keep}
use Rattle.site_core.proofs.Undoing.{undo_ends}
use Rattle.undo_move.specs.Undoing.{turn_plan, undo_plan}

undoing_open : (names : List (List ℕ)) → Undoing names ≢ Idle
undoing_open names is = cc

-- another phase over the same volumes
from_turned : (s : State) (phase : Phase) (now : State) → IsUndone (record s { phase = phase }) now → IsUndone s now
from_turned s phase now undone = record { files = undone.files; tidy = undone.tidy; values = undone.values; nothing = undone.nothing }

turn_undone : (s : State) (names : List (List ℕ)) (plan : List Append) → phase_after s.phase UndoBeginRecord ≡ Some (Undoing names) → IsFoldedSite s → AreActions (after s (Appends (ToJournal UndoBeginRecord))) plan
    → (after_plan (after s (Appends (ToJournal UndoBeginRecord))) plan).phase ≡ Idle → IsUndone s (after_plan (after s (Appends (ToJournal UndoBeginRecord))) plan)
turn_undone s names plan turns is actions idle =
    let x = ToJournal UndoBeginRecord in
    let u : State = record s { phase = Undoing names } in
    let folds : happens s x ≡ Some u = ap (λ (o : Option Phase). option_map (λ (p : Phase). record s { phase = p }) o) turns in
    let same : after s (Appends x) ≡ u = ap (λ (o : Option State). unwrap_or o s) folds in
    let may : MayAppend s x = inr (inr (record { turn = inl refl; next = u; folds = folds })) in
    let site : IsFoldedSite (after s (Appends x)) = all_keep s (events_of (x ∷ [])) is (may, tt) in
    let now = after_plan (after s (Appends x)) plan in
    from_turned s (Undoing names) now
    (subst (λ (t : State). IsUndone t now) same (undo_ends (after s (Appends x)) plan site (λ no. undoing_open names (sym (ap (λ (t : State). t.phase) same) ∙ no)) actions idle))

undone_by : (s : State) (phase : Phase) (plan : List Append) → s.phase ≡ phase → IsFoldedSite s → s.phase ≢ Idle → AreActions (after_plan s (turn_plan phase)) plan → (after_plan (after_plan s (turn_plan phase)) plan).phase ≡ Idle
    → IsUndone s (after_plan (after_plan s (turn_plan phase)) plan)
undone_by s Idle plan here is began actions idle = absurd (began here)
undone_by s (Moving names) plan here is began actions idle = turn_undone s names plan (ap (λ (p : Phase). phase_after p UndoBeginRecord) here) is actions idle
undone_by s (Moved names) plan here is began actions idle = turn_undone s names plan (ap (λ (p : Phase). phase_after p UndoBeginRecord) here) is actions idle
undone_by s (Undoing names) plan here is began actions idle = undo_ends s plan is began actions idle

pub all_undone : (s : State) (plan : List Append) → IsFoldedSite s → s.phase ≢ Idle → AreActions (after_plan s (undo_plan s)) plan → (after_plan (after_plan s (undo_plan s)) plan).phase ≡ Idle → IsUndone s (after_plan (after_plan s (undo_plan s)) plan)
all_undone s plan is began actions idle = undone_by s s.phase plan refl is began actions idle
