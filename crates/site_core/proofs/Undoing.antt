-- Next actions that end a migration: the last of them is the end of an undo.
use Rattle.std.proofs.Common.{◌≡◌, ◌≢◌, inl, List, [], ◌∷◌, Option, Some, None, refl, sym, ◌∙◌, ap, subst}
use Rattle.std.specs.Prelude.{unwrap_or}
use Rattle.std.specs.Option.{option_map}
use Rattle.site_forms.specs.declared.phase.Phase.{Phase}
use Rattle.site_forms.specs.declared.phase.Phase.TheVariants.{Idle, Moving, Moved, Undoing}
use Rattle.site_forms.specs.JournalRecords.JournalRecord.{MovedRecord, UndoneRecord}
use Rattle.site_forms.specs.Phases.{phase_after}
use Rattle.site_forms.specs.Sites.{IsTidy, shape_of}
use Rattle.site_forms.specs.Views.{State, joined_files}
use Rattle.site_forms.specs.VolumeRecords.{VolumeRecord}
use Rattle.site_forms.specs.VolumeRecords.VolumeRecord.{ChunkRecord, FileRecord, DropFileRecord, DropChunkRecord}
use Rattle.site_forms.specs.Volumes.{Volume, volume_after}
use Rattle.site_core.specs.declared.action.Action.{Action}
use Rattle.site_core.specs.declared.action.Action.TheVariants.{CopyToB, AddToB, DropFromA, DropChunkA, Moved as RecordMoved, CopyToA, AddToA, DropFromB, DropChunkB, Undone}
use Rattle.site_core.specs.Events.{Append, IsNextAppend, MayAppend, after, append_of, copied_bytes, named}
use Rattle.site_core.specs.Events.Append.{ToA, ToB, ToJournal}
use Rattle.site_core.specs.Events.Event.{Appends}
use Rattle.site_core.specs.Lasting.{IsFoldedSite, IsRestored, IsUndone}
use Rattle.site_core.specs.Plans.{AreActions, after_plan, events_of}
use Rattle.site_core.specs.Steps.{list_of}
use Rattle.site_core.proofs.EventRuns.{actions_allowed}
use Rattle.site_core.proofs.Lasting.{all_origin, event_keeps, journal_same, undone_restores}
use Rattle.site_core.proofs.Restoring.{one_value}
use Rattle.site_core.proofs.Values.{no_next}

-- WHICH RECORD ENDS A MIGRATION

phase_with_a : (s : State) (o : Option Volume) → (unwrap_or (option_map (λ (v : Volume). record s { a = v }) o) s).phase ≡ s.phase
phase_with_a s None = refl
phase_with_a s (Some v) = refl

phase_with_b : (s : State) (o : Option Volume) → (unwrap_or (option_map (λ (v : Volume). record s { b = v }) o) s).phase ≡ s.phase
phase_with_b s None = refl
phase_with_b s (Some v) = refl

phase_with : (s : State) (o : Option Phase) → (unwrap_or (option_map (λ (p : Phase). record s { phase = p }) o) s).phase ≡ unwrap_or o s.phase
phase_with s None = refl
phase_with s (Some p) = refl

after_a : (s : State) (r : VolumeRecord) → (after s (Appends (ToA r))).phase ≡ s.phase
after_a s r = phase_with_a s (volume_after s.a r)

after_b : (s : State) (r : VolumeRecord) → (after s (Appends (ToB r))).phase ≡ s.phase
after_b s r = phase_with_b s (volume_after s.b r)

no_end : (phase : Phase) → phase ≢ Idle → unwrap_or (phase_after phase MovedRecord) phase ≡ Idle → ⊥
no_end Idle busy idle = busy refl
no_end (Moving names) busy idle = cc
no_end (Moved names) busy idle = cc
no_end (Undoing names) busy idle = cc

by_action : (s : State) (action : Action) → s.phase ≢ Idle → (after s (Appends (append_of s action))).phase ≡ Idle → append_of s action ≡ ToJournal UndoneRecord
by_action s (CopyToB chunk) busy idle = absurd (busy (sym (after_b s (ChunkRecord chunk (copied_bytes s (CopyToB chunk)))) ∙ idle))
by_action s (AddToB place) busy idle = absurd (busy (sym (after_b s (FileRecord (named s.phase place) (list_of s.a (named s.phase place)))) ∙ idle))
by_action s (DropFromA place) busy idle = absurd (busy (sym (after_a s (DropFileRecord (named s.phase place))) ∙ idle))
by_action s (DropChunkA chunk) busy idle = absurd (busy (sym (after_a s (DropChunkRecord chunk)) ∙ idle))
by_action s RecordMoved busy idle = absurd (no_end s.phase busy (sym (phase_with s (phase_after s.phase MovedRecord)) ∙ idle))
by_action s (CopyToA chunk) busy idle = absurd (busy (sym (after_a s (ChunkRecord chunk (copied_bytes s (CopyToA chunk)))) ∙ idle))
by_action s (AddToA place) busy idle = absurd (busy (sym (after_a s (FileRecord (named s.phase place) (list_of s.b (named s.phase place)))) ∙ idle))
by_action s (DropFromB place) busy idle = absurd (busy (sym (after_b s (DropFileRecord (named s.phase place))) ∙ idle))
by_action s (DropChunkB chunk) busy idle = absurd (busy (sym (after_b s (DropChunkRecord chunk)) ∙ idle))
by_action s Undone busy idle = refl

ends_undone : (s : State) (x : Append) → s.phase ≢ Idle → IsNextAppend s x → (after s (Appends x)).phase ≡ Idle → x ≡ ToJournal UndoneRecord
ends_undone s x busy next idle = next.appends ∙ by_action s next.action busy (subst (λ (y : Append). (after s (Appends y)).phase ≡ Idle) next.appends idle)

-- WHAT IT LEAVES

-- the record changes no volume
undone_leaves : (s : State) → IsFoldedSite s → MayAppend s (ToJournal UndoneRecord) → IsRestored (after s (Appends (ToJournal UndoneRecord)))
undone_leaves s is may =
    let back = undone_restores s is may in
    let same = journal_same s UndoneRecord in
    record {
      files = ap (λ (v : Volume). v.files) same.a ∙ back.files ∙ sym (λ i. joined_files (same.a i).files (same.b i).files);
      tidy = subst (λ (v : Volume). IsTidy v) (sym same.a) back.tidy;
      nothing = same.b ∙ back.nothing;
    }

last_leaves : (s : State) (x : Append) → IsFoldedSite s → s.phase ≢ Idle → IsNextAppend s x → (after s (Appends x)).phase ≡ Idle → IsRestored (after s (Appends x))
last_leaves s x is busy next idle =
    let last = ends_undone s x busy next idle in
    subst (λ (y : Append). IsRestored (after s (Appends y))) (sym last) (undone_leaves s is (inl (subst (IsNextAppend s) last next)))

actions_restore : (s : State) (plan : List Append) → IsFoldedSite s → s.phase ≢ Idle → AreActions s plan → (after_plan s plan).phase ≡ Idle → IsRestored (after_plan s plan)
actions_restore s [] is busy actions idle = absurd (busy idle)
actions_restore s (x ∷ []) is busy actions idle = last_leaves s x is busy actions.0 idle
actions_restore s (x ∷ y ∷ plan) is busy actions idle =
    let t = after s (Appends x) in
    actions_restore t (y ∷ plan) (event_keeps s (Appends x) is (inl actions.0)) (λ now. no_next (shape_of t.a) (shape_of t.b) t.phase actions.1.0.action now actions.1.0.is) actions.1 idle

pub undo_ends : (s : State) (plan : List Append) → IsFoldedSite s → s.phase ≢ Idle → AreActions s plan → (after_plan s plan).phase ≡ Idle → IsUndone s (after_plan s plan)
undo_ends s plan is busy actions idle =
    let back = actions_restore s plan is busy actions idle in
    let may = actions_allowed s plan actions in
    record {
      files = back.files ∙ all_origin s (events_of plan) is may.0 may.1;
      tidy = back.tidy;
      values = (one_value s (events_of plan) is busy may.0 may.1).0;
      nothing = back.nothing;
    }
