-- The bytes of chunks over a migration, and what an undo gives back.
use Rattle.std.proofs.Common.{◌≡◌, ◌≢◌, ℕ, List, Option, Some, None, refl, sym, ◌∙◌, ap, subst}
use Rattle.std.specs.Prelude.{is_some}
use Rattle.std.specs.Cmp.Lexicographic.{nat_list_cmp_total}
use Rattle.std.specs.FinMap as map
use Rattle.std.proofs.lemmas.Bool.{true≢false}
use Rattle.site_forms.specs.declared.phase.Phase.{Phase}
use Rattle.site_forms.specs.declared.phase.Phase.TheVariants.{Idle, Moving, Moved, Undoing}
use Rattle.site_forms.specs.JournalRecords.JournalRecord.{BeginRecord, UndoneRecord}
use Rattle.site_forms.specs.Names.{is_name_list}
use Rattle.site_forms.specs.Phases.{phase_after}
use Rattle.site_forms.specs.Sites.{IsTidy, shape_of}
use Rattle.site_forms.specs.Views.{State}
use Rattle.site_forms.specs.Volumes.{Files, Volume, used}
use Rattle.volume_index.proofs.MapValues.{same_names}
use Rattle.site_core.specs.Events.{Event, AllChunksUsed, AreAllowed, MayAppend, after, after_all}
use Rattle.site_core.specs.Events.Append.{ToJournal}
use Rattle.site_core.specs.Events.Event.{Appends}
use Rattle.site_core.specs.Lasting.{EachChunk, HasValue, HasValues, IsBack, IsFoldedSite, StaysOpen, begun, value_in}
use Rattle.site_core.proofs.Folding.{folded_kept}
use Rattle.site_core.proofs.Keeping.{tidy_from}
use Rattle.site_core.proofs.Lasting.{all_keep, all_origin, all_values, append_folds, begin_kind, begin_origin, event_keeps, journal_same, undone_restores}
use Rattle.site_core.proofs.Shapes.{same_held}
use Rattle.site_core.proofs.Turning.{if_some, mapped}
use Rattle.site_core.proofs.Values.{values_a, values_b}

-- while a migration is open, a name has one value
pub one_value : (s : State) (events : List Event) → IsFoldedSite s → s.phase ≢ Idle → AreAllowed s events → StaysOpen s events → HasValues (value_in s) (after_all s events)
one_value s events is busy allowed stays = all_values (value_in s) s events is allowed stays (values_a s, values_b s (is.site.agree busy))

-- A BEGIN OPENS A MIGRATION

no_idle : (phase next : Phase) (names : List (List ℕ)) → phase_after phase (BeginRecord names) ≡ Some next → next ≡ Idle → ⊥
no_idle Idle next names folds idle =
    let its = if_some (is_name_list names) (Moving names) next folds in
    let no : Moving names ≡ Idle = its.1 ∙ idle in cc
no_idle (Moving old) next names folds idle = cc
no_idle (Moved old) next names folds idle = cc
no_idle (Undoing old) next names folds idle = cc

begun_open : (s : State) (names : List (List ℕ)) → IsFoldedSite s → MayAppend s (ToJournal (BeginRecord names)) → (begun s names).phase ≢ Idle
begun_open s names is may idle =
    let its = mapped (λ (p : Phase). record s { phase = p }) (phase_after s.phase (BeginRecord names)) (begun s names) (append_folds s (ToJournal (BeginRecord names)) is may) in
    no_idle s.phase its.0 names its.1 (ap (λ (t : State). t.phase) its.2 ∙ idle)

-- THE SAME VOLUME

same_bytes : (x y : Option (List ℕ)) (value : List ℕ) → is_some x ≡ is_some y → ((bytes : List ℕ) → x ≡ Some bytes → value ≡ bytes) → ((bytes : List ℕ) → y ≡ Some bytes → value ≡ bytes) → x ≡ y
same_bytes None None value same in_x in_y = refl
same_bytes None (Some z) value same in_x in_y = absurd (true≢false (sym same))
same_bytes (Some z) None value same in_x in_y = absurd (true≢false same)
same_bytes (Some x) (Some y) value same in_x in_y = ap Some (sym (in_x x refl) ∙ in_y y refl)

-- tidy volumes with the same files, whose chunks have their bytes by the same values
same_volume : (v w : Volume) (value : List ℕ → List ℕ) → v.files ≡ w.files → IsTidy v → IsTidy w → EachChunk (HasValue value) v → EachChunk (HasValue value) w → v ≡ w
same_volume v w value files tidy_v tidy_w in_v in_w =
    let chunks = map.same_map nat_list_cmp_total same_names v.chunks w.chunks (λ q.
    same_bytes (map.get v.chunks q) (map.get w.chunks q) (value q) (tidy_v q ∙ ap (λ (f : Files). map.contains_key (used f) q) files ∙ sym (tidy_w q)) (in_v q) (in_w q)) in
    λ i. record { chunks = chunks i; files = files i }

-- where every chunk is used, the volume is tidy
tidy_used : (s : State) → IsFoldedSite s → AllChunksUsed s.a → IsTidy s.a
tidy_used s is uses chunk = sym (same_held s.a chunk) ∙ tidy_from (shape_of s.a) (folded_kept s is).a (λ q held. uses q (sym (same_held s.a q) ∙ held)) chunk

-- A FINISHED UNDO

pub undo_restores : (s : State) (names : List (List ℕ)) (events : List Event) → IsFoldedSite s → MayAppend s (ToJournal (BeginRecord names)) → AreAllowed (begun s names) events → StaysOpen (begun s names) events
    → MayAppend (after_all (begun s names) events) (ToJournal UndoneRecord) → IsBack s (after_all (begun s names) events)
undo_restores s names events is may allowed stays ends =
    let t = begun s names in
    let u = after_all t events in
    let is_t = event_keeps s (Appends (ToJournal (BeginRecord names))) is may in
    let back = undone_restores u (all_keep t events is_t allowed) ends in
    let same = journal_same s (BeginRecord names) in
    let files = back.files ∙ all_origin t events is_t allowed stays ∙ begin_origin s names is may in
    record {
      a = same_volume u.a s.a (value_in t) files back.tidy (tidy_used s is (begin_kind s names is may).used_a)
          (one_value t events is_t (begun_open s names is may) allowed stays).0
          (subst (EachChunk (HasValue (value_in t))) same.a (values_a t));
      b = back.nothing;
    }

-- and its record changes no volume
pub undo_finishes : (s : State) (names : List (List ℕ)) (events : List Event) → IsFoldedSite s → MayAppend s (ToJournal (BeginRecord names)) → AreAllowed (begun s names) events → StaysOpen (begun s names) events
    → MayAppend (after_all (begun s names) events) (ToJournal UndoneRecord) → IsBack s (after (after_all (begun s names) events) (Appends (ToJournal UndoneRecord)))
undo_finishes s names events is may allowed stays ends =
    let back = undo_restores s names events is may allowed stays ends in
    let same = journal_same (after_all (begun s names) events) UndoneRecord in
    record { a = same.a ∙ back.a; b = same.b ∙ back.b }
