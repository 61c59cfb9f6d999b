-- States that records fold to: what their volumes keep, and one record more.
use Rattle.std.proofs.Common.{◌≡◌, ℕ, List, [], ◌∷◌, ◌++◌, length, true, Option, Some, None, refl, sym, ◌∙◌, ap, subst}
use Rattle.std.specs.Option.{option_map, option_and_then}
use Rattle.std.specs.FinMap as map
use Rattle.site_forms.specs.declared.phase.Phase.{Phase}
use Rattle.site_forms.specs.declared.phase.Phase.TheVariants.{Idle, Moving, Moved, Undoing}
use Rattle.site_forms.specs.JournalRecords.{JournalRecord, journal_body, journal_record}
use Rattle.site_forms.specs.JournalRecords.JournalRecord.{BeginRecord, MovedRecord, UndoBeginRecord, UndoneRecord, AcceptedRecord}
use Rattle.site_forms.specs.Names.{is_name_list}
use Rattle.site_forms.specs.Phases.{phase_after, phase_step, phase_of, names_of}
use Rattle.site_forms.specs.Sites.{IsFolded, shape_of}
use Rattle.site_forms.specs.Views.{State}
use Rattle.site_forms.specs.VolumeRecords.{VolumeRecord, IsVolumeRecord, volume_body, volume_record}
use Rattle.site_forms.specs.Volumes.{Volume, Shape, empty_volume, fold_from, volume_after, volume_of, volume_step, shape_after}
use Rattle.site_forms.proofs.Folds.{fold_more}
use Rattle.site_forms.proofs.Marks.{journal_read}
use Rattle.site_forms.proofs.Records.{volume_read, volume_lawful}
use Rattle.volume_index.specs.HoldingValues.{KeepsShape}
use Rattle.volume_index.proofs.MapValues.{empty-map_values}
use Rattle.volume_index.proofs.Nothing.{nothing_keeps}
use Rattle.site_core.specs.Events.{Append, shapes_of, happens, happens_to, IsSpelled}
use Rattle.site_core.specs.Events.Append.{ToA, ToB, ToJournal}
use Rattle.site_core.specs.Lasting.{IsFoldedSite, IsKept}
use Rattle.site_core.proofs.Shapes.{shape_step}
use Rattle.site_core.proofs.Turning.{if_some, mapped, record_keeps}

pub and_then_some : {X Y : Type 0} (f : X → Option Y) (o : Option X) (y : Y) → option_and_then f o ≡ Some y → (x : X) × (o ≡ Some x) × (f x ≡ Some y)
and_then_some f None y is = let no : ⊥ = cc in absurd no
and_then_some f (Some x) y is = (x, refl, is)

-- VOLUMES

fold_keeps : (bodies : List (List ℕ)) (state volume : Volume) → KeepsShape (shape_of state) → fold_from volume_step state bodies ≡ Some volume → KeepsShape (shape_of volume)
fold_keeps [] state volume keeps folds = let same : state ≡ volume = cc in subst (λ (v : Volume). KeepsShape (shape_of v)) same keeps
fold_keeps (body ∷ bodies) state volume keeps folds =
    let one = and_then_some (λ next. fold_from volume_step next bodies) (volume_step state body) volume folds in
    let its = and_then_some (λ r. volume_after state r) (volume_record body) one.0 one.1 in
    let shape : shape_after (shape_of state) its.0 ≡ Some (shape_of one.0) = shape_step state its.0 ∙ ap (option_map shape_of) its.2 in
    fold_keeps bodies one.0 volume (record_keeps (shape_of state) its.0 (shape_of one.0) keeps (volume_lawful body its.0 its.1) shape) one.2

pub volume_keeps : (bodies : List (List ℕ)) (volume : Volume) → volume_of bodies ≡ Some volume → KeepsShape (shape_of volume)
volume_keeps bodies volume folds =
    let nothing : shape_of empty_volume ≡ empty_volume = λ i. record { chunks = empty-map_values (length {A = ℕ}) i; files = map.empty } in
    fold_keeps bodies empty_volume volume (subst KeepsShape (sym nothing) nothing_keeps) folds

-- THE PHASE

phase_names : (phase : Phase) (r : JournalRecord) (next : Phase) → is_name_list (names_of phase) ≡ true → phase_after phase r ≡ Some next → is_name_list (names_of next) ≡ true
phase_names Idle (BeginRecord names) next lawful folds =
    let its = if_some (is_name_list names) (Moving names) next folds in
    subst (λ (p : Phase). is_name_list (names_of p) ≡ true) its.1 its.0
phase_names Idle MovedRecord next lawful folds = let no : ⊥ = cc in absurd no
phase_names Idle UndoBeginRecord next lawful folds = let no : ⊥ = cc in absurd no
phase_names Idle UndoneRecord next lawful folds = let no : ⊥ = cc in absurd no
phase_names Idle AcceptedRecord next lawful folds = let no : ⊥ = cc in absurd no
phase_names (Moving names) (BeginRecord more) next lawful folds = let no : ⊥ = cc in absurd no
phase_names (Moving names) MovedRecord next lawful folds = let same : Moved names ≡ next = cc in subst (λ (p : Phase). is_name_list (names_of p) ≡ true) same lawful
phase_names (Moving names) UndoBeginRecord next lawful folds = let same : Undoing names ≡ next = cc in subst (λ (p : Phase). is_name_list (names_of p) ≡ true) same lawful
phase_names (Moving names) UndoneRecord next lawful folds = let no : ⊥ = cc in absurd no
phase_names (Moving names) AcceptedRecord next lawful folds = let no : ⊥ = cc in absurd no
phase_names (Moved names) (BeginRecord more) next lawful folds = let no : ⊥ = cc in absurd no
phase_names (Moved names) MovedRecord next lawful folds = let no : ⊥ = cc in absurd no
phase_names (Moved names) UndoBeginRecord next lawful folds = let same : Undoing names ≡ next = cc in subst (λ (p : Phase). is_name_list (names_of p) ≡ true) same lawful
phase_names (Moved names) UndoneRecord next lawful folds = let no : ⊥ = cc in absurd no
phase_names (Moved names) AcceptedRecord next lawful folds = let same : Idle ≡ next = cc in subst (λ (p : Phase). is_name_list (names_of p) ≡ true) same refl
phase_names (Undoing names) (BeginRecord more) next lawful folds = let no : ⊥ = cc in absurd no
phase_names (Undoing names) MovedRecord next lawful folds = let no : ⊥ = cc in absurd no
phase_names (Undoing names) UndoBeginRecord next lawful folds = let no : ⊥ = cc in absurd no
phase_names (Undoing names) UndoneRecord next lawful folds = let same : Idle ≡ next = cc in subst (λ (p : Phase). is_name_list (names_of p) ≡ true) same refl
phase_names (Undoing names) AcceptedRecord next lawful folds = let no : ⊥ = cc in absurd no

fold_names : (bodies : List (List ℕ)) (state phase : Phase) → is_name_list (names_of state) ≡ true → fold_from phase_step state bodies ≡ Some phase → is_name_list (names_of phase) ≡ true
fold_names [] state phase lawful folds = let same : state ≡ phase = cc in subst (λ (p : Phase). is_name_list (names_of p) ≡ true) same lawful
fold_names (body ∷ bodies) state phase lawful folds =
    let one = and_then_some (λ next. fold_from phase_step next bodies) (phase_step state body) phase folds in
    let its = and_then_some (λ r. phase_after state r) (journal_record body) one.0 one.1 in
    fold_names bodies one.0 phase (phase_names state its.0 one.0 lawful its.2) one.2

-- STATES

pub folded_kept : (s : State) → IsFoldedSite s → IsKept (shapes_of s)
folded_kept s is = record {
  a = volume_keeps is.folds.records_a s.a is.folds.a;
  b = volume_keeps is.folds.records_b s.b is.folds.b;
  names = fold_names is.folds.records_j Idle s.phase refl is.folds.phase;
  fits = is.site.fits;
}

over_map : {X Y Z W : Type 0} (f : X → Y) (g : Y → Z) (h : X → W) (k : W → Z) (o : Option X) → ((x : X) → g (f x) ≡ k (h x)) → option_map g (option_map f o) ≡ option_map k (option_map h o)
over_map f g h k None same = refl
over_map f g h k (Some x) same = ap Some (same x)

-- a record does to the shapes what it does to the state
pub shapes_step : (s : State) (x : Append) → happens_to (shapes_of s) x ≡ option_map shapes_of (happens s x)
shapes_step s (ToA r) =
    ap (option_map (λ (v : Shape). record (shapes_of s) { a = v })) (shape_step s.a r)
    ∙ over_map shape_of (λ (v : Shape). record (shapes_of s) { a = v }) (λ (v : Volume). record s { a = v }) shapes_of (volume_after s.a r) (λ v. refl)
shapes_step s (ToB r) =
    ap (option_map (λ (v : Shape). record (shapes_of s) { b = v })) (shape_step s.b r)
    ∙ over_map shape_of (λ (v : Shape). record (shapes_of s) { b = v }) (λ (v : Volume). record s { b = v }) shapes_of (volume_after s.b r) (λ v. refl)
shapes_step s (ToJournal r) = again (phase_after s.phase r)
  where
    again : (o : Option Phase) → option_map (λ (p : Phase). record (shapes_of s) { phase = p }) o ≡ option_map shapes_of (option_map (λ (p : Phase). record s { phase = p }) o)
    again None = refl
    again (Some p) = refl

-- one body more
volume_more : (bodies : List (List ℕ)) (volume next : Volume) (r : VolumeRecord) → volume_of bodies ≡ Some volume → IsVolumeRecord r → volume_after volume r ≡ Some next → volume_of (bodies ++ volume_body r ∷ []) ≡ Some next
volume_more bodies volume next r folds spelled after =
    fold_more volume_step empty_volume bodies (volume_body r)
    ∙ ap (option_and_then (λ v. volume_step v (volume_body r))) folds
    ∙ ap (option_and_then (λ x. volume_after volume x)) (volume_read r spelled)
    ∙ after

phase_more : (bodies : List (List ℕ)) (phase next : Phase) (r : JournalRecord) → phase_of bodies ≡ Some phase → phase_after phase r ≡ Some next → phase_of (bodies ++ journal_body r ∷ []) ≡ Some next
phase_more bodies phase next r folds after =
    fold_more phase_step Idle bodies (journal_body r)
    ∙ ap (option_and_then (λ p. phase_step p (journal_body r))) folds
    ∙ ap (option_and_then (λ x. phase_after phase x)) (journal_read r)
    ∙ after

pub folded_more : (s : State) (x : Append) (next : State) → IsFolded s → IsSpelled x → happens s x ≡ Some next → IsFolded next
folded_more s (ToA r) next folds spelled after =
    let its = mapped (λ (v : Volume). record s { a = v }) (volume_after s.a r) next after in
    subst IsFolded its.2 (record {
      records_a = folds.records_a ++ volume_body r ∷ [];
      records_b = folds.records_b;
      records_j = folds.records_j;
      a = volume_more folds.records_a s.a its.0 r folds.a spelled its.1;
      b = folds.b;
      phase = folds.phase;
    })
folded_more s (ToB r) next folds spelled after =
    let its = mapped (λ (v : Volume). record s { b = v }) (volume_after s.b r) next after in
    subst IsFolded its.2 (record {
      records_a = folds.records_a;
      records_b = folds.records_b ++ volume_body r ∷ [];
      records_j = folds.records_j;
      a = folds.a;
      b = volume_more folds.records_b s.b its.0 r folds.b spelled its.1;
      phase = folds.phase;
    })
folded_more s (ToJournal r) next folds spelled after =
    let its = mapped (λ (p : Phase). record s { phase = p }) (phase_after s.phase r) next after in
    subst IsFolded its.2 (record {
      records_a = folds.records_a;
      records_b = folds.records_b;
      records_j = folds.records_j ++ journal_body r ∷ [];
      a = folds.a;
      b = folds.b;
      phase = phase_more folds.records_j s.phase its.0 r folds.phase its.1;
    })
