-- What records keep that are no action: those of Idle, and the turns of a migration.
use Rattle.std.proofs.Common.{◌≡◌, ◌⊎◌, inl, inr, ⊎_elim, ℕ, List, length, Bool, true, false, Option, Some, None, refl, sym, ◌∙◌, ap, subst}
use Rattle.std.specs.Prelude.{is_some, not, ◌&&◌, if◌then◌else◌}
use Rattle.std.specs.Option.{option_map}
use Rattle.std.specs.Cmp.Lexicographic.{nat_list_cmp_total}
use Rattle.std.specs.FinMap as map
use Rattle.std.proofs.lemmas.Bool.{true≢false, and_parts, and_right, not-true}
use Rattle.site_forms.specs.declared.phase.Phase.{Phase}
use Rattle.site_forms.specs.declared.phase.Phase.TheVariants.{Idle, Moving, Moved, Undoing}
use Rattle.site_forms.specs.JournalRecords.{JournalRecord}
use Rattle.site_forms.specs.JournalRecords.JournalRecord.{BeginRecord, MovedRecord, UndoBeginRecord, UndoneRecord, AcceptedRecord}
use Rattle.site_forms.specs.Names.{is_name_list}
use Rattle.site_forms.specs.Phases.{phase_after}
use Rattle.site_forms.specs.Sites.{Fits, HoldsFile, HoldsChunk, IsUnderway, FitsMoved, UsesChunk, length_in}
use Rattle.site_forms.specs.Views.{joined_files}
use Rattle.site_forms.specs.VolumeRecords.{VolumeRecord, IsVolumeRecord}
use Rattle.site_forms.specs.VolumeRecords.VolumeRecord.{ChunkRecord, FileRecord, DropFileRecord, DropChunkRecord}
use Rattle.site_forms.specs.Volumes.{Files, Shape, used, chunk_or, may_add_file, may_drop_chunk, shape_after, with_chunk, with_file, without_file, without_chunk}
use Rattle.volume_index.specs.HoldingValues.{KeepsShape}
use Rattle.volume_index.proofs.MapValues.{same_names}
use Rattle.volume_index.proofs.Shapes.{may_add, keeps_with_chunk, keeps_with_file}
use Rattle.site_core.specs.Events.{Append, Shapes, happens_to, MayBegin, MayBeIdle, IsSpelled, IsTurn, MayAppendTo}
use Rattle.site_core.specs.Events.Append.{ToA, ToB, ToJournal}
use Rattle.site_core.specs.Lasting.{IsKept, KeepsWith}
use Rattle.site_core.proofs.Acting.{next_acted}
use Rattle.site_core.proofs.Counting.{counts_fit, counts_decide, chunk_short, length_short}
use Rattle.site_core.proofs.Keeping.{tidy_from, keeps_less, keeps_unused}
use Rattle.site_core.proofs.Maps.{either, get_joined, user_of, with_cases, without_cases}

-- WHAT A RECORD THAT FOLDS TELLS

pub if_some : {X : Type 0} (b : Bool) (v next : X) → (if b then Some v else None) ≡ Some next → (b ≡ true) × (v ≡ next)
if_some true v next is = (refl, cc)
if_some false v next is = let no : ⊥ = cc in absurd no

pub if_none : {X : Type 0} (b : Bool) (v next : X) → (if b then None else Some v) ≡ Some next → (b ≡ false) × (v ≡ next)
if_none true v next is = let no : ⊥ = cc in absurd no
if_none false v next is = (refl, cc)

pub mapped : {X Y : Type 0} (f : X → Y) (o : Option X) (y : Y) → option_map f o ≡ Some y → (x : X) × (o ≡ Some x) × (f x ≡ y)
mapped f None y is = let no : ⊥ = cc in absurd no
mapped f (Some x) y is = (x, refl, cc)

-- a record that folds keeps what a volume keeps
pub record_keeps : (shape : Shape) (r : VolumeRecord) (next : Shape) → KeepsShape shape → IsVolumeRecord r → shape_after shape r ≡ Some next → KeepsShape next
record_keeps shape (ChunkRecord name bytes) next keeps spelled folds =
    let its = if_none (map.contains_key shape.chunks name) (with_chunk shape name (length bytes)) next folds in
    subst KeepsShape its.1 (keeps_with_chunk shape name (length bytes) keeps spelled.0 spelled.1.some spelled.1.most)
record_keeps shape (FileRecord name list) next keeps spelled folds =
    let its = if_some (may_add_file (λ n. n) 0 shape name list) (with_file shape name list) next folds in
    subst KeepsShape its.1 (keeps_with_file shape name list keeps (may_add shape name list its.0))
record_keeps shape (DropFileRecord name) next keeps spelled folds =
    let its = if_some (map.contains_key shape.files name) (without_file shape name) next folds in
    subst KeepsShape its.1 (keeps_less shape keeps name)
record_keeps shape (DropChunkRecord name) next keeps spelled folds =
    let its = if_some (may_drop_chunk shape name) (without_chunk shape name) next folds in
    let parts = and_parts (map.contains_key shape.chunks name) (not (map.contains_key (used shape.files) name)) its.0 in
    subst KeepsShape its.1 (keeps_unused shape keeps name (not-true (map.contains_key (used shape.files) name) parts.1))

-- IDLE

abbrev AreApart : Files → Files → Type 0
AreApart a b = (name : List ℕ) → (map.contains_key a name && map.contains_key b name) ≡ false

-- the files of A stay apart from those of B
apart_a : (a b next : Shape) (r : VolumeRecord) → AreApart a.files b.files → MayBeIdle a b (ToA r) → shape_after a r ≡ Some next → AreApart next.files b.files
apart_a a b next (ChunkRecord name bytes) apart kind folds =
    let its = if_none (map.contains_key a.chunks name) (with_chunk a name (length bytes)) next folds in
    subst (λ (v : Shape). AreApart v.files b.files) its.1 apart
apart_a a b next (FileRecord name list) apart kind folds =
    let its = if_some (may_add_file (λ n. n) 0 a name list) (with_file a name list) next folds in
    subst (λ (v : Shape). AreApart v.files b.files) its.1
    (λ q. with_cases a.files name (λ o. (is_some o && map.contains_key b.files q) ≡ false) list q
    (λ is. and_right true (map.contains_key b.files q) (ap (map.contains_key b.files) is ∙ kind)) (λ _. apart q))
apart_a a b next (DropFileRecord name) apart kind folds =
    let its = if_some (map.contains_key a.files name) (without_file a name) next folds in
    subst (λ (v : Shape). AreApart v.files b.files) its.1 (λ q. without_cases a.files name (λ o. (is_some o && map.contains_key b.files q) ≡ false) q (λ _. refl) (λ _. apart q))
apart_a a b next (DropChunkRecord name) apart kind folds =
    let its = if_some (may_drop_chunk a name) (without_chunk a name) next folds in
    subst (λ (v : Shape). AreApart v.files b.files) its.1 apart

apart_b : (a b next : Shape) (r : VolumeRecord) → AreApart a.files b.files → MayBeIdle a b (ToB r) → shape_after b r ≡ Some next → AreApart a.files next.files
apart_b a b next (ChunkRecord name bytes) apart kind folds = absurd kind
apart_b a b next (FileRecord name list) apart kind folds = absurd kind
apart_b a b next (DropFileRecord name) apart kind folds =
    let its = if_some (map.contains_key b.files name) (without_file b name) next folds in
    subst (λ (v : Shape). AreApart a.files v.files) its.1
    (λ q. without_cases b.files name (λ o. (map.contains_key a.files q && is_some o) ≡ false) q (λ _. and_right (map.contains_key a.files q) false refl) (λ _. apart q))
apart_b a b next (DropChunkRecord name) apart kind folds =
    let its = if_some (may_drop_chunk b name) (without_chunk b name) next folds in
    subst (λ (v : Shape). AreApart a.files v.files) its.1 apart

-- A BEGIN

first_none : {X : Type 0} (x y : Option X) → is_some y ≡ false → either x y ≡ x
first_none None None none = refl
first_none None (Some v) none = absurd (true≢false none)
first_none (Some v) y none = refl

module _ (a b : Shape) (names : List (List ℕ)) (keeps_a : KeepsShape a) (keeps_b : KeepsShape b) (may : MayBegin a b names) where
  all_of_a : joined_files a.files b.files ≡ a.files
  all_of_a = map.same_map nat_list_cmp_total same_names _ _ (λ q. get_joined a.files b.files q ∙ first_none (map.get a.files q) (map.get b.files q) (may.empty q))

  pub no_chunk_of_b : (chunk : List ℕ) → HoldsChunk b chunk → ⊥
  no_chunk_of_b chunk held =
      let user = user_of b.files chunk (may.used_b chunk held) in
      true≢false (sym (ap is_some user.1.1) ∙ may.empty user.0)

  pub begins : Fits a b (Moving names)
  begins = record {
    underway = record {
      somewhere = λ name named. inl (may.held name named);
      planned = λ name held. absurd (true≢false (sym held ∙ may.empty name));
      one_list = λ name _ held. absurd (true≢false (sym held ∙ may.empty name));
      copied = λ chunk held. absurd (no_chunk_of_b chunk held);
      needed = λ chunk held. subst (λ (f : Files). (name : List ℕ) × UsesChunk f name chunk) (sym all_of_a) (user_of a.files chunk (may.used_a chunk held));
      limits =
          counts_decide (length_in a b) (joined_files a.files b.files) (length_short a b keeps_a.most keeps_b.most)
          ∙ ap counts_fit all_of_a
          ∙ sym (counts_decide (λ chunk. chunk_or 0 a chunk) a.files (chunk_short a keeps_a.most))
          ∙ keeps_a.limits;
    };
    copied_first = λ name named. inl (may.held name named);
    tidied_last = λ name named. inr (tidy_from a keeps_a may.used_a);
  }

-- A TURN

pub moved_underway : (a b : Shape) (names : List (List ℕ)) → FitsMoved a b names → IsUnderway a b names
moved_underway a b names fit =
    let named = λ (name : List ℕ) (held : HoldsFile b name). sym (fit.arrived name) ∙ held in
    record {
      somewhere = λ name is_named. inr (fit.arrived name ∙ is_named);
      planned = named;
      one_list = λ name in_a in_b. absurd (true≢false (sym in_a ∙ fit.left name (named name in_b)));
      copied = λ chunk held.
          let user = user_of b.files chunk (sym (fit.tidy_b chunk) ∙ held) in
          let is_named = named user.0 (ap is_some user.1.1) in
          (user.0, is_named, (user.1.0, get_joined a.files b.files user.0 ∙ second (map.get a.files user.0) (map.get b.files user.0) (fit.left user.0 is_named) ∙ user.1.1, user.1.2));
      needed = λ chunk held.
          let user = user_of a.files chunk (sym (fit.tidy_a chunk) ∙ held) in
          (user.0, (user.1.0, get_joined a.files b.files user.0 ∙ ap (λ x. either x (map.get b.files user.0)) user.1.1, user.1.2));
      limits = fit.limits;
    }
  where
    second : {X : Type 0} (x y : Option X) → is_some x ≡ false → either x y ≡ y
    second None y none = refl
    second (Some v) y none = absurd (true≢false none)

-- what a record of the journal that is no action keeps
pub phase_keeps : (a b : Shape) (phase : Phase) (r : JournalRecord) (next : Phase) → IsKept (record { a = a; b = b; phase = phase }) → (phase ≡ Idle → MayBeIdle a b (ToJournal r)) → IsTurn (ToJournal r) ⊎ (phase ≡ Idle)
    → phase_after phase r ≡ Some next → IsKept (record { a = a; b = b; phase = next })
phase_keeps a b Idle (BeginRecord names) next kept kind which folds =
    let its = if_some (is_name_list names) (Moving names) next folds in
    subst (λ (p : Phase). IsKept (record { a = a; b = b; phase = p })) its.1 (record { a = kept.a; b = kept.b; names = its.0; fits = begins a b names kept.a kept.b (kind refl) })
phase_keeps a b Idle MovedRecord next kept kind which folds = absurd (kind refl)
phase_keeps a b Idle UndoBeginRecord next kept kind which folds = absurd (kind refl)
phase_keeps a b Idle UndoneRecord next kept kind which folds = absurd (kind refl)
phase_keeps a b Idle AcceptedRecord next kept kind which folds = absurd (kind refl)
phase_keeps a b (Moving names) (BeginRecord more) next kept kind which folds = let no : ⊥ = cc in absurd no
phase_keeps a b (Moving names) MovedRecord next kept kind which folds =
    absurd (⊎_elim (λ turn. ⊎_elim (λ (e : ToJournal MovedRecord ≡ ToJournal UndoBeginRecord). cc) (λ (e : ToJournal MovedRecord ≡ ToJournal AcceptedRecord). cc) turn) (λ (e : Moving names ≡ Idle). cc) which)
phase_keeps a b (Moving names) UndoBeginRecord next kept kind which folds =
    let same : Undoing names ≡ next = cc in
    subst (λ (p : Phase). IsKept (record { a = a; b = b; phase = p })) same (record { a = kept.a; b = kept.b; names = kept.names; fits = kept.fits.underway })
phase_keeps a b (Moving names) UndoneRecord next kept kind which folds = let no : ⊥ = cc in absurd no
phase_keeps a b (Moving names) AcceptedRecord next kept kind which folds = let no : ⊥ = cc in absurd no
phase_keeps a b (Moved names) (BeginRecord more) next kept kind which folds = let no : ⊥ = cc in absurd no
phase_keeps a b (Moved names) MovedRecord next kept kind which folds = let no : ⊥ = cc in absurd no
phase_keeps a b (Moved names) UndoBeginRecord next kept kind which folds =
    let same : Undoing names ≡ next = cc in
    subst (λ (p : Phase). IsKept (record { a = a; b = b; phase = p })) same (record { a = kept.a; b = kept.b; names = kept.names; fits = moved_underway a b names kept.fits })
phase_keeps a b (Moved names) UndoneRecord next kept kind which folds = let no : ⊥ = cc in absurd no
phase_keeps a b (Moved names) AcceptedRecord next kept kind which folds =
    let same : Idle ≡ next = cc in
    let fit = kept.fits in
    subst (λ (p : Phase). IsKept (record { a = a; b = b; phase = p })) same (record {
      a = kept.a;
      b = kept.b;
      names = refl;
      fits = λ name. apart (map.contains_key a.files name) (map.contains_key b.files name) (λ held. fit.left name (sym (fit.arrived name) ∙ held));
    })
  where
    apart : (x y : Bool) → (y ≡ true → x ≡ false) → (x && y) ≡ false
    apart x true lacks = ap (λ (z : Bool). z && true) (lacks refl)
    apart x false lacks = and_right x false refl
phase_keeps a b (Undoing names) (BeginRecord more) next kept kind which folds = let no : ⊥ = cc in absurd no
phase_keeps a b (Undoing names) MovedRecord next kept kind which folds = let no : ⊥ = cc in absurd no
phase_keeps a b (Undoing names) UndoBeginRecord next kept kind which folds = let no : ⊥ = cc in absurd no
phase_keeps a b (Undoing names) UndoneRecord next kept kind which folds =
    absurd (⊎_elim (λ turn. ⊎_elim (λ (e : ToJournal UndoneRecord ≡ ToJournal UndoBeginRecord). cc) (λ (e : ToJournal UndoneRecord ≡ ToJournal AcceptedRecord). cc) turn) (λ (e : Undoing names ≡ Idle). cc) which)
phase_keeps a b (Undoing names) AcceptedRecord next kept kind which folds = let no : ⊥ = cc in absurd no

-- ANY RECORD THAT MAY BE APPENDED

idle_keeps : (a b : Shape) (x : Append) (next : Shapes) → IsKept (record { a = a; b = b; phase = Idle }) → MayBeIdle a b x → IsSpelled x → happens_to (record { a = a; b = b; phase = Idle }) x ≡ Some next → IsKept next
idle_keeps a b (ToA r) next kept kind spelled folds =
    let its = mapped (λ (v : Shape). record { a = v; b = b; phase = Idle }) (shape_after a r) next folds in
    subst IsKept its.2 (record { a = record_keeps a r its.0 kept.a spelled its.1; b = kept.b; names = refl; fits = apart_a a b its.0 r kept.fits kind its.1 })
idle_keeps a b (ToB r) next kept kind spelled folds =
    let its = mapped (λ (v : Shape). record { a = a; b = v; phase = Idle }) (shape_after b r) next folds in
    subst IsKept its.2 (record { a = kept.a; b = record_keeps b r its.0 kept.b spelled its.1; names = refl; fits = apart_b a b its.0 r kept.fits kind its.1 })
idle_keeps a b (ToJournal r) next kept kind spelled folds =
    let its = mapped (λ (p : Phase). record { a = a; b = b; phase = p }) (phase_after Idle r) next folds in
    subst IsKept its.2 (phase_keeps a b Idle r its.0 kept (λ _. kind) (inr refl) its.1)

turn_keeps : (t : Shapes) (x : Append) (next : Shapes) → IsKept t → IsTurn x → happens_to t x ≡ Some next → IsKept next
turn_keeps t x next kept (inl is) folds =
    let its = mapped (λ (p : Phase). record t { phase = p }) (phase_after t.phase UndoBeginRecord) next (ap (happens_to t) (sym is) ∙ folds) in
    subst IsKept its.2 (phase_keeps t.a t.b t.phase UndoBeginRecord its.0 kept (λ idle. let no : ⊥ = no_turn t.phase its.0 idle its.1 in absurd no) (inl (inl refl)) its.1)
  where
    no_turn : (p next : Phase) → p ≡ Idle → phase_after p UndoBeginRecord ≡ Some next → ⊥
    no_turn p next idle folds = let is : None ≡ Some next = sym (ap (λ (q : Phase). phase_after q UndoBeginRecord) idle) ∙ folds in cc
turn_keeps t x next kept (inr is) folds =
    let its = mapped (λ (p : Phase). record t { phase = p }) (phase_after t.phase AcceptedRecord) next (ap (happens_to t) (sym is) ∙ folds) in
    subst IsKept its.2 (phase_keeps t.a t.b t.phase AcceptedRecord its.0 kept (λ idle. let no : ⊥ = no_turn t.phase its.0 idle its.1 in absurd no) (inl (inr refl)) its.1)
  where
    no_turn : (p next : Phase) → p ≡ Idle → phase_after p AcceptedRecord ≡ Some next → ⊥
    no_turn p next idle folds = let is : None ≡ Some next = sym (ap (λ (q : Phase). phase_after q AcceptedRecord) idle) ∙ folds in cc

pub may_keep : (t : Shapes) (x : Append) → IsKept t → MayAppendTo t x → KeepsWith t x
may_keep t x kept (inl next) =
    let acted = next_acted t.a t.b t.phase next.bytes next.action kept next.is next.copies in
    subst (KeepsWith t) (sym next.appends) (record { next = acted.next; folds = acted.folds; kept = acted.kept })
may_keep t x kept (inr (inl idle)) =
    let now : t ≡ record { a = t.a; b = t.b; phase = Idle } = ap (λ (p : Phase). record { a = t.a; b = t.b; phase = p }) idle.idle in
    record { next = idle.next; folds = idle.folds; kept = idle_keeps t.a t.b x idle.next (subst IsKept now kept) idle.kind idle.spelled (ap (λ (u : Shapes). happens_to u x) (sym now) ∙ idle.folds) }
may_keep t x kept (inr (inr mark)) = record { next = mark.next; folds = mark.folds; kept = turn_keeps t x mark.next kept mark.turn mark.folds }
