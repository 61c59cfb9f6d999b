-- What an append that is allowed does: it folds, and leaves a site.
use Rattle.std.proofs.Common.{◌≡◌, ◌≢◌, ◌⊎◌, inl, inr, ⊎_elim, ℕ, ◌^◌, ◌≤◌, List, [], length, Option, Some, None, refl, sym, ◌∙◌, ap, subst}
use Rattle.std.specs.Prelude.{is_some, unwrap_or}
use Rattle.std.specs.Option.{option_map}
use Rattle.std.specs.FinMap as map
use Rattle.sha2.specs.Sha256.{sha256}
use Rattle.site_forms.specs.declared.phase.Phase.{Phase}
use Rattle.site_forms.specs.declared.phase.Phase.TheVariants.{Idle, Moving, Moved, Undoing}
use Rattle.site_forms.specs.JournalRecords.JournalRecord.{BeginRecord, MovedRecord, UndoBeginRecord, UndoneRecord, AcceptedRecord}
use Rattle.site_forms.specs.Phases.{phase_after}
use Rattle.site_forms.specs.Sites.{HoldsChunk, IsSite, AgreeOnChunks, shape_of}
use Rattle.site_forms.specs.Views.{State}
use Rattle.site_forms.specs.VolumeRecords.{VolumeRecord, IsChunk}
use Rattle.site_forms.specs.VolumeRecords.VolumeRecord.{ChunkRecord, FileRecord, DropFileRecord, DropChunkRecord}
use Rattle.site_forms.specs.Volumes.{Shape, Volume, chunk_or, volume_after}
use Rattle.volume_index.specs.HoldingValues.{KeepsShape}
use Rattle.volume_index.proofs.Alls.{held_value, value_has}
use Rattle.volume_index.proofs.MapValues.{get-map_values}
use Rattle.site_core.specs.declared.action.Action.{Action}
use Rattle.site_core.specs.declared.action.Action.TheVariants.{CopyToB, AddToB, DropFromA, DropChunkA, Moved as RecordMoved, CopyToA, AddToA, DropFromB, DropChunkB, Undone}
use Rattle.site_core.specs.Events.{Append, shapes_of, happens, append_of, copied_bytes, next_action_of, CopiesChunk, MayBeIdle, IsDigest, IsNamedByDigest, IsSpelled, IsTurn, MayAppend, MayAppendTo}
use Rattle.site_core.specs.Events.Append.{ToA, ToB, ToJournal}
use Rattle.site_core.specs.Lasting.{EachChunk, HasValue, HasValues, IsFoldedSite, IsKept, value_in}
use Rattle.site_core.specs.Steps.{next_step, next_of, forth, back}
use Rattle.site_core.specs.declared.step.Step.{Step}
use Rattle.site_core.specs.declared.step.Step.TheVariants.{Copy, Add, Drop, DropChunk, Finish}
use Rattle.site_core.proofs.Acting.{Acted, next_acted}
use Rattle.site_core.proofs.Contents.{or_value, chunks_after}
use Rattle.site_core.proofs.Folding.{folded_kept, folded_more, shapes_step}
use Rattle.site_core.proofs.Keeping.{chunk_held}
use Rattle.site_core.proofs.NextSteps.{Tells, tells}
use Rattle.site_core.proofs.Shapes.{same_held}
use Rattle.site_core.proofs.Turning.{mapped, may_keep, no_chunk_of_b}

-- WHERE A CHUNK IS COPIED FROM

held_from : (source target : Shape) (names : List (List ℕ)) (chunk : List ℕ) (step : Step) → KeepsShape source → Tells source target names step → step ≡ Copy chunk → HoldsChunk source chunk
held_from source target names chunk (Copy c) keeps facts is =
    let same : c ≡ chunk = cc in
    subst (HoldsChunk source) same (chunk_held source keeps facts.name c facts.list facts.found facts.uses)
held_from source target names chunk (Add place) keeps facts is = let no : ⊥ = cc in absurd no
held_from source target names chunk (Drop place) keeps facts is = let no : ⊥ = cc in absurd no
held_from source target names chunk (DropChunk c) keeps facts is = let no : ⊥ = cc in absurd no
held_from source target names chunk Finish keeps facts is = let no : ⊥ = cc in absurd no

forth_copy : (step : Step) (chunk : List ℕ) → Some (forth step) ≡ Some (CopyToB chunk) → step ≡ Copy chunk
forth_copy (Copy c) chunk is = let same : c ≡ chunk = cc in ap Copy same
forth_copy (Add place) chunk is = let no : ⊥ = cc in absurd no
forth_copy (Drop place) chunk is = let no : ⊥ = cc in absurd no
forth_copy (DropChunk c) chunk is = let no : ⊥ = cc in absurd no
forth_copy Finish chunk is = let no : ⊥ = cc in absurd no

back_copy : (step : Step) (chunk : List ℕ) → Some (back step) ≡ Some (CopyToA chunk) → step ≡ Copy chunk
back_copy (Copy c) chunk is = let same : c ≡ chunk = cc in ap Copy same
back_copy (Add place) chunk is = let no : ⊥ = cc in absurd no
back_copy (Drop place) chunk is = let no : ⊥ = cc in absurd no
back_copy (DropChunk c) chunk is = let no : ⊥ = cc in absurd no
back_copy Finish chunk is = let no : ⊥ = cc in absurd no

no_copy_forth : (step : Step) (chunk : List ℕ) → Some (forth step) ≡ Some (CopyToA chunk) → ⊥
no_copy_forth (Copy c) chunk is = cc
no_copy_forth (Add place) chunk is = cc
no_copy_forth (Drop place) chunk is = cc
no_copy_forth (DropChunk c) chunk is = cc
no_copy_forth Finish chunk is = cc

no_copy_back : (step : Step) (chunk : List ℕ) → Some (back step) ≡ Some (CopyToB chunk) → ⊥
no_copy_back (Copy c) chunk is = cc
no_copy_back (Add place) chunk is = cc
no_copy_back (Drop place) chunk is = cc
no_copy_back (DropChunk c) chunk is = cc
no_copy_back Finish chunk is = cc

pub copied_from_a : (a b : Shape) (phase : Phase) (chunk : List ℕ) → KeepsShape a → next_of a b phase ≡ Some (CopyToB chunk) → HoldsChunk a chunk
copied_from_a a b Idle chunk keeps is = let no : ⊥ = cc in absurd no
copied_from_a a b (Moving names) chunk keeps is = held_from a b names chunk (next_step a b names) keeps (tells a b names) (forth_copy (next_step a b names) chunk is)
copied_from_a a b (Moved names) chunk keeps is = let no : ⊥ = cc in absurd no
copied_from_a a b (Undoing names) chunk keeps is = absurd (no_copy_back (next_step b a names) chunk is)

pub copied_from_b : (a b : Shape) (phase : Phase) (chunk : List ℕ) → KeepsShape b → next_of a b phase ≡ Some (CopyToA chunk) → HoldsChunk b chunk
copied_from_b a b Idle chunk keeps is = let no : ⊥ = cc in absurd no
copied_from_b a b (Moving names) chunk keeps is = absurd (no_copy_forth (next_step a b names) chunk is)
copied_from_b a b (Moved names) chunk keeps is = let no : ⊥ = cc in absurd no
copied_from_b a b (Undoing names) chunk keeps is = held_from b a names chunk (next_step b a names) keeps (tells b a names) (back_copy (next_step b a names) chunk is)

-- the bytes of a chunk that is held
bytes_of : (v : Volume) (chunk : List ℕ) → HoldsChunk (shape_of v) chunk → (x : List ℕ) × (map.get v.chunks chunk ≡ Some x)
bytes_of v chunk held = held_value v.chunks chunk (sym (same_held v chunk) ∙ held)

held_chunk : (v : Volume) (chunk : List ℕ) → KeepsShape (shape_of v) → HoldsChunk (shape_of v) chunk → IsChunk (chunk_or [] v chunk)
held_chunk v chunk keeps held =
    let x = bytes_of v chunk held in
    let len : map.get (shape_of v).chunks chunk ≡ Some (length x.0) = get-map_values (length {A = ℕ}) v.chunks chunk ∙ ap (option_map (length {A = ℕ})) x.1 in
    subst IsChunk (sym (or_value v chunk x.0 x.1)) (record {
      some = value_has (shape_of v).chunks (λ n. 1 ≤ n) keeps.some chunk (length x.0) len;
      most = value_has (shape_of v).chunks (λ n. n ≤ 2 ^ 20) keeps.most chunk (length x.0) len;
    })

copies_chunk : (s : State) (action : Action) → IsKept (shapes_of s) → next_action_of s ≡ Some action → CopiesChunk action (copied_bytes s action)
copies_chunk s (CopyToB chunk) kept is = held_chunk s.a chunk kept.a (copied_from_a (shape_of s.a) (shape_of s.b) s.phase chunk kept.a is)
copies_chunk s (AddToB place) kept is = tt
copies_chunk s (DropFromA place) kept is = tt
copies_chunk s (DropChunkA chunk) kept is = tt
copies_chunk s RecordMoved kept is = tt
copies_chunk s (CopyToA chunk) kept is = held_chunk s.b chunk kept.b (copied_from_b (shape_of s.a) (shape_of s.b) s.phase chunk kept.b is)
copies_chunk s (AddToA place) kept is = tt
copies_chunk s (DropFromB place) kept is = tt
copies_chunk s (DropChunkB chunk) kept is = tt
copies_chunk s Undone kept is = tt

-- an action of a state does what it does in memory
pub state_acted : (s : State) (action : Action) → IsKept (shapes_of s) → next_action_of s ≡ Some action → Acted (shapes_of s) (append_of s action)
state_acted s action kept is = next_acted (shape_of s.a) (shape_of s.b) s.phase (copied_bytes s action) action kept is (copies_chunk s action kept is)

-- IT FOLDS

idle_kind : (a b : Volume) (x : Append) → MayBeIdle a b x → MayBeIdle (shape_of a) (shape_of b) x
idle_kind a b (ToA (ChunkRecord name bytes)) kind = kind
idle_kind a b (ToA (FileRecord name list)) kind = kind
idle_kind a b (ToA (DropFileRecord name)) kind = kind
idle_kind a b (ToA (DropChunkRecord name)) kind = kind
idle_kind a b (ToB (ChunkRecord name bytes)) kind = kind
idle_kind a b (ToB (FileRecord name list)) kind = kind
idle_kind a b (ToB (DropFileRecord name)) kind = kind
idle_kind a b (ToB (DropChunkRecord name)) kind = kind
idle_kind a b (ToJournal (BeginRecord names)) kind = record {
  used_a = λ chunk held. kind.used_a chunk (sym (same_held a chunk) ∙ held);
  used_b = λ chunk held. kind.used_b chunk (sym (same_held b chunk) ∙ held);
  empty = kind.empty;
  held = kind.held;
}
idle_kind a b (ToJournal MovedRecord) kind = kind
idle_kind a b (ToJournal UndoBeginRecord) kind = kind
idle_kind a b (ToJournal UndoneRecord) kind = kind
idle_kind a b (ToJournal AcceptedRecord) kind = kind

may_in_memory : (s : State) (x : Append) → IsKept (shapes_of s) → MayAppend s x → MayAppendTo (shapes_of s) x
may_in_memory s x kept (inl next) = inl (record { action = next.action; is = next.is; bytes = copied_bytes s next.action; copies = copies_chunk s next.action kept next.is; appends = next.appends })
may_in_memory s x kept (inr (inl idle)) = inr (inl (record { idle = idle.idle; kind = idle_kind s.a s.b x idle.kind; spelled = idle.spelled; next = shapes_of idle.next; folds = shapes_step s x ∙ ap (option_map shapes_of) idle.folds }))
may_in_memory s x kept (inr (inr mark)) = inr (inr (record { turn = mark.turn; next = shapes_of mark.next; folds = shapes_step s x ∙ ap (option_map shapes_of) mark.folds }))

-- a state with an append that is allowed, and what its volumes keep
pub record Happened (s : State) (x : Append) : Type 0 where
  pub next : State
  pub folds : happens s x ≡ Some next
  pub kept : IsKept (shapes_of next)

pub happened : (s : State) (x : Append) → IsKept (shapes_of s) → MayAppend s x → Happened s x
happened s x kept may =
    let keeps = may_keep (shapes_of s) x kept (may_in_memory s x kept may) in
    let its = mapped shapes_of (happens s x) keeps.next (sym (shapes_step s x) ∙ keeps.folds) in
    record { next = its.0; folds = its.1; kept = subst IsKept (sym its.2) keeps.kept }

spelled_turn : (x : Append) → IsTurn x → IsSpelled x
spelled_turn x (inl is) = subst IsSpelled (sym is) tt
spelled_turn x (inr is) = subst IsSpelled (sym is) tt

spelled : (s : State) (x : Append) → IsKept (shapes_of s) → MayAppend s x → IsSpelled x
spelled s x kept (inl next) = subst IsSpelled (sym next.appends) (state_acted s next.action kept next.is).spelled
spelled s x kept (inr (inl idle)) = idle.spelled
spelled s x kept (inr (inr mark)) = spelled_turn x mark.turn

-- THE CHUNKS OF A STATE

abbrev pub IsNew : (List ℕ → List ℕ → Type 0) → Append → Type 0
IsNew P (ToA r) = (c x : List ℕ) → r ≡ ChunkRecord c x → P c x
IsNew P (ToB r) = (c x : List ℕ) → r ≡ ChunkRecord c x → P c x
IsNew P (ToJournal r) = Unit {0}

-- what is so of each chunk stays so, where it is so of a new one
pub state_chunks : (P : List ℕ → List ℕ → Type 0) (s : State) (x : Append) (next : State) → EachChunk P s.a → EachChunk P s.b → IsNew P x → happens s x ≡ Some next → EachChunk P next.a × EachChunk P next.b
state_chunks P s (ToA r) next all_a all_b new folds =
    let its = mapped (λ (v : Volume). record s { a = v }) (volume_after s.a r) next folds in
    subst (λ (t : State). EachChunk P t.a × EachChunk P t.b) its.2 (chunks_after P s.a r its.0 all_a new its.1, all_b)
state_chunks P s (ToB r) next all_a all_b new folds =
    let its = mapped (λ (v : Volume). record s { b = v }) (volume_after s.b r) next folds in
    subst (λ (t : State). EachChunk P t.a × EachChunk P t.b) its.2 (all_a, chunks_after P s.b r its.0 all_b new its.1)
state_chunks P s (ToJournal r) next all_a all_b new folds =
    let its = mapped (λ (p : Phase). record s { phase = p }) (phase_after s.phase r) next folds in
    subst (λ (t : State). EachChunk P t.a × EachChunk P t.b) its.2 (all_a, all_b)

new_chunk : (P : List ℕ → List ℕ → Type 0) (chunk bytes c x : List ℕ) → P chunk bytes → ChunkRecord chunk bytes ≡ ChunkRecord c x → P c x
new_chunk P chunk bytes c x holds is =
    let first : chunk ≡ c = cc in
    let second : bytes ≡ x = cc in
    subst (λ q. P q x) first (subst (P chunk) second holds)

-- an action adds no other chunk than one that the other volume holds
new_of_action : (P : List ℕ → List ℕ → Type 0) (s : State) (action : Action) → IsKept (shapes_of s) → next_action_of s ≡ Some action → EachChunk P s.a → EachChunk P s.b → IsNew P (append_of s action)
new_of_action P s (CopyToB chunk) kept is all_a all_b =
    let x = bytes_of s.a chunk (copied_from_a (shape_of s.a) (shape_of s.b) s.phase chunk kept.a is) in
    λ c y. new_chunk P chunk (chunk_or [] s.a chunk) c y (subst (P chunk) (sym (or_value s.a chunk x.0 x.1)) (all_a chunk x.0 x.1))
new_of_action P s (AddToB place) kept is all_a all_b = λ c y e. let no : ⊥ = cc in absurd no
new_of_action P s (DropFromA place) kept is all_a all_b = λ c y e. let no : ⊥ = cc in absurd no
new_of_action P s (DropChunkA chunk) kept is all_a all_b = λ c y e. let no : ⊥ = cc in absurd no
new_of_action P s RecordMoved kept is all_a all_b = tt
new_of_action P s (CopyToA chunk) kept is all_a all_b =
    let x = bytes_of s.b chunk (copied_from_b (shape_of s.a) (shape_of s.b) s.phase chunk kept.b is) in
    λ c y. new_chunk P chunk (chunk_or [] s.b chunk) c y (subst (P chunk) (sym (or_value s.b chunk x.0 x.1)) (all_b chunk x.0 x.1))
new_of_action P s (AddToA place) kept is all_a all_b = λ c y e. let no : ⊥ = cc in absurd no
new_of_action P s (DropFromB place) kept is all_a all_b = λ c y e. let no : ⊥ = cc in absurd no
new_of_action P s (DropChunkB chunk) kept is all_a all_b = λ c y e. let no : ⊥ = cc in absurd no
new_of_action P s Undone kept is all_a all_b = tt

new_turn : (P : List ℕ → List ℕ → Type 0) (x : Append) → IsTurn x → IsNew P x
new_turn P x (inl is) = subst (IsNew P) (sym is) tt
new_turn P x (inr is) = subst (IsNew P) (sym is) tt

-- DIGESTS

abbrev ByDigest : List ℕ → List ℕ → Type 0
ByDigest c x = sha256 x ≡ c

digest_new : (r : VolumeRecord) → IsDigest r → (c x : List ℕ) → r ≡ ChunkRecord c x → sha256 x ≡ c
digest_new (ChunkRecord name bytes) digest c x is = new_chunk ByDigest name bytes c x digest is
digest_new (FileRecord name list) digest c x is = let no : ⊥ = cc in absurd no
digest_new (DropFileRecord name) digest c x is = let no : ⊥ = cc in absurd no
digest_new (DropChunkRecord name) digest c x is = let no : ⊥ = cc in absurd no

new_digest : (x : Append) → IsNamedByDigest x → IsNew ByDigest x
new_digest (ToA r) digest = digest_new r digest
new_digest (ToB r) digest = digest_new r digest
new_digest (ToJournal r) digest = tt

digests : (s : State) (x : Append) → IsKept (shapes_of s) → IsSite s → MayAppend s x → IsNew ByDigest x
digests s x kept site (inl next) = subst (IsNew ByDigest) (sym next.appends) (new_of_action ByDigest s next.action kept next.is site.named_a site.named_b)
digests s x kept site (inr (inl idle)) = new_digest x idle.digest
digests s x kept site (inr (inr mark)) = new_turn ByDigest x mark.turn

-- ONE VALUE OF A CHUNK

pub values_a : (s : State) → EachChunk (HasValue (value_in s)) s.a
values_a s c x is = ap (λ (o : Option (List ℕ)). unwrap_or o (chunk_or [] s.b c)) is

values_b_by : (s : State) (c y : List ℕ) (o : Option (List ℕ)) → AgreeOnChunks s.a s.b → map.get s.b.chunks c ≡ Some y → map.get s.a.chunks c ≡ o → unwrap_or o (chunk_or [] s.b c) ≡ y
values_b_by s c y None agree is in_a = or_value s.b c y is
values_b_by s c y (Some x) agree is in_a = agree c x y in_a is

pub values_b : (s : State) → AgreeOnChunks s.a s.b → EachChunk (HasValue (value_in s)) s.b
values_b s agree c y is = values_b_by s c y (map.get s.a.chunks c) agree is refl

-- with one value, the volumes agree
agree_by : (f : List ℕ → List ℕ) (a b : Volume) → EachChunk (HasValue f) a → EachChunk (HasValue f) b → AgreeOnChunks a b
agree_by f a b in_a in_b c x y is_x is_y = sym (in_a c x is_x) ∙ in_b c y is_y

pub open_phase : (p : Phase) → (p ≡ Idle) ⊎ (p ≢ Idle)
open_phase Idle = inl refl
open_phase (Moving names) = inr (λ (e : Moving names ≡ Idle). cc)
open_phase (Moved names) = inr (λ (e : Moved names ≡ Idle). cc)
open_phase (Undoing names) = inr (λ (e : Undoing names ≡ Idle). cc)

pub no_next : (a b : Shape) (phase : Phase) (action : Action) → phase ≡ Idle → next_of a b phase ≡ Some action → ⊥
no_next a b phase action idle is = let none : None ≡ Some action = sym (ap (next_of a b) idle) ∙ is in cc

pub no_turn : (s : State) (x : Append) (next : State) → s.phase ≡ Idle → IsTurn x → happens s x ≡ Some next → ⊥
no_turn s x next idle (inl is) folds =
    let none : None ≡ Some next = sym (ap (λ (p : Phase). option_map (λ (q : Phase). record s { phase = q }) (phase_after p UndoBeginRecord)) idle) ∙ sym (ap (happens s) is) ∙ folds in cc
no_turn s x next idle (inr is) folds =
    let none : None ≡ Some next = sym (ap (λ (p : Phase). option_map (λ (q : Phase). record s { phase = q }) (phase_after p AcceptedRecord)) idle) ∙ sym (ap (happens s) is) ∙ folds in cc

-- while a migration is open, each chunk of the next state has its value of this one
pub same_values : (s : State) (x : Append) (next : State) → IsKept (shapes_of s) → s.phase ≢ Idle → AgreeOnChunks s.a s.b → MayAppend s x → happens s x ≡ Some next
    → EachChunk (HasValue (value_in s)) next.a × EachChunk (HasValue (value_in s)) next.b
same_values s x next kept busy agree may folds = state_chunks (HasValue (value_in s)) s x next (values_a s) (values_b s agree) (new may) folds
  where
    new : MayAppend s x → IsNew (HasValue (value_in s)) x
    new (inl action) = subst (IsNew (HasValue (value_in s))) (sym action.appends) (new_of_action (HasValue (value_in s)) s action.action kept action.is (values_a s) (values_b s agree))
    new (inr (inl idle)) = absurd (busy idle.idle)
    new (inr (inr mark)) = new_turn (HasValue (value_in s)) x mark.turn

-- an append while no migration is open leaves none open, or begins one while B holds no chunk
idle_agree : (s : State) (x : Append) (next : State) → IsKept (shapes_of s) → s.phase ≡ Idle → MayBeIdle s.a s.b x → happens s x ≡ Some next → next.phase ≢ Idle → AgreeOnChunks next.a next.b
idle_agree s (ToA r) next kept idle kind folds busy =
    let its = mapped (λ (v : Volume). record s { a = v }) (volume_after s.a r) next folds in
    absurd (busy (sym (ap (λ (t : State). t.phase) its.2) ∙ idle))
idle_agree s (ToB r) next kept idle kind folds busy =
    let its = mapped (λ (v : Volume). record s { b = v }) (volume_after s.b r) next folds in
    absurd (busy (sym (ap (λ (t : State). t.phase) its.2) ∙ idle))
idle_agree s (ToJournal (BeginRecord names)) next kept idle kind folds busy =
    let its = mapped (λ (p : Phase). record s { phase = p }) (phase_after s.phase (BeginRecord names)) next folds in
    subst (λ (t : State). AgreeOnChunks t.a t.b) its.2 (λ c x y is_x is_y. absurd
    (no_chunk_of_b (shape_of s.a) (shape_of s.b) names kept.a kept.b (idle_kind s.a s.b (ToJournal (BeginRecord names)) kind) c (same_held s.b c ∙ ap is_some is_y)))
idle_agree s (ToJournal MovedRecord) next kept idle kind folds busy = absurd kind
idle_agree s (ToJournal UndoBeginRecord) next kept idle kind folds busy = absurd kind
idle_agree s (ToJournal UndoneRecord) next kept idle kind folds busy = absurd kind
idle_agree s (ToJournal AcceptedRecord) next kept idle kind folds busy = absurd kind

agrees : (s : State) (x : Append) (next : State) → IsKept (shapes_of s) → IsSite s → MayAppend s x → happens s x ≡ Some next → next.phase ≢ Idle → AgreeOnChunks next.a next.b
agrees s x next kept site may folds busy = ⊎_elim
    (λ idle. when_idle idle may)
    (λ open_now.
    let each = same_values s x next kept open_now (site.agree open_now) may folds in
    agree_by (value_in s) next.a next.b each.0 each.1)
    (open_phase s.phase)
  where
    when_idle : s.phase ≡ Idle → MayAppend s x → AgreeOnChunks next.a next.b
    when_idle idle (inl action) = absurd (no_next (shape_of s.a) (shape_of s.b) s.phase action.action idle action.is)
    when_idle idle (inr (inl append)) = idle_agree s x next kept idle append.kind folds busy
    when_idle idle (inr (inr mark)) = absurd (no_turn s x next idle mark.turn folds)

-- A SITE STAYS ONE

pub site_stays : (s : State) (x : Append) (next : State) → IsFoldedSite s → MayAppend s x → happens s x ≡ Some next → IsKept (shapes_of next) → IsFoldedSite next
site_stays s x next is may folds keeps =
    let kept = folded_kept s is in
    let named = state_chunks ByDigest s x next is.site.named_a is.site.named_b (digests s x kept is.site may) folds in
    record {
      folds = folded_more s x next is.folds (spelled s x kept may) folds;
      site = record { fits = keeps.fits; named_a = named.0; named_b = named.1; agree = agrees s x next kept is.site may folds };
    }

-- VALUES OVER A RUN

pub values_stay : (f : List ℕ → List ℕ) (s : State) (x : Append) (next : State) → IsKept (shapes_of s) → s.phase ≢ Idle → HasValues f s → MayAppend s x → happens s x ≡ Some next → HasValues f next
values_stay f s x next kept busy all may folds = state_chunks (HasValue f) s x next all.0 all.1 (new may) folds
  where
    new : MayAppend s x → IsNew (HasValue f) x
    new (inl action) = subst (IsNew (HasValue f)) (sym action.appends) (new_of_action (HasValue f) s action.action kept action.is all.0 all.1)
    new (inr (inl idle)) = absurd (busy idle.idle)
    new (inr (inr mark)) = new_turn (HasValue f) x mark.turn
