-- What an append that is allowed leaves of the view.
use Rattle.std.proofs.Common.{◌≡◌, ◌≢◌, inl, inr, ⊎_elim, ℕ, List, [], length, Bool, true, false, Option, Some, None, refl, sym, ◌∙◌, ap, subst}
use Rattle.std.specs.Prelude.{is_some, not, ◌&&◌, if◌then◌else◌}
use Rattle.std.specs.List.{flat_map}
use Rattle.std.specs.Option.{option_map}
use Rattle.std.specs.Str.{bytes_eq}
use Rattle.std.specs.FinMap as map
use Rattle.std.proofs.lemmas.Bool.{true≢false, and_parts, not-true, false_from_ne_true}
use Rattle.site_forms.specs.declared.phase.Phase.{Phase}
use Rattle.site_forms.specs.declared.phase.Phase.TheVariants.{Idle, Moving, Moved, Undoing}
use Rattle.site_forms.specs.JournalRecords.{JournalRecord}
use Rattle.site_forms.specs.JournalRecords.JournalRecord.{UndoBeginRecord, AcceptedRecord}
use Rattle.site_forms.specs.Phases.{phase_after}
use Rattle.site_forms.specs.Sites.{Fits, AgreeOnChunks, shape_of}
use Rattle.site_forms.specs.Views.{State, view, content, joined_bytes, joined_files, origin}
use Rattle.site_forms.specs.VolumeRecords.{VolumeRecord}
use Rattle.site_forms.specs.VolumeRecords.VolumeRecord.{ChunkRecord, FileRecord, DropFileRecord, DropChunkRecord}
use Rattle.site_forms.specs.Volumes.{Files, Volume, used, volume_after, may_add_file, may_drop_chunk, with_chunk, with_file, without_file, without_chunk}
use Rattle.volume_index.specs.HoldingValues.{KeepsShape}
use Rattle.site_core.specs.Events.{Append, Shapes, shapes_of, happens, happens_to, append_of, next_action_of, MayBeIdle, IsTurn, MayAppend}
use Rattle.site_core.specs.Events.Append.{ToA, ToB, ToJournal}
use Rattle.site_core.specs.Lasting.{IsFoldedSite, IsKept, idle_view, phase_view, reading, value_in}
use Rattle.site_core.specs.declared.action.Action.{Action}
use Rattle.site_core.proofs.Contents.{view_as, reads_content, content_with_chunk, content_without_chunk}
use Rattle.site_core.proofs.Folding.{folded_kept, shapes_step}
use Rattle.site_core.proofs.Maps.{get_joined, same_bytes, with_cases, without_cases}
use Rattle.site_core.proofs.Turning.{if_some, if_none, mapped}
use Rattle.site_core.proofs.Values.{state_acted, same_values, no_next, open_phase, values_a, values_b}

-- READS

pub reads_view : (s : State) (name : List ℕ) → IsFoldedSite s → reading s name ≡ view s name
reads_view s name is =
    let kept = folded_kept s is in
    (λ i. if map.contains_key s.a.files name then reads_content s.a kept.a name is.site.named_a i else reads_content s.b kept.b name is.site.named_b i)

-- ACTIONS

-- what happens in memory is what happens
same_next : (s : State) (x : Append) (next : State) (t : Shapes) → happens s x ≡ Some next → happens_to (shapes_of s) x ≡ Some t → t ≡ shapes_of next
same_next s x next t folds memory = let is : Some t ≡ Some (shapes_of next) = sym memory ∙ shapes_step s x ∙ ap (option_map shapes_of) folds in cc

-- an action keeps the origin
pub action_origin : (s : State) (action : Action) (next : State) → IsKept (shapes_of s) → next_action_of s ≡ Some action → happens s (append_of s action) ≡ Some next → origin next ≡ origin s
action_origin s action next kept is folds =
    let acted = state_acted s action kept is in
    subst (λ (t : Shapes). joined_files t.a.files t.b.files ≡ origin s) (same_next s (append_of s action) next acted.next folds acted.folds) acted.origin

-- with the same origin and the same value of each chunk, the view is the same
same_view : (s next : State) (name : List ℕ) → IsKept (shapes_of s) → IsKept (shapes_of next) → AgreeOnChunks s.a s.b
    → ((c x : List ℕ) → map.get next.a.chunks c ≡ Some x → value_in s c ≡ x) → ((c x : List ℕ) → map.get next.b.chunks c ≡ Some x → value_in s c ≡ x) → origin next ≡ origin s → view next name ≡ view s name
same_view s next name kept keeps agree in_a in_b same =
    view_as next.a next.b (value_in s) name keeps.a keeps.b in_a in_b
    ∙ ap (option_map (flat_map (value_in s))) (sym (get_joined next.a.files next.b.files name) ∙ ap (λ (f : Files). map.get f name) same ∙ get_joined s.a.files s.b.files name)
    ∙ sym (view_as s.a s.b (value_in s) name kept.a kept.b (values_a s) (values_b s agree))

-- TURNS

view_with_phase : (s : State) (r : JournalRecord) (next : State) (name : List ℕ) → happens s (ToJournal r) ≡ Some next → view next name ≡ view s name
view_with_phase s r next name folds =
    let its = mapped (λ (p : Phase). record s { phase = p }) (phase_after s.phase r) next folds in
    subst (λ (t : State). view t name ≡ view s name) its.2 refl

pub turn_origin : (s : State) (x : Append) (next : State) → IsTurn x → happens s x ≡ Some next → origin next ≡ origin s
turn_origin s x next (inl is) folds =
    let its = mapped (λ (p : Phase). record s { phase = p }) (phase_after s.phase UndoBeginRecord) next (ap (happens s) (sym is) ∙ folds) in
    subst (λ (t : State). origin t ≡ origin s) its.2 refl
turn_origin s x next (inr is) folds =
    let its = mapped (λ (p : Phase). record s { phase = p }) (phase_after s.phase AcceptedRecord) next (ap (happens s) (sym is) ∙ folds) in
    subst (λ (t : State). origin t ≡ origin s) its.2 refl

no_view : (phase : Phase) (s : State) (r : JournalRecord) (name : List ℕ) → phase_view phase s (ToJournal r) name ≡ view s name
no_view Idle s r name = refl
no_view (Moving names) s r name = refl
no_view (Moved names) s r name = refl
no_view (Undoing names) s r name = refl

turn_view : (s : State) (x : Append) (next : State) (name : List ℕ) → IsTurn x → happens s x ≡ Some next → view next name ≡ phase_view s.phase s x name
turn_view s x next name (inl is) folds = view_with_phase s UndoBeginRecord next name (ap (happens s) (sym is) ∙ folds)
    ∙ sym (ap (λ (y : Append). phase_view s.phase s y name) is ∙ no_view s.phase s UndoBeginRecord name)
turn_view s x next name (inr is) folds = view_with_phase s AcceptedRecord next name (ap (happens s) (sym is) ∙ folds)
    ∙ sym (ap (λ (y : Append). phase_view s.phase s y name) is ∙ no_view s.phase s AcceptedRecord name)

-- WHILE NO MIGRATION IS OPEN

abbrev shown : Volume → Volume → List ℕ → Option (List ℕ)
shown a b name = if map.contains_key a.files name then content a name else content b name

-- A with a file more or less, and B with one less
shown_with : (a b : Volume) (file : List ℕ) (list : List (List ℕ)) (name : List ℕ) → shown (with_file a file list) b name ≡ (if bytes_eq name file then Some (joined_bytes a list) else shown a b name)
shown_with a b file list name = with_cases a.files file
    (λ o. (if is_some o then option_map (joined_bytes a) o else content b name) ≡ (if bytes_eq name file then Some (joined_bytes a list) else shown a b name)) list name
    (λ is. sym (ap (λ (c : Bool). if c then Some (joined_bytes a list) else shown a b name) (ap (λ (n : List ℕ). bytes_eq n file) is ∙ same_bytes file)))
    (λ other. sym (ap (λ (c : Bool). if c then Some (joined_bytes a list) else shown a b name) other))

nothing_in : (v : Volume) (name : List ℕ) → map.contains_key v.files name ≡ false → content v name ≡ None
nothing_in v name lacking = none_of (map.get v.files name) lacking
  where
    none_of : (o : Option (List (List ℕ))) → is_some o ≡ false → option_map (joined_bytes v) o ≡ None
    none_of None is = refl
    none_of (Some l) is = absurd (true≢false is)

shown_without_a : (a b : Volume) (file name : List ℕ) → map.contains_key b.files file ≡ false → shown (without_file a file) b name ≡ (if bytes_eq name file then None else shown a b name)
shown_without_a a b file name lacking = without_cases a.files file
    (λ o. (if is_some o then option_map (joined_bytes a) o else content b name) ≡ (if bytes_eq name file then None else shown a b name)) name
    (λ is. ap (content b) is ∙ nothing_in b file lacking ∙ sym (ap (λ (c : Bool). if c then None else shown a b name) (ap (λ (n : List ℕ). bytes_eq n file) is ∙ same_bytes file)))
    (λ other. sym (ap (λ (c : Bool). if c then None else shown a b name) other))

shown_without_b : (a b : Volume) (file name : List ℕ) → map.contains_key a.files file ≡ false → shown a (without_file b file) name ≡ (if bytes_eq name file then None else shown a b name)
shown_without_b a b file name lacking = without_cases b.files file
    (λ o. (if map.contains_key a.files name then content a name else option_map (joined_bytes b) o) ≡ (if bytes_eq name file then None else shown a b name)) name
    (λ is. ap (λ (c : Bool). if c then content a name else None) (ap (map.contains_key a.files) is ∙ lacking) ∙ sym (ap (λ (c : Bool). if c then None else shown a b name) (ap (λ (n : List ℕ). bytes_eq n file) is ∙ same_bytes file)))
    (λ other. sym (ap (λ (c : Bool). if c then None else shown a b name) other))

-- a file of one volume is none of the other
other_lacks : (x y : Bool) → (x && y) ≡ false → x ≡ true → y ≡ false
other_lacks x y apart held = ap (λ (z : Bool). z && y) (sym held) ∙ apart

first_lacks : (x y : Bool) → (x && y) ≡ false → y ≡ true → x ≡ false
first_lacks x y apart held = false_from_ne_true x (λ first. true≢false (sym held ∙ other_lacks x y apart first))

record_view_a : (s : State) (r : VolumeRecord) (next : Volume) (name : List ℕ) → KeepsShape (shape_of s.a) → ((n : List ℕ) → (map.contains_key s.a.files n && map.contains_key s.b.files n) ≡ false) → volume_after s.a r ≡ Some next
    → shown next s.b name ≡ idle_view s (ToA r) name
record_view_a s (ChunkRecord chunk bytes) next name keeps apart folds =
    let its = if_none (map.contains_key s.a.chunks chunk) (with_chunk s.a chunk bytes) next folds in
    subst (λ (v : Volume). shown v s.b name ≡ view s name) its.1 (ap (λ o. if map.contains_key s.a.files name then o else content s.b name) (content_with_chunk s.a chunk bytes name keeps its.0))
record_view_a s (FileRecord file list) next name keeps apart folds =
    let its = if_some (may_add_file length [] s.a file list) (with_file s.a file list) next folds in
    subst (λ (v : Volume). shown v s.b name ≡ idle_view s (ToA (FileRecord file list)) name) its.1 (shown_with s.a s.b file list name)
record_view_a s (DropFileRecord file) next name keeps apart folds =
    let its = if_some (map.contains_key s.a.files file) (without_file s.a file) next folds in
    subst (λ (v : Volume). shown v s.b name ≡ idle_view s (ToA (DropFileRecord file)) name) its.1
    (shown_without_a s.a s.b file name (other_lacks (map.contains_key s.a.files file) (map.contains_key s.b.files file) (apart file) its.0))
record_view_a s (DropChunkRecord chunk) next name keeps apart folds =
    let its = if_some (may_drop_chunk s.a chunk) (without_chunk s.a chunk) next folds in
    let parts = and_parts (map.contains_key s.a.chunks chunk) (not (map.contains_key (used s.a.files) chunk)) its.0 in
    subst (λ (v : Volume). shown v s.b name ≡ view s name) its.1
    (ap (λ o. if map.contains_key s.a.files name then o else content s.b name) (content_without_chunk s.a chunk name keeps (not-true (map.contains_key (used s.a.files) chunk) parts.1)))

record_view_b : (s : State) (r : VolumeRecord) (next : Volume) (name : List ℕ) → KeepsShape (shape_of s.b) → ((n : List ℕ) → (map.contains_key s.a.files n && map.contains_key s.b.files n) ≡ false) → MayBeIdle s.a s.b (ToB r) → volume_after s.b r ≡ Some next
    → shown s.a next name ≡ idle_view s (ToB r) name
record_view_b s (ChunkRecord chunk bytes) next name keeps apart kind folds = absurd kind
record_view_b s (FileRecord file list) next name keeps apart kind folds = absurd kind
record_view_b s (DropFileRecord file) next name keeps apart kind folds =
    let its = if_some (map.contains_key s.b.files file) (without_file s.b file) next folds in
    subst (λ (v : Volume). shown s.a v name ≡ idle_view s (ToB (DropFileRecord file)) name) its.1
    (shown_without_b s.a s.b file name (first_lacks (map.contains_key s.a.files file) (map.contains_key s.b.files file) (apart file) its.0))
record_view_b s (DropChunkRecord chunk) next name keeps apart kind folds =
    let its = if_some (may_drop_chunk s.b chunk) (without_chunk s.b chunk) next folds in
    let parts = and_parts (map.contains_key s.b.chunks chunk) (not (map.contains_key (used s.b.files) chunk)) its.0 in
    subst (λ (v : Volume). shown s.a v name ≡ view s name) its.1
    (ap (λ o. if map.contains_key s.a.files name then content s.a name else o) (content_without_chunk s.b chunk name keeps (not-true (map.contains_key (used s.b.files) chunk) parts.1)))

idle_apart : (s : State) → s.phase ≡ Idle → IsKept (shapes_of s) → (n : List ℕ) → (map.contains_key s.a.files n && map.contains_key s.b.files n) ≡ false
idle_apart s idle kept = subst (λ (p : Phase). Fits (shape_of s.a) (shape_of s.b) p) idle kept.fits

idle_shows : (s : State) (x : Append) (next : State) (name : List ℕ) → IsKept (shapes_of s) → s.phase ≡ Idle → MayBeIdle s.a s.b x → happens s x ≡ Some next → view next name ≡ idle_view s x name
idle_shows s (ToA r) next name kept idle kind folds =
    let its = mapped (λ (v : Volume). record s { a = v }) (volume_after s.a r) next folds in
    subst (λ (t : State). view t name ≡ idle_view s (ToA r) name) its.2 (record_view_a s r its.0 name kept.a (idle_apart s idle kept) its.1)
idle_shows s (ToB r) next name kept idle kind folds =
    let its = mapped (λ (v : Volume). record s { b = v }) (volume_after s.b r) next folds in
    subst (λ (t : State). view t name ≡ idle_view s (ToB r) name) its.2 (record_view_b s r its.0 name kept.b (idle_apart s idle kept) kind its.1)
idle_shows s (ToJournal r) next name kept idle kind folds = view_with_phase s r next name folds

-- EACH

still : (phase : Phase) (s : State) (x : Append) (name : List ℕ) → phase ≢ Idle → phase_view phase s x name ≡ view s name
still Idle s x name busy = absurd (busy refl)
still (Moving names) s x name busy = refl
still (Moved names) s x name busy = refl
still (Undoing names) s x name busy = refl

pub append_view : (s : State) (x : Append) (next : State) (name : List ℕ) → IsFoldedSite s → IsKept (shapes_of next) → MayAppend s x → happens s x ≡ Some next → view next name ≡ phase_view s.phase s x name
append_view s x next name is keeps (inl action) folds = ⊎_elim
    (λ idle. absurd (no_next (shape_of s.a) (shape_of s.b) s.phase action.action idle action.is))
    (λ busy.
    let kept = folded_kept s is in
    let agree = is.site.agree busy in
    let each = same_values s x next kept busy agree (inl action) folds in
    same_view s next name kept keeps agree each.0 each.1 (action_origin s action.action next kept action.is (ap (happens s) (sym action.appends) ∙ folds))
    ∙ sym (still s.phase s x name busy))
    (open_phase s.phase)
append_view s x next name is keeps (inr (inl idle)) folds =
    idle_shows s x next name (folded_kept s is) idle.idle idle.kind folds ∙ sym (ap (λ (p : Phase). phase_view p s x name) idle.idle)
append_view s x next name is keeps (inr (inr mark)) folds = turn_view s x next name mark.turn folds
