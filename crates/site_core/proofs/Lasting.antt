-- What lasts over every list of events.
use Rattle.std.proofs.Common.{◌≡◌, ◌≢◌, inl, inr, ⊎_elim, ℕ, suc, ◌+◌, ◌^◌, ◌<◌, ◌≤◌, List, [], ◌∷◌, length, Bool, true, false, cond, Option, Some, None, refl, sym, ◌∙◌, ap, subst, arith}
use Rattle.std.specs.Prelude.{is_some, not, ◌&&◌, nat_le, unwrap_or, if◌then◌else◌}
use Rattle.std.specs.List.{filter, flat_map, list_all}
use Rattle.std.specs.Option.{option_map}
use Rattle.std.specs.Cmp.Lexicographic.{nat_list_cmp_total}
use Rattle.std.specs.FinMap as map
use Rattle.std.proofs.lemmas.Bool.{true≢false, and_parts, leb-true}
use Rattle.seed_model.specs.declared.limits.TheConstants.{MOST_FILES, MOST_CHUNKS}
use Rattle.site_forms.specs.declared.phase.Phase.{Phase}
use Rattle.site_forms.specs.declared.phase.Phase.TheVariants.{Idle, Moving, Moved, Undoing}
use Rattle.site_forms.specs.JournalRecords.{JournalRecord}
use Rattle.site_forms.specs.JournalRecords.JournalRecord.{BeginRecord, UndoBeginRecord, UndoneRecord, AcceptedRecord}
use Rattle.site_forms.specs.Phases.{phase_after}
use Rattle.site_forms.specs.Names.{is_listed, is_name, is_name_list, is_distinct}
use Rattle.site_forms.specs.Sites.{Fits, FitsMoved, HoldsChunk, IsUnderway, shape_of}
use Rattle.site_forms.specs.Views.{State, view, origin, joined_files}
use Rattle.site_forms.specs.Volumes.{bytes_cmp, Files, Volume, Shape, used, set_of}
use Rattle.volume_index.proofs.MapValues.{same_names}
use Rattle.volume_index.proofs.Sets.{set_holds, listed_passes}
use Rattle.volume_index.specs.HoldingValues.{KeepsShape}
use Rattle.site_core.specs.declared.action.Action.{Action}
use Rattle.site_core.specs.declared.action.Action.TheVariants.{CopyToB, AddToB, DropFromA, DropChunkA, Moved as RecordMoved, CopyToA, AddToA, DropFromB, DropChunkB, Undone}
use Rattle.site_core.specs.Events.{Append, Event, Shapes, shapes_of, happens, append_of, append_with, copied_bytes, next_action_of, CopiesChunk, MayBegin, MayAppend, Allowed, AreAllowed, after, after_all}
use Rattle.site_core.specs.Events.Append.{ToJournal}
use Rattle.site_core.specs.Events.Event.{Appends, Reads, Reopens}
use Rattle.site_core.specs.Lasting.{HasValues, IsFoldedSite, IsKept, IsRestored, IsSplit, LeavesOne, SameVolumes, StaysOpen, view_after, remaining_of}
use Rattle.site_core.specs.Steps.{list_of, lacking_names, chunks_to_copy, chunks_to_drop, files_beside, next_step, next_of, forth, back, remaining, steps_left}
use Rattle.site_core.specs.declared.step.Step.{Step}
use Rattle.site_core.specs.declared.step.Step.TheVariants.{Copy, Add, Drop, DropChunk, Finish}
use Rattle.site_core.proofs.Acting.{next_acted, no_file, no_chunk, all_home, tidy_home}
use Rattle.site_core.proofs.Counting.{AreAmong, counts_fit, len_within}
use Rattle.site_core.proofs.Folding.{folded_kept, shapes_step}
use Rattle.site_core.proofs.Lists.{in_flat}
use Rattle.site_core.proofs.Maps.{either, get_joined, used_by}
use Rattle.site_core.proofs.NextSteps.{Tells, tells, Ends}
use Rattle.site_core.proofs.Remaining.{held_kept}
use Rattle.site_core.proofs.Shapes.{same_held}
use Rattle.site_core.proofs.Values.{Happened, happened, state_acted, site_stays, values_stay}
use Rattle.site_core.proofs.Views.{append_view, action_origin, turn_origin}
use Rattle.site_core.proofs.Ways.{way_from, among_a}

-- AN EVENT

folded_next : (s : State) (x : Append) → IsFoldedSite s → MayAppend s x → Happened s x
folded_next s x is may = happened s x (folded_kept s is) may

after_is : (s : State) (x : Append) (next : State) → happens s x ≡ Some next → next ≡ after s (Appends x)
after_is s x next folds = sym (ap (λ (o : Option State). unwrap_or o s) folds)

pub append_folds : (s : State) (x : Append) → IsFoldedSite s → MayAppend s x → happens s x ≡ Some (after s (Appends x))
append_folds s x is may =
    let next = folded_next s x is may in
    next.folds ∙ ap Some (after_is s x next.next next.folds)

pub event_keeps : (s : State) (e : Event) → IsFoldedSite s → Allowed s e → IsFoldedSite (after s e)
event_keeps s (Appends x) is may =
    let next = folded_next s x is may in
    subst IsFoldedSite (after_is s x next.next next.folds) (site_stays s x next.next is may next.folds next.kept)
event_keeps s (Reads name) is may = is
event_keeps s Reopens is may = is

pub event_view : (s : State) (e : Event) (name : List ℕ) → IsFoldedSite s → Allowed s e → view (after s e) name ≡ view_after s e name
event_view s (Appends x) name is may =
    let next = folded_next s x is may in
    ap (λ (t : State). view t name) (sym (after_is s x next.next next.folds)) ∙ append_view s x next.next name is next.kept may next.folds
event_view s (Reads read) name is may = refl
event_view s Reopens name is may = refl

append_origin : (s : State) (x : Append) (next : State) → IsFoldedSite s → s.phase ≢ Idle → MayAppend s x → happens s x ≡ Some next → origin next ≡ origin s
append_origin s x next is busy (inl action) folds = action_origin s action.action next (folded_kept s is) action.is (ap (happens s) (sym action.appends) ∙ folds)
append_origin s x next is busy (inr (inl idle)) folds = absurd (busy idle.idle)
append_origin s x next is busy (inr (inr mark)) folds = turn_origin s x next mark.turn folds

event_origin : (s : State) (e : Event) → IsFoldedSite s → s.phase ≢ Idle → Allowed s e → origin (after s e) ≡ origin s
event_origin s (Appends x) is busy may =
    let next = folded_next s x is may in
    ap origin (sym (after_is s x next.next next.folds)) ∙ append_origin s x next.next is busy may next.folds
event_origin s (Reads name) is busy may = refl
event_origin s Reopens is busy may = refl

-- MANY

pub all_keep : (s : State) (events : List Event) → IsFoldedSite s → AreAllowed s events → IsFoldedSite (after_all s events)
all_keep s [] is may = is
all_keep s (e ∷ events) is may = all_keep (after s e) events (event_keeps s e is may.0) may.1

pub all_origin : (s : State) (events : List Event) → IsFoldedSite s → AreAllowed s events → StaysOpen s events → origin (after_all s events) ≡ origin s
all_origin s [] is may open_now = refl
all_origin s (e ∷ events) is may open_now = all_origin (after s e) events (event_keeps s e is may.0) may.1 open_now.1 ∙ event_origin s e is open_now.0 may.0

-- THE END OF AN UNDO

forth_undone : (a b : Volume) (names : List (List ℕ)) (bytes : List ℕ) (step : Step) → ToJournal UndoneRecord ≡ append_with a b (Moving names) bytes (forth step) → ⊥
forth_undone a b names bytes (Copy chunk) is = cc
forth_undone a b names bytes (Add place) is = cc
forth_undone a b names bytes (Drop place) is = cc
forth_undone a b names bytes (DropChunk chunk) is = cc
forth_undone a b names bytes Finish is = cc

back_undone : (a b : Volume) (names : List (List ℕ)) (bytes : List ℕ) (step : Step) → ToJournal UndoneRecord ≡ append_with a b (Undoing names) bytes (back step) → step ≡ Finish
back_undone a b names bytes (Copy chunk) is = let no : ⊥ = cc in absurd no
back_undone a b names bytes (Add place) is = let no : ⊥ = cc in absurd no
back_undone a b names bytes (Drop place) is = let no : ⊥ = cc in absurd no
back_undone a b names bytes (DropChunk chunk) is = let no : ⊥ = cc in absurd no
back_undone a b names bytes Finish is = refl

nothing_held : (m : map.FinMap bytes_cmp (List ℕ)) → ((q : List ℕ) → map.contains_key m q ≡ false) → m ≡ map.empty
nothing_held m none = map.same_map nat_list_cmp_total same_names m map.empty (λ q. none_of (map.get m q) (none q) ∙ sym (map.get-empty bytes_cmp q))
  where
    none_of : (o : Option (List ℕ)) → is_some o ≡ false → o ≡ None
    none_of None is = refl
    none_of (Some v) is = absurd (true≢false is)

no_files : (m : Files) → ((q : List ℕ) → map.contains_key m q ≡ false) → m ≡ map.empty
no_files m none = map.same_map nat_list_cmp_total same_names m map.empty (λ q. none_of (map.get m q) (none q) ∙ sym (map.get-empty bytes_cmp q))
  where
    none_of : (o : Option (List (List ℕ))) → is_some o ≡ false → o ≡ None
    none_of None is = refl
    none_of (Some v) is = absurd (true≢false is)

restored : (a b : Volume) (names : List (List ℕ)) → IsKept (record { a = shape_of a; b = shape_of b; phase = Undoing names }) → Ends (shape_of b) (shape_of a) names → IsRestored (record { a = a; b = b; phase = Undoing names })
restored a b names kept ends =
    let x = shape_of a in
    let y = shape_of b in
    let chunks = nothing_held b.chunks (λ q. sym (same_held b q) ∙ no_chunk x y names kept.a kept.b kept.names kept.fits [] ends q) in
    let files = no_files b.files (no_file x y names kept.a kept.b kept.names kept.fits [] ends) in
    let tidy = tidy_home x y names kept.a kept.b kept.names kept.fits [] ends in
    record {
      files = map.same_map nat_list_cmp_total same_names a.files (joined_files a.files b.files) (λ q. sym (all_home x y names kept.a kept.b kept.names kept.fits [] ends q));
      tidy = λ chunk. sym (same_held a chunk) ∙ tidy chunk;
      nothing = λ i. record { chunks = chunks i; files = files i };
    }

undone_by : (a b : Volume) (phase : Phase) (action : Action) (bytes : List ℕ) → IsKept (record { a = shape_of a; b = shape_of b; phase = phase }) → next_of (shape_of a) (shape_of b) phase ≡ Some action → ToJournal UndoneRecord ≡ append_with a b phase bytes action
    → IsRestored (record { a = a; b = b; phase = phase })
undone_by a b Idle action bytes kept is appends = let no : ⊥ = cc in absurd no
undone_by a b (Moving names) action bytes kept is appends =
    let same : forth (next_step (shape_of a) (shape_of b) names) ≡ action = cc in
    absurd (forth_undone a b names bytes (next_step (shape_of a) (shape_of b) names) (appends ∙ ap (append_with a b (Moving names) bytes) (sym same)))
undone_by a b (Moved names) action bytes kept is appends = let no : ⊥ = cc in absurd no
undone_by a b (Undoing names) action bytes kept is appends =
    let same : back (next_step (shape_of b) (shape_of a) names) ≡ action = cc in
    let last = back_undone a b names bytes (next_step (shape_of b) (shape_of a) names) (appends ∙ ap (append_with a b (Undoing names) bytes) (sym same)) in
    restored a b names kept (subst (Tells (shape_of b) (shape_of a) names) last (tells (shape_of b) (shape_of a) names))

pub undone_restores : (s : State) → IsFoldedSite s → MayAppend s (ToJournal UndoneRecord) → IsRestored s
undone_restores s is (inl next) = undone_by s.a s.b s.phase next.action (copied_bytes s next.action) (folded_kept s is) next.is next.appends
undone_restores s is (inr (inl idle)) = absurd idle.kind
undone_restores s is (inr (inr mark)) = absurd (⊎_elim (λ (e : ToJournal UndoneRecord ≡ ToJournal UndoBeginRecord). cc) (λ (e : ToJournal UndoneRecord ≡ ToJournal AcceptedRecord). cc) mark.turn)

-- THE BEGIN, THE END, AND EVERY RECORD OF THE JOURNAL

pub begin_kind : (s : State) (names : List (List ℕ)) → IsFoldedSite s → MayAppend s (ToJournal (BeginRecord names)) → MayBegin s.a s.b names
begin_kind s names is (inl next) = absurd (no_begin s.a s.b s.phase (copied_bytes s next.action) next.action next.appends)
  where
    no_begin : (a b : Volume) (phase : Phase) (bytes : List ℕ) (action : Action) → ToJournal (BeginRecord names) ≡ append_with a b phase bytes action → ⊥
    no_begin a b phase bytes (CopyToB chunk) is = cc
    no_begin a b phase bytes (AddToB place) is = cc
    no_begin a b phase bytes (DropFromA place) is = cc
    no_begin a b phase bytes (DropChunkA chunk) is = cc
    no_begin a b phase bytes RecordMoved is = cc
    no_begin a b phase bytes (CopyToA chunk) is = cc
    no_begin a b phase bytes (AddToA place) is = cc
    no_begin a b phase bytes (DropFromB place) is = cc
    no_begin a b phase bytes (DropChunkB chunk) is = cc
    no_begin a b phase bytes Undone is = cc
begin_kind s names is (inr (inl idle)) = idle.kind
begin_kind s names is (inr (inr mark)) = absurd (⊎_elim (λ (e : ToJournal (BeginRecord names) ≡ ToJournal UndoBeginRecord). cc) (λ (e : ToJournal (BeginRecord names) ≡ ToJournal AcceptedRecord). cc) mark.turn)

same_by : (s : State) (o : Option Phase) → SameVolumes s (unwrap_or (option_map (λ (p : Phase). record s { phase = p }) o) s)
same_by s None = record { a = refl; b = refl }
same_by s (Some p) = record { a = refl; b = refl }

pub journal_same : (s : State) (r : JournalRecord) → SameVolumes s (after s (Appends (ToJournal r)))
journal_same s r = same_by s (phase_after s.phase r)

first_none : {X : Type 0} (x y : Option X) → is_some y ≡ false → either x y ≡ x
first_none None None none = refl
first_none None (Some v) none = absurd (true≢false none)
first_none (Some v) y none = refl

pub begin_origin : (s : State) (names : List (List ℕ)) → IsFoldedSite s → MayAppend s (ToJournal (BeginRecord names)) → origin (after s (Appends (ToJournal (BeginRecord names)))) ≡ s.a.files
begin_origin s names is may =
    let kind = begin_kind s names is may in
    let same = journal_same s (BeginRecord names) in
    (λ i. joined_files (same.a i).files (same.b i).files)
    ∙ map.same_map nat_list_cmp_total same_names (joined_files s.a.files s.b.files) s.a.files (λ q. get_joined s.a.files s.b.files q ∙ first_none (map.get s.a.files q) (map.get s.b.files q) (kind.empty q))

split_by : (a b o : Option (List (List ℕ))) (named : Bool) → o ≡ either a b → (named ≡ true → is_some a ≡ false) → is_some b ≡ named → (a ≡ (if named then None else o)) × (b ≡ (if named then o else None))
split_by None b o true joined lacks held = (refl, sym joined)
split_by (Some l) b o true joined lacks held = absurd (true≢false (lacks refl))
split_by a None o false joined lacks held = (second_none a o joined, refl)
  where
    second_none : (a o : Option (List (List ℕ))) → o ≡ either a None → a ≡ o
    second_none None o joined = sym joined
    second_none (Some l) o joined = sym joined
split_by a (Some l) o false joined lacks held = absurd (true≢false held)

split_of : (a b : Volume) (names : List (List ℕ)) → FitsMoved (shape_of a) (shape_of b) names → IsSplit (record { a = a; b = b; phase = Moved names }) names
split_of a b names fit =
    let each = λ (name : List ℕ). split_by (map.get a.files name) (map.get b.files name) (map.get (joined_files a.files b.files) name) (is_listed names name) (get_joined a.files b.files name) (fit.left name) (fit.arrived name) in
    record {
      files_a = λ name. (each name).0;
      files_b = λ name. (each name).1;
      tidy_a = λ chunk. sym (same_held a chunk) ∙ fit.tidy_a chunk;
      tidy_b = λ chunk. sym (same_held b chunk) ∙ fit.tidy_b chunk;
    }

pub moved_split : (s : State) (names : List (List ℕ)) → IsFoldedSite s → s.phase ≡ Moved names → IsSplit s names
moved_split s names is moved =
    let split = split_of s.a s.b names (subst (λ (p : Phase). Fits (shape_of s.a) (shape_of s.b) p) moved is.site.fits) in
    record { files_a = split.files_a; files_b = split.files_b; tidy_a = split.tidy_a; tidy_b = split.tidy_b }

-- HOW MANY ACTIONS ARE LEFT

pub one_less_left : (s : State) (action : Action) → IsFoldedSite s → next_action_of s ≡ Some action → remaining_of (after s (Appends (append_of s action))) + 1 ≡ remaining_of s
one_less_left s action is next =
    let acted = state_acted s action (folded_kept s is) next in
    let folds = append_folds s (append_of s action) is (inl (record { action = action; is = next; appends = refl })) in
    let same : acted.next ≡ shapes_of (after s (Appends (append_of s action))) =
    (let both : Some acted.next ≡ Some (shapes_of (after s (Appends (append_of s action)))) = sym acted.folds ∙ shapes_step s (append_of s action) ∙ ap (option_map shapes_of) folds in cc) in
    ap (λ (t : Shapes). remaining t.a t.b t.phase + 1) (sym same) ∙ acted.left

fewer_pass : (p : List ℕ → Bool) (xs : List (List ℕ)) → length (filter p xs) ≤ length xs
fewer_pass p [] = omega arith
fewer_pass p (x ∷ xs) = elim (p x) as (λ b. length (cond b (x ∷ filter p xs) (filter p xs)) ≤ suc (length xs)) [ true ↦ omega (arith, fewer_pass p xs) | false ↦ omega (arith, fewer_pass p xs) ]

list_some : (o : Option (List (List ℕ))) (chunk : List ℕ) → is_listed (unwrap_or o []) chunk ≡ true → (list : List (List ℕ)) × (o ≡ Some list) × (is_listed list chunk ≡ true)
list_some None chunk listed = absurd (true≢false (sym listed))
list_some (Some list) chunk listed = (list, refl, listed)

few_left : (o : Files) (source target : Shape) (names : List (List ℕ)) → AreAmong source.files o → ((c : List ℕ) → HoldsChunk source c → map.contains_key (used o) c ≡ true) → counts_fit o ≡ true → is_name_list names ≡ true → steps_left source target names < 2 ^ 22
few_left o source target names among uses fit lawful =
    let p = and_parts (nat_le (map.len o) MOST_FILES) _ fit in
    let q = and_parts (nat_le (map.len (used o)) MOST_CHUNKS) _ p.1 in
    let few = leb-true (map.len (used o)) MOST_CHUNKS q.0 in
    let n = and_parts (nat_le (length names) MOST_FILES) (list_all is_name names && is_distinct names) lawful in
    let short = leb-true (length names) MOST_FILES n.0 in
    let flat = flat_map (list_of source) (lacking_names target names) in
    let copies = len_within (set_of (chunks_to_copy source target names)) (used o) (λ c held.
    let parts = and_parts (is_listed flat c) (not (map.contains_key target.chunks c)) (sym (listed_passes (λ x. not (map.contains_key target.chunks x)) flat c) ∙ sym (set_holds (chunks_to_copy source target names) c) ∙ held) in
    let one = in_flat (list_of source) (lacking_names target names) c parts.0 in
    let its = list_some (map.get source.files one.0) c one.2 in
    used_by o one.0 its.0 c (among one.0 its.0 its.1) its.2) in
    let drops = len_within (chunks_to_drop source names) (used o) (λ c held. uses c (held_kept source.chunks (λ x. not (map.contains_key (used (files_beside source names)) x)) c held).1) in
    let adds = fewer_pass (λ name. not (map.contains_key target.files name)) names in
    let leaves = fewer_pass (map.contains_key source.files) names in
    omega (arith, few, short, copies, drops, adds, leaves)

few_underway : (a b : Shape) (names : List (List ℕ)) → KeepsShape a → KeepsShape b → is_name_list names ≡ true → IsUnderway a b names → (steps_left a b names < 2 ^ 22) × (steps_left b a names < 2 ^ 22)
few_underway a b names keeps_a keeps_b lawful under =
    let o = joined_files a.files b.files in
    let way = way_from a b names under keeps_a.most keeps_b.most in (
      few_left o a b names (among_a o names a b way) (λ c held. let user = way.needed c held in used_by o user.0 user.1.0 c user.1.1 user.1.2) way.fit lawful,
      few_left o b a names way.among_b (λ c held. let user = way.copied c held in used_by o user.0 user.2.0 c user.2.1 user.2.2) way.fit lawful,
    )

pub few_remain : (a b : Shape) (phase : Phase) → IsKept (record { a = a; b = b; phase = phase }) → remaining a b phase < 2 ^ 22
few_remain a b Idle kept = omega arith
few_remain a b (Moving names) kept = (few_underway a b names kept.a kept.b kept.names kept.fits.underway).0
few_remain a b (Moved names) kept = omega arith
few_remain a b (Undoing names) kept = (few_underway a b names kept.a kept.b kept.names kept.fits).1

pub leaves_one : (t : Shapes) (action : Action) (bytes : List ℕ) → IsKept t → next_of t.a t.b t.phase ≡ Some action → CopiesChunk action bytes → LeavesOne t (append_with t.a t.b t.phase bytes action)
leaves_one t action bytes kept is copies =
    let acted = next_acted t.a t.b t.phase bytes action kept is copies in
    record { next = acted.next; folds = acted.folds; kept = acted.kept; left = acted.left }

-- THE VALUES OF CHUNKS

event_values : (f : List ℕ → List ℕ) (s : State) (e : Event) → IsFoldedSite s → s.phase ≢ Idle → Allowed s e → HasValues f s → HasValues f (after s e)
event_values f s (Appends x) is busy may all = values_stay f s x (after s (Appends x)) (folded_kept s is) busy all may (append_folds s x is may)
event_values f s (Reads name) is busy may all = all
event_values f s Reopens is busy may all = all

pub all_values : (f : List ℕ → List ℕ) (s : State) (events : List Event) → IsFoldedSite s → AreAllowed s events → StaysOpen s events → HasValues f s → HasValues f (after_all s events)
all_values f s [] is allowed stays all = all
all_values f s (e ∷ events) is allowed stays all = all_values f (after s e) events (event_keeps s e is allowed.0) allowed.1 stays.1 (event_values f s e is stays.0 allowed.0 all)
