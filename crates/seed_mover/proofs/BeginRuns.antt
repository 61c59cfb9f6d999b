-- A migration that begins: the unused chunks of both volumes are dropped, and then the beginning is recorded.
use Rattle.std.proofs.Common.{◌≡◌, ◌⊎◌, inl, inr, ⊎_elim, ℕ, ◌≤◌, List, [], ◌∷◌, ◌++◌, Bool, true, false, cond, Option, Some, None, refl, sym, ◌∙◌, ap, subst, arith}
use Rattle.std.specs.Prelude.{Result, Ok, Err, OnOk, not, map as each, if◌then◌else◌}
use Rattle.std.specs.List.{filter}
use Rattle.std.specs.Option.{option_and_then, option_map}
use Rattle.std.specs.Str.{bytes_eq}
use Rattle.std.specs.FinMap as map
use Rattle.std.proofs.lemmas.Bool.{cases_Bool, or_cases, or_right, true≢false}
use Rattle.volume_disk.specs.Disk.{Disk}
use Rattle.site_forms.specs.declared.phase.Phase.{Phase}
use Rattle.site_forms.specs.declared.phase.Phase.TheVariants.{Idle, Moving}
use Rattle.site_forms.specs.JournalRecords.JournalRecord.{BeginRecord}
use Rattle.site_forms.specs.Names.{is_listed, is_name_list}
use Rattle.site_forms.specs.Phases.{phase_after}
use Rattle.site_forms.specs.Sites.{HoldsAllNames, HoldsFile, shape_of}
use Rattle.site_forms.specs.Views.{State}
use Rattle.site_forms.specs.VolumeRecords.VolumeRecord.{DropChunkRecord}
use Rattle.site_forms.specs.Volumes.{Files, Shape, Volume, used}
use Rattle.volume_index.specs.HoldingValues.{orphans}
use Rattle.site_core.proofs.Shapes.{same_held}
use Rattle.site_core.specs.Events.{AllChunksUsed, Append, MayAppend, MayAppendTo, MayBegin, Shapes, after, happens_to}
use Rattle.site_core.specs.Events.Append.{ToJournal}
use Rattle.site_core.specs.Events.Event.{Appends}
use Rattle.site_core.proofs.Lists.{listed_front}
use Rattle.site_core.proofs.Maps.{equal_bytes, held_key}
use Rattle.seed_mover.specs.declared.entries.Side.{Side}
use Rattle.seed_mover.specs.declared.entries.Side.TheVariants.{A, B}
use Rattle.seed_mover.specs.declared.errors.SiteError.{SiteError}
use Rattle.seed_mover.specs.declared.errors.SiteError.TheVariants.{RackFault, Spent, Memory, Exists, NoSuchFile, MigrationOpen, TargetNotEmpty, NothingOpen, NotMoved, Collision, Damage, BadChunk, DeviceFull, VolumeFull}
use Rattle.seed_mover.specs.BeginParts.{DropsAllUnused, ReadiesBegin, RunsBegin, RunsPlan, all_unused}
use Rattle.seed_mover.specs.Entries.{append_to}
use Rattle.seed_mover.specs.Beginning.{Begins, HasNoFile, IsReady, LacksName, begin_plan}
use Rattle.seed_mover.specs.Plans.{AllFit, IsFirstFull, shapes_after, Logs, logs_in}
use Rattle.seed_mover.specs.Running.{IsAfter, IsSameSite}
use Rattle.site_runs.specs.SiteValues.{SiteValue, shapes_in, SiteStands}
use Rattle.seed_mover.specs.Unused.{DropsUnused, KeepsBodies, unused_of}
use Rattle.seed_mover.proofs.Chained.{plan_then, same_after, unused_runs}
use Rattle.seed_mover.proofs.Folded.{folds_state}
use Rattle.seed_mover.proofs.Listed.{all_behind, shapes_behind}
use Rattle.seed_mover.proofs.Orphans.{orphan_may, orphans_rest}
use Rattle.seed_mover.proofs.Same.{same_site}
use Rattle.seed_mover.proofs.UnusedDropped.{drop_happens, drop_shapes, dropped_on, dropped_phase, same_logs, same_shapes, shape_on}

-- NAMES

-- a name that a volume lacks, where it does not hold all
some_cons : (shape : Shape) (name : List ℕ) (names : List (List ℕ)) → LacksName shape names → LacksName shape (name ∷ names)
some_cons shape name names lacks = (lacks.0, or_right (bytes_eq lacks.0 name) (is_listed names lacks.0) lacks.1, lacks.2)

all_cons : (shape : Shape) (name : List ℕ) (names : List (List ℕ)) → HoldsFile shape name → HoldsAllNames shape names → HoldsAllNames shape (name ∷ names)
all_cons shape name names here rest = λ q named. ⊎_elim (λ ties. subst (HoldsFile shape) (sym (equal_bytes q name ties)) here) (λ later. rest q later) (or_cases (bytes_eq q name) (is_listed names q) named)

holds_or_lacks : (shape : Shape) (names : List (List ℕ)) → HoldsAllNames shape names ⊎ LacksName shape names
holds_or_lacks shape [] = inl (λ q named. absurd (true≢false (sym named)))
holds_or_lacks shape (name ∷ names) =
    ⊎_elim (λ here. ⊎_elim (λ rest. inl (all_cons shape name names here rest)) (λ lacks. inr (some_cons shape name names lacks)) (holds_or_lacks shape names))
    (λ lacks. inr (name, listed_front name names, lacks))
    (cases_Bool (map.contains_key shape.files name))

pub lacks_some : (shape : Shape) (names : List (List ℕ)) → (HoldsAllNames shape names → ⊥) → LacksName shape names
lacks_some shape names never = ⊎_elim (λ all. absurd (never all)) (λ lacks. lacks) (holds_or_lacks shape names)

-- NO CHUNK IS LEFT

pub passed : {X Y : Type 0} (f : X → Option Y) (o : Option X) (y : Y) → option_and_then f o ≡ Some y → (x : X) × (o ≡ Some x) × (f x ≡ Some y)
passed f None y is = let no : ⊥ = cc in absurd no
passed f (Some x) y is = (x, refl, is)

abbrev other_of : Side → Side
other_of A = B
other_of B = A

-- what dropping all unused chunks of a side leaves
pub record IsCleared (side : Side) (t u : Shapes) : Type 0 where
  pub none : orphans (shape_on side u) ≡ []
  pub files : (shape_on side u).files ≡ (shape_on side t).files
  pub other : shape_on (other_of side) u ≡ shape_on (other_of side) t
  pub phase : u.phase ≡ t.phase

dropped_other : (side : Side) (t : Shapes) (chunk : List ℕ) → shape_on (other_of side) (drop_shapes side t chunk) ≡ shape_on (other_of side) t
dropped_other A t chunk = refl
dropped_other B t chunk = refl

some_one : {X : Type 0} (x y : X) → Some x ≡ Some y → x ≡ y
some_one x y is = cc

cleared_none : (side : Side) (t u : Shapes) → orphans (shape_on side t) ≡ [] → t ≡ u → IsCleared side t u
cleared_none side t u none same = record {
  none = ap (λ (x : Shapes). orphans (shape_on side x)) (sym same) ∙ none;
  files = ap (λ (x : Shapes). (shape_on side x).files) (sym same);
  other = ap (λ (x : Shapes). shape_on (other_of side) x) (sym same);
  phase = ap (λ (x : Shapes). x.phase) (sym same);
}

cleared : (side : Side) (names : List (List ℕ)) (t u : Shapes) → orphans (shape_on side t) ≡ names → shapes_after t (each (λ chunk. append_to side (DropChunkRecord chunk)) names) ≡ Some u → IsCleared side t u
cleared side [] t u left is = cleared_none side t u left (some_one t u is)
cleared side (chunk ∷ names) t u left is =
    let may = orphan_may (shape_on side t) chunk names left in
    let next = drop_shapes side t chunk in
    let rest = each (λ chunk. append_to side (DropChunkRecord chunk)) names in
    let its =
    cleared side names next u (ap orphans (dropped_on side t chunk) ∙ orphans_rest (shape_on side t) chunk names left)
    (sym (ap (option_and_then (λ (x : Shapes). shapes_after x rest)) (drop_happens side t chunk may)) ∙ is) in
    record {
      none = its.none;
      files = its.files ∙ ap (λ (x : Shape). x.files) (dropped_on side t chunk);
      other = its.other ∙ dropped_other side t chunk;
      phase = its.phase ∙ dropped_phase side t chunk;
    }

-- and dropping those of A and then those of B
pub record AreCleared (v u : SiteValue) : Type 0 where
  pub none_a : orphans u.a.shape ≡ []
  pub none_b : orphans u.b.shape ≡ []
  pub files_a : u.a.shape.files ≡ v.a.shape.files
  pub files_b : u.b.shape.files ≡ v.b.shape.files
  pub phase : u.journal.phase ≡ v.journal.phase

pub same_b : (v u : SiteValue) → IsAfter v u (unused_of A v) → unused_of B u ≡ unused_of B v
same_b v u one = ap (λ (shape : Shape). each (λ chunk. append_to B (DropChunkRecord chunk)) (orphans shape)) (cleared A (orphans v.a.shape) (shapes_in v) (shapes_in u) refl one.shapes).other

pub still_idle : (v u : SiteValue) → IsAfter v u (unused_of A v) → v.journal.phase ≡ Idle → u.journal.phase ≡ Idle
still_idle v u one idle = (cleared A (orphans v.a.shape) (shapes_in v) (shapes_in u) refl one.shapes).phase ∙ idle

pub both_cleared : (v u : SiteValue) → IsAfter v u (all_unused v) → AreCleared v u
both_cleared v u all =
    let its = passed (λ (t : Shapes). shapes_after t (unused_of B v)) (shapes_after (shapes_in v) (unused_of A v)) (shapes_in u) (sym (shapes_behind (shapes_in v) (unused_of A v) (unused_of B v)) ∙ all.shapes) in
    let one = cleared A (orphans v.a.shape) (shapes_in v) its.0 refl its.1 in
    let two = cleared B (orphans v.b.shape) its.0 (shapes_in u) (ap orphans one.other) its.2 in
    record {
      none_a = ap orphans two.other ∙ one.none;
      none_b = two.none;
      files_a = ap (λ (x : Shape). x.files) two.other ∙ one.files;
      files_b = two.files ∙ ap (λ (x : Shape). x.files) one.other;
      phase = two.phase ∙ one.phase;
    }

-- THE BEGINNING MAY BE RECORDED

not_in : (b : Bool) → not b ≡ false → b ≡ true
not_in true is = refl
not_in false is = absurd (true≢false is)

never_empty : {X : Type 0} (x : X) (xs : List X) → x ∷ xs ≡ [] → ⊥
never_empty x xs is = cc

module _ (p : List ℕ → Bool) (x : List ℕ) (xs : List (List ℕ)) (q : List ℕ) where
  none_here : (b : Bool) → p x ≡ b → filter p (x ∷ xs) ≡ [] → (bytes_eq q x ≡ true) ⊎ (is_listed xs q ≡ true) → (filter p xs ≡ [] → is_listed xs q ≡ true → p q ≡ false) → p q ≡ false
  none_here true passes none listed later = absurd (never_empty x (filter p xs) (sym (ap (λ (c : Bool). cond c (x ∷ filter p xs) (filter p xs)) passes) ∙ none))
  none_here false fails none (inl ties) later = ap p (equal_bytes q x ties) ∙ fails
  none_here false fails none (inr rest) later = later (sym (ap (λ (c : Bool). cond c (x ∷ filter p xs) (filter p xs)) fails) ∙ none) rest

none_left : (p : List ℕ → Bool) (xs : List (List ℕ)) (q : List ℕ) → filter p xs ≡ [] → is_listed xs q ≡ true → p q ≡ false
none_left p [] q none listed = absurd (true≢false (sym listed))
none_left p (x ∷ xs) q none listed = none_here p x xs q (p x) refl none (or_cases (bytes_eq q x) (is_listed xs q) listed) (none_left p xs q)

all_used : (shape : Shape) → orphans shape ≡ [] → AllChunksUsed shape
all_used shape none = λ chunk holds. not_in (map.contains_key (used shape.files) chunk) (none_left (λ name. not (map.contains_key (used shape.files) name)) (map.keys shape.chunks) chunk none (held_key shape.chunks chunk holds))

module _ (v u : SiteValue) (names : List (List ℕ)) (ready : IsReady v names) (all : IsAfter v u (all_unused v)) (lawful : is_name_list names ≡ true) where
  its_cleared : AreCleared v u
  its_cleared = both_cleared v u all

  pub now_idle : u.journal.phase ≡ Idle
  now_idle = its_cleared.phase ∙ ready.idle

  begin_kind : MayBegin u.a.shape u.b.shape names
  begin_kind = record {
    used_a = all_used u.a.shape its_cleared.none_a;
    used_b = all_used u.b.shape its_cleared.none_b;
    empty = λ name. ap (λ (f : Files). map.contains_key f name) its_cleared.files_b ∙ ready.empty name;
    held = λ name named. ap (λ (f : Files). map.contains_key f name) its_cleared.files_a ∙ ready.held name named;
  }

  begin_phase : phase_after u.journal.phase (BeginRecord names) ≡ Some (Moving names)
  begin_phase = ap (λ (p : Phase). phase_after p (BeginRecord names)) now_idle ∙ ap (λ (b : Bool). if b then Some (Moving names) else None) lawful

  begin_happens : happens_to (shapes_in u) (ToJournal (BeginRecord names)) ≡ Some (record { a = u.a.shape; b = u.b.shape; phase = Moving names })
  begin_happens = ap (λ (o : Option Phase). option_map (λ (p : Phase). record (shapes_in u) { phase = p }) o) begin_phase

  pub may_begin : MayAppendTo (shapes_in u) (ToJournal (BeginRecord names))
  may_begin = inr (inl (record { idle = now_idle; kind = begin_kind; spelled = tt; next = record { a = u.a.shape; b = u.b.shape; phase = Moving names }; folds = begin_happens }))

  used_of_state : (shape : Shape) (volume : Volume) → shape ≡ shape_of volume → AllChunksUsed shape → AllChunksUsed volume
  used_of_state shape volume is used_all = λ chunk holds. ap (λ (x : Shape). map.contains_key (used x.files) chunk) (sym is) ∙ used_all chunk (ap (λ (x : Shape). map.contains_key x.chunks chunk) is ∙ same_held volume chunk ∙ holds)

  pub may_begin_of : (m : Disk) (s : State) → SiteStands u m s → MayAppend s (ToJournal (BeginRecord names))
  may_begin_of m s stands = inr (inl (record {
    idle = sym stands.phase ∙ now_idle;
    kind = record {
      used_a = used_of_state u.a.shape s.a stands.a.shape begin_kind.used_a;
      used_b = used_of_state u.b.shape s.b stands.b.shape begin_kind.used_b;
      empty = λ name. ap (λ (x : Shape). map.contains_key x.files name) (sym stands.b.shape) ∙ begin_kind.empty name;
      held = λ name named. ap (λ (x : Shape). map.contains_key x.files name) (sym stands.a.shape) ∙ begin_kind.held name named;
    };
    spelled = tt;
    digest = tt;
    next = after s (Appends (ToJournal (BeginRecord names)));
    folds = folds_state u m s (ToJournal (BeginRecord names)) (record { a = u.a.shape; b = u.b.shape; phase = Moving names }) stands begin_happens;
  }))

-- the whole plan
pub begin_whole : (v : SiteValue) (names : List (List ℕ)) → all_unused v ++ ToJournal (BeginRecord names) ∷ [] ≡ begin_plan (shapes_in v) names
begin_whole v names = all_behind (unused_of A v) (unused_of B v) (ToJournal (BeginRecord names) ∷ [])

-- WHAT IS ANSWERED

itself : (v w : SiteValue) → w ≡ v → IsSameSite v w
itself v w is = subst (IsSameSite v) (sym is) (same_site v)

pub refused_same : (v w : SiteValue) (names : List (List ℕ)) (error : SiteError) → ReadiesBegin v w names (Err error) → IsSameSite v w
refused_same v w names Spent readies = itself v w readies.1
refused_same v w names MigrationOpen readies = itself v w readies.2
refused_same v w names TargetNotEmpty readies = itself v w readies.3
refused_same v w names NoSuchFile readies = itself v w readies.4
refused_same v w names Memory readies = readies.1
refused_same v w names RackFault readies = absurd readies
refused_same v w names Exists readies = absurd readies
refused_same v w names NothingOpen readies = absurd readies
refused_same v w names NotMoved readies = absurd readies
refused_same v w names (Collision name) readies = absurd readies
refused_same v w names (Damage device at) readies = absurd readies
refused_same v w names (BadChunk name found) readies = absurd readies
refused_same v w names (DeviceFull device at len) readies = absurd readies
refused_same v w names (VolumeFull what) readies = absurd readies

pub begins_refused : (v w : SiteValue) (names : List (List ℕ)) (error : SiteError) → ReadiesBegin v w names (Err error) → Begins v w names (Err error)
begins_refused v w names Spent readies = readies
begins_refused v w names MigrationOpen readies = readies
begins_refused v w names TargetNotEmpty readies = readies
begins_refused v w names NoSuchFile readies = readies
begins_refused v w names Memory readies = readies
begins_refused v w names RackFault readies = absurd readies
begins_refused v w names Exists readies = absurd readies
begins_refused v w names NothingOpen readies = absurd readies
begins_refused v w names NotMoved readies = absurd readies
begins_refused v w names (Collision name) readies = absurd readies
begins_refused v w names (Damage device at) readies = absurd readies
begins_refused v w names (BadChunk name found) readies = absurd readies
begins_refused v w names (DeviceFull device at len) readies = absurd readies
begins_refused v w names (VolumeFull what) readies = absurd readies

ready_same : (v u : SiteValue) (names : List (List ℕ)) → IsSameSite v u → IsReady v names → IsReady u names
ready_same v u names same ready = record {
  fresh = same.spent ∙ ready.fresh;
  idle = same.journal.phase ∙ ready.idle;
  empty = subst HasNoFile (sym same.b.shape) ready.empty;
  held = subst (λ (x : Shape). HoldsAllNames x names) (sym same.a.shape) ready.held;
}

module _ (v u w : SiteValue) (names : List (List ℕ)) (same : IsSameSite v u) (ready : IsReady v names) where
  pub ready_now : IsReady u names
  ready_now = ready_same v u names same ready

  plan_same : begin_plan (shapes_in u) names ≡ begin_plan (shapes_in v) names
  plan_same = ap (λ (t : Shapes). begin_plan t names) (same_shapes v u same)

  pub begins_run : (result : Result (Unit {0}) SiteError) → RunsBegin u w names result → Begins v w names result
  begins_run (Ok done) runs = (
    ready,
    subst (λ (l : Logs). AllFit l (begin_plan (shapes_in v) names)) (same_logs v u same) (subst (AllFit (logs_in u)) plan_same runs.0),
    subst (IsAfter v w) plan_same (same_after v u w (begin_plan (shapes_in u) names) same runs.1),
  )
  begins_run (Err (DeviceFull device at len)) runs = (
    ready,
    subst (λ (l : Logs). IsFirstFull l (begin_plan (shapes_in v) names) device at len) (same_logs v u same) (subst (λ (p : List Append). IsFirstFull (logs_in u) p device at len) plan_same runs.0),
    record { done = runs.1.done; rest = runs.1.rest; whole = sym plan_same ∙ runs.1.whole; after = same_after v u w runs.1.done same runs.1.after },
  )
  begins_run (Err RackFault) runs = (ready, runs)
  begins_run (Err Memory) runs = absurd runs
  begins_run (Err Spent) runs = absurd runs
  begins_run (Err MigrationOpen) runs = absurd runs
  begins_run (Err TargetNotEmpty) runs = absurd runs
  begins_run (Err NoSuchFile) runs = absurd runs
  begins_run (Err Exists) runs = runs
  begins_run (Err NothingOpen) runs = runs
  begins_run (Err NotMoved) runs = runs
  begins_run (Err (Collision name)) runs = runs
  begins_run (Err (Damage device at)) runs = runs
  begins_run (Err (BadChunk name found)) runs = runs
  begins_run (Err (VolumeFull what)) runs = runs

-- BOTH VOLUMES, ONE AFTER THE OTHER

bodies_then : (v u w : SiteValue) (result : Result (Unit {0}) SiteError) → KeepsBodies v u → DropsUnused B u w result → OnOk result (v.journal.room ≤ w.journal.room)
bodies_then v u w (Ok done) one two = omega (arith, one.journal, two.2.journal)
bodies_then v u w (Err error) one two = tt

pub all_runs : (v u w : SiteValue) (result : Result (Unit {0}) SiteError) → DropsUnused A v u (Ok tt) → DropsUnused B u w result → DropsAllUnused v w result
all_runs v u w result one two = record {
  runs = plan_then v u w (unused_of A v) (unused_of B v) result one.0 one.1 (subst (λ (p : List Append). RunsPlan u w p result) (same_b v u one.1) (unused_runs B u w result two));
  bodies = bodies_then v u w result one.2 two;
}
