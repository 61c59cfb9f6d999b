-- A file that is dropped from its side, and then the chunks that no file uses.
use Rattle.std.proofs.Common.{◌≡◌, inl, inr, ℕ, ◌+◌, ◌-◌, ◌≤◌, List, [], ◌∷◌, length, Bool, true, false, Option, Some, None, refl, sym, ◌∙◌, ap, subst, arith}
use Rattle.std.specs.Prelude.{Result, Ok, Err, IsErrAnd, is_some, map as each, not, ◌||◌, if◌then◌else◌}
use Rattle.std.specs.Option.{option_and_then, option_map}
use Rattle.std.specs.FinMap as map
use Rattle.std.proofs.lemmas.Bool.{true≢false, and_parts}
use Rattle.volume_disk.specs.Disk.{Disk}
use Rattle.site_forms.specs.declared.phase.Phase.TheVariants.{Idle}
use Rattle.site_forms.specs.Views.{State}
use Rattle.site_forms.specs.VolumeRecords.{VolumeRecord}
use Rattle.site_forms.specs.VolumeRecords.VolumeRecord.{DropChunkRecord, DropFileRecord}
use Rattle.site_forms.specs.Volumes.{Shape, may_drop_chunk, shape_after, used, without_chunk, without_file}
use Rattle.volume_index.specs.HoldingValues.{held_bytes, orphans}
use Rattle.volume_index.proofs.Users.{sum_remove}
use Rattle.site_core.specs.Events.{Append, MayAppend, MayAppendTo, Shapes, after, happens, happens_to}
use Rattle.site_core.specs.Events.Append.{ToA, ToB}
use Rattle.site_core.specs.Events.Event.{Appends}
use Rattle.site_core.proofs.Turning.{if_some, mapped}
use Rattle.seed_mover.specs.declared.entries.Side.{Side}
use Rattle.seed_mover.specs.declared.entries.Side.TheVariants.{A, B}
use Rattle.seed_mover.specs.declared.errors.SiteError.{SiteError}
use Rattle.seed_mover.specs.declared.errors.SiteError.TheVariants.{RackFault, Spent, Memory, Exists, NoSuchFile, MigrationOpen, TargetNotEmpty, NothingOpen, NotMoved, Collision, Damage, BadChunk, DeviceFull, VolumeFull}
use Rattle.seed_mover.specs.Entries.{on_side, append_to}
use Rattle.seed_mover.specs.Appending.{AppendsOne, HasRoomIn}
use Rattle.seed_mover.specs.BeginParts.{RunsPlan}
use Rattle.seed_mover.specs.DropParts.{DropsHeld, IsHolder, IsReadyToDrop, JudgesDrop, JudgesRoom, ReadiesDrop, drops_on}
use Rattle.seed_mover.specs.Dropping.{Drops, IsHeld, MayDrop, drop_plan, drops, site_bytes}
use Rattle.seed_mover.specs.Errors.{refuses}
use Rattle.seed_mover.specs.Plans.{AllFit, IsFirstFull, Logs, logs_in, shapes_after}
use Rattle.seed_mover.specs.Running.{IsAfter, IsSameSite}
use Rattle.site_runs.specs.SiteValues.{SiteValue, shapes_in, SiteStands}
use Rattle.seed_mover.specs.Unused.{unused_of, unused_plan}
use Rattle.seed_mover.proofs.BeginRuns.{passed}
use Rattle.seed_mover.proofs.Chained.{same_after}
use Rattle.seed_mover.proofs.DropRoom.{fit_on, full_on}
use Rattle.seed_mover.proofs.Folded.{folds_state}
use Rattle.seed_mover.proofs.Listed.{full_or_fit}
use Rattle.seed_mover.proofs.Same.{same_site}
use Rattle.seed_mover.proofs.UnusedDropped.{same_logs, same_shapes}

-- THE PLAN

each_each : (f : VolumeRecord → Append) (names : List (List ℕ)) → each f (each DropChunkRecord names) ≡ each (λ name. f (DropChunkRecord name)) names
each_each f [] = refl
each_each f (name ∷ names) = ap (λ (l : List Append). f (DropChunkRecord name) ∷ l) (each_each f names)

pub on_its_side : (side : Side) (v : SiteValue) (name : List ℕ) → each (append_to side) (drops (on_side side v).shape name) ≡ drops_on side v name
on_its_side side v name = ap (λ (l : List Append). append_to side (DropFileRecord name) ∷ l) (each_each (append_to side) (orphans (without_file (on_side side v).shape name)))

pub plan_is : (side : Side) (v : SiteValue) (name : List ℕ) → IsHolder side v name → drop_plan (shapes_in v) name ≡ drops_on side v name
plan_is A v name holder =
    ap (λ (b : Bool). if b then each ToA (drops v.a.shape name) else each ToB (drops v.b.shape name)) holder
    ∙ ap (λ (l : List Append). ToA (DropFileRecord name) ∷ l) (each_each ToA (orphans (without_file v.a.shape name)))
plan_is B v name holder =
    ap (λ (b : Bool). if b then each ToA (drops v.a.shape name) else each ToB (drops v.b.shape name)) holder.0
    ∙ ap (λ (l : List Append). ToB (DropFileRecord name) ∷ l) (each_each ToB (orphans (without_file v.b.shape name)))

-- THE FILE'S RECORD

pub held_on : (side : Side) (v : SiteValue) (name : List ℕ) → IsHolder side v name → map.contains_key (on_side side v).shape.files name ≡ true
held_on A v name holder = holder
held_on B v name holder = holder.1

pub held_by : (side : Side) (v : SiteValue) (name : List ℕ) → IsHolder side v name → IsHeld v name
held_by A v name holder = ap (λ (b : Bool). b || map.contains_key v.b.shape.files name) holder
held_by B v name holder = ap (λ (b : Bool). b || map.contains_key v.b.shape.files name) holder.0 ∙ holder.1

-- the shapes without the file
abbrev pub without_on : Side → Shapes → List ℕ → Shapes
without_on A t name = record { a = without_file t.a name; b = t.b; phase = t.phase }
without_on B t name = record { a = t.a; b = without_file t.b name; phase = t.phase }

pub file_happens : (side : Side) (v : SiteValue) (name : List ℕ) → IsHolder side v name → happens_to (shapes_in v) (append_to side (DropFileRecord name)) ≡ Some (without_on side (shapes_in v) name)
file_happens A v name holder = ap (λ (b : Bool). option_map (λ (x : Shape). record (shapes_in v) { a = x }) (if b then Some (without_file v.a.shape name) else None)) holder
file_happens B v name holder = ap (λ (b : Bool). option_map (λ (x : Shape). record (shapes_in v) { b = x }) (if b then Some (without_file v.b.shape name) else None)) holder.1

pub may_drop_file : (side : Side) (v : SiteValue) (name : List ℕ) → v.journal.phase ≡ Idle → IsHolder side v name → MayAppendTo (shapes_in v) (append_to side (DropFileRecord name))
may_drop_file A v name idle holder = inr (inl (record { idle = idle; kind = tt; spelled = tt; next = without_on A (shapes_in v) name; folds = file_happens A v name holder }))
may_drop_file B v name idle holder = inr (inl (record { idle = idle; kind = tt; spelled = tt; next = without_on B (shapes_in v) name; folds = file_happens B v name holder }))

may_of_state : (side : Side) (s : State) (name : List ℕ) → s.phase ≡ Idle → happens s (append_to side (DropFileRecord name)) ≡ Some (after s (Appends (append_to side (DropFileRecord name)))) → MayAppend s (append_to side (DropFileRecord name))
may_of_state A s name idle is = inr (inl (record { idle = idle; kind = tt; spelled = tt; digest = tt; next = after s (Appends (append_to A (DropFileRecord name))); folds = is }))
may_of_state B s name idle is = inr (inl (record { idle = idle; kind = tt; spelled = tt; digest = tt; next = after s (Appends (append_to B (DropFileRecord name))); folds = is }))

pub may_drop_file_of : (side : Side) (v : SiteValue) (name : List ℕ) (d : Disk) (s : State) → v.journal.phase ≡ Idle → IsHolder side v name → SiteStands v d s → MayAppend s (append_to side (DropFileRecord name))
may_drop_file_of side v name d s idle holder stands =
    may_of_state side s name (sym stands.phase ∙ idle) (folds_state v d s (append_to side (DropFileRecord name)) (without_on side (shapes_in v) name) stands (file_happens side v name holder))

pub room_for_file : (side : Side) (v : SiteValue) (name : List ℕ) → 1 + length name ≤ (on_side side v).room.body → HasRoomIn v (append_to side (DropFileRecord name))
room_for_file A v name room = record { chunks = omega arith; files = omega arith; body = room }
room_for_file B v name room = record { chunks = omega arith; files = omega arith; body = room }

-- once it is added
some_one : {X : Type 0} (x y : X) → Some x ≡ Some y → x ≡ y
some_one x y is = cc

module _ (v u : SiteValue) (name : List ℕ) where
  now_without : (side : Side) → IsHolder side v name → IsAfter v u (append_to side (DropFileRecord name) ∷ []) → without_on side (shapes_in v) name ≡ shapes_in u
  now_without side holder one =
      some_one (without_on side (shapes_in v) name) (shapes_in u) (sym (ap (option_and_then (λ (t : Shapes). Some t)) (file_happens side v name holder)) ∙ one.shapes)

  pub then_unused : (side : Side) → IsHolder side v name → IsAfter v u (append_to side (DropFileRecord name) ∷ []) → drops_on side v name ≡ append_to side (DropFileRecord name) ∷ unused_of side u
  then_unused A holder one = ap (λ (t : Shapes). append_to A (DropFileRecord name) ∷ unused_plan A t.a) (now_without A holder one)
  then_unused B holder one = ap (λ (t : Shapes). append_to B (DropFileRecord name) ∷ unused_plan B t.b) (now_without B holder one)

  pub still_idle : (side : Side) → IsHolder side v name → IsAfter v u (append_to side (DropFileRecord name) ∷ []) → v.journal.phase ≡ Idle → u.journal.phase ≡ Idle
  still_idle A holder one idle = ap (λ (t : Shapes). t.phase) (sym (now_without A holder one)) ∙ idle
  still_idle B holder one idle = ap (λ (t : Shapes). t.phase) (sym (now_without B holder one)) ∙ idle

  pub still_room : (side : Side) → AppendsOne v u (append_to side (DropFileRecord name)) (Ok tt) → 33 ≤ (on_side side v).room.body → 33 ≤ (on_side side u).room.body
  still_room A one room = omega (arith, room, one.2.0.body)
  still_room B one room = omega (arith, room, one.2.1.body)

-- THE BYTES OF THE CHUNKS

-- no more bytes on a side, and nothing else on the other one
abbrev LessOn : Side → Shapes → Shapes → Type 0
LessOn A t u = (held_bytes u.a ≤ held_bytes t.a) × (u.b ≡ t.b)
LessOn B t u = (held_bytes u.b ≤ held_bytes t.b) × (u.a ≡ t.a)

there : {X : Type 0} (o : Option X) → is_some o ≡ true → (x : X) × (o ≡ Some x)
there None is = let no : ⊥ = cc in absurd no
there (Some x) is = (x, refl)

chunk_less : (shape next : Shape) (chunk : List ℕ) → shape_after shape (DropChunkRecord chunk) ≡ Some next → held_bytes next ≤ held_bytes shape
chunk_less shape next chunk is =
    let its = if_some (may_drop_chunk shape chunk) (without_chunk shape chunk) next is in
    let found = there (map.get shape.chunks chunk) (and_parts (map.contains_key shape.chunks chunk) (not (map.contains_key (used shape.files) chunk)) its.0).0 in
    omega (arith, sum_remove (λ (n : ℕ). n) shape.chunks chunk found.0 found.1, ap held_bytes its.1)

file_less : (shape next : Shape) (name : List ℕ) → shape_after shape (DropFileRecord name) ≡ Some next → held_bytes next ≤ held_bytes shape
file_less shape next name is = let its = if_some (map.contains_key shape.files name) (without_file shape name) next is in omega (arith, ap held_bytes its.1)

one_less : (side : Side) (t u : Shapes) (r : VolumeRecord) → ((shape next : Shape) → shape_after shape r ≡ Some next → held_bytes next ≤ held_bytes shape) → happens_to t (append_to side r) ≡ Some u → LessOn side t u
one_less A t u r less is =
    let its = mapped (λ (x : Shape). record t { a = x }) (shape_after t.a r) u is in
    (omega (arith, less t.a its.0 its.1, ap (λ (x : Shapes). held_bytes x.a) its.2), sym (ap (λ (x : Shapes). x.b) its.2))
one_less B t u r less is =
    let its = mapped (λ (x : Shape). record t { b = x }) (shape_after t.b r) u is in
    (omega (arith, less t.b its.0 its.1, ap (λ (x : Shapes). held_bytes x.b) its.2), sym (ap (λ (x : Shapes). x.a) its.2))

less_then : (side : Side) (t u w : Shapes) → LessOn side t u → LessOn side u w → LessOn side t w
less_then A t u w one two = (omega (arith, one.0, two.0), two.1 ∙ one.1)
less_then B t u w one two = (omega (arith, one.0, two.0), two.1 ∙ one.1)

less_none : (side : Side) (t u : Shapes) → Some t ≡ Some u → LessOn side t u
less_none A t u is = let same : t ≡ u = some_one t u is in (omega (arith, ap (λ (x : Shapes). held_bytes x.a) same), sym (ap (λ (x : Shapes). x.b) same))
less_none B t u is = let same : t ≡ u = some_one t u is in (omega (arith, ap (λ (x : Shapes). held_bytes x.b) same), sym (ap (λ (x : Shapes). x.a) same))

chunks_less : (side : Side) (names : List (List ℕ)) (t u : Shapes) → shapes_after t (each (λ name. append_to side (DropChunkRecord name)) names) ≡ Some u → LessOn side t u
chunks_less side [] t u is = less_none side t u is
chunks_less side (name ∷ names) t u is =
    let its = passed (λ (x : Shapes). shapes_after x (each (λ name. append_to side (DropChunkRecord name)) names)) (happens_to t (append_to side (DropChunkRecord name))) u is in
    less_then side t its.0 u (one_less side t its.0 (DropChunkRecord name) (λ shape next. chunk_less shape next name) its.1) (chunks_less side names its.0 u its.2)

drop_less : (side : Side) (v w : SiteValue) (name : List ℕ) → IsAfter v w (drops_on side v name) → LessOn side (shapes_in v) (shapes_in w)
drop_less side v w name after =
    let rest = orphans (without_file (on_side side v).shape name) in
    let its = passed (λ (x : Shapes). shapes_after x (each (λ name. append_to side (DropChunkRecord name)) rest)) (happens_to (shapes_in v) (append_to side (DropFileRecord name))) (shapes_in w) after.shapes in
    less_then side (shapes_in v) its.0 (shapes_in w) (one_less side (shapes_in v) its.0 (DropFileRecord name) (λ shape next. file_less shape next name) its.1) (chunks_less side rest its.0 (shapes_in w) its.2)

bytes_freed : (side : Side) (v w : SiteValue) → LessOn side (shapes_in v) (shapes_in w) → (held_bytes (on_side side w).shape ≤ held_bytes (on_side side v).shape)
    × ((held_bytes (on_side side v).shape - held_bytes (on_side side w).shape) + site_bytes w ≡ site_bytes v)
bytes_freed A v w less = (less.0, omega (arith, less.0, ap held_bytes less.1))
bytes_freed B v w less = (less.0, omega (arith, less.0, ap held_bytes less.1))

pub freed_by : (side : Side) (v w : SiteValue) (name : List ℕ) → IsAfter v w (drops_on side v name)
    → (held_bytes (on_side side w).shape ≤ held_bytes (on_side side v).shape) × ((held_bytes (on_side side v).shape - held_bytes (on_side side w).shape) + site_bytes w ≡ site_bytes v)
freed_by side v w name after = bytes_freed side v w (drop_less side v w name after)

-- JUDGED

-- neither volume holds the file
pub not_held : (v : SiteValue) (name : List ℕ) → map.contains_key v.a.shape.files name ≡ false → map.contains_key v.b.shape.files name ≡ false → ¬ IsHeld v name
not_held v name no_a no_b held = true≢false (sym held ∙ ap (λ (b : Bool). b || map.contains_key v.b.shape.files name) no_a ∙ no_b)

-- no file may be dropped: nothing is done
pub ready_refused : (v : SiteValue) (name : List ℕ) (error : SiteError) → v.spent ≡ false → JudgesDrop v name (Err error) → ReadiesDrop v v name (Err error)
ready_refused v name MigrationOpen fresh judged = (fresh, judged, refl)
ready_refused v name NoSuchFile fresh judged = (fresh, judged.0, judged.1, refl)
ready_refused v name RackFault fresh judged = judged
ready_refused v name Spent fresh judged = absurd judged
ready_refused v name Memory fresh judged = absurd judged
ready_refused v name Exists fresh judged = judged
ready_refused v name TargetNotEmpty fresh judged = judged
ready_refused v name NothingOpen fresh judged = judged
ready_refused v name NotMoved fresh judged = judged
ready_refused v name (Collision chunk) fresh judged = judged
ready_refused v name (Damage device at) fresh judged = judged
ready_refused v name (BadChunk chunk found) fresh judged = judged
ready_refused v name (DeviceFull device at len) fresh judged = absurd judged
ready_refused v name (VolumeFull what) fresh judged = judged

holder_same : (side : Side) (v w : SiteValue) (name : List ℕ) → shapes_in w ≡ shapes_in v → IsHolder side w name → IsHolder side v name
holder_same A v w name same holder = sym (ap (λ (t : Shapes). map.contains_key t.a.files name) same) ∙ holder
holder_same B v w name same holder = (sym (ap (λ (t : Shapes). map.contains_key t.a.files name) same) ∙ holder.0, sym (ap (λ (t : Shapes). map.contains_key t.b.files name) same) ∙ holder.1)

module _ (v w : SiteValue) (name : List ℕ) (same : IsSameSite v w) where
  pub may_still : (side : Side) → IsReadyToDrop w side name → MayDrop v name
  may_still side ready = record {
    fresh = sym same.spent ∙ ready.fresh;
    idle = sym same.journal.phase ∙ ready.idle;
    held = held_by side v name (holder_same side v w name (same_shapes v w same) ready.holder);
  }

  plan_same : (side : Side) → IsReadyToDrop w side name → drop_plan (shapes_in v) name ≡ drops_on side w name
  plan_same side ready = ap (λ (t : Shapes). drop_plan t name) (sym (same_shapes v w same)) ∙ plan_is side w name ready.holder

  bytes_same : site_bytes v ≡ site_bytes w
  bytes_same = ap (λ (t : Shapes). held_bytes t.a + held_bytes t.b) (sym (same_shapes v w same))

  pub drops_done : (x : SiteValue) (side : Side) (result : Result ℕ SiteError) → IsReadyToDrop w side name → DropsHeld side w x name result → Drops v x name result
  drops_done x side (Ok freed) ready drops = (
    may_still side ready,
    subst (λ (l : Logs). AllFit l (drop_plan (shapes_in v) name)) (same_logs v w same) (subst (AllFit (logs_in w)) (sym (plan_same side ready)) ready.fit),
    subst (IsAfter v x) (sym (plan_same side ready)) (same_after v w x (drops_on side w name) same drops.0),
    drops.1 ∙ sym bytes_same,
  )
  drops_done x side (Err RackFault) ready drops = (
    may_still side ready,
    subst (λ (l : Logs). AllFit l (drop_plan (shapes_in v) name)) (same_logs v w same) (subst (AllFit (logs_in w)) (sym (plan_same side ready)) ready.fit),
    drops,
  )
  drops_done x side (Err Spent) ready drops = absurd drops
  drops_done x side (Err Memory) ready drops = absurd drops
  drops_done x side (Err Exists) ready drops = absurd drops
  drops_done x side (Err NoSuchFile) ready drops = absurd drops
  drops_done x side (Err MigrationOpen) ready drops = absurd drops
  drops_done x side (Err TargetNotEmpty) ready drops = absurd drops
  drops_done x side (Err NothingOpen) ready drops = absurd drops
  drops_done x side (Err NotMoved) ready drops = absurd drops
  drops_done x side (Err (Collision chunk)) ready drops = absurd drops
  drops_done x side (Err (Damage device at)) ready drops = absurd drops
  drops_done x side (Err (BadChunk chunk found)) ready drops = absurd drops
  drops_done x side (Err (DeviceFull device at len)) ready drops = absurd drops
  drops_done x side (Err (VolumeFull what)) ready drops = absurd drops

-- what is refused before the first record
pub drops_refused : (v w : SiteValue) (name : List ℕ) (error : SiteError) → ReadiesDrop v w name (Err error) → Drops v w name (Err error)
drops_refused v w name Spent readies = readies
drops_refused v w name MigrationOpen readies = readies
drops_refused v w name NoSuchFile readies = readies
drops_refused v w name Memory readies = readies
drops_refused v w name (DeviceFull device at len) readies =
    let its = readies.1 in
    (readies.0, subst (λ (p : List Append). IsFirstFull (logs_in v) p device at len) (sym (plan_is its.0 v name its.1)) its.2, readies.2)
drops_refused v w name RackFault readies = absurd readies
drops_refused v w name Exists readies = absurd readies
drops_refused v w name TargetNotEmpty readies = absurd readies
drops_refused v w name NothingOpen readies = absurd readies
drops_refused v w name NotMoved readies = absurd readies
drops_refused v w name (Collision chunk) readies = absurd readies
drops_refused v w name (Damage device at) readies = absurd readies
drops_refused v w name (BadChunk chunk found) readies = absurd readies
drops_refused v w name (VolumeFull what) readies = absurd readies

itself : (v w : SiteValue) → w ≡ v → IsSameSite v w
itself v w is = subst (IsSameSite v) (sym is) (same_site v)

pub refused_same : (v w : SiteValue) (name : List ℕ) (error : SiteError) → ReadiesDrop v w name (Err error) → IsSameSite v w
refused_same v w name Spent readies = itself v w readies.1
refused_same v w name MigrationOpen readies = itself v w readies.2
refused_same v w name NoSuchFile readies = itself v w readies.3
refused_same v w name Memory readies = readies.1
refused_same v w name (DeviceFull device at len) readies = readies.2
refused_same v w name RackFault readies = absurd readies
refused_same v w name Exists readies = absurd readies
refused_same v w name TargetNotEmpty readies = absurd readies
refused_same v w name NothingOpen readies = absurd readies
refused_same v w name NotMoved readies = absurd readies
refused_same v w name (Collision chunk) readies = absurd readies
refused_same v w name (Damage device at) readies = absurd readies
refused_same v w name (BadChunk chunk found) readies = absurd readies
refused_same v w name (VolumeFull what) readies = absurd readies

-- room that was judged on the device, for a site that is the same but for room in memory
module _ (v w : SiteValue) (side : Side) (name : List ℕ) (fresh : v.spent ≡ false) (idle : v.journal.phase ≡ Idle) (holder : IsHolder side v name) (same : IsSameSite v w) where
  pub now_holder : IsHolder side w name
  now_holder = holder_same side w v name (sym (same_shapes v w same)) holder

  pub readied : 256 ≤ (on_side side w).room.body → JudgesRoom (on_side side w) name (Ok tt) → ReadiesDrop v w name (Ok side)
  readied room judged = (
    same,
    record {
      fresh = same.spent ∙ fresh;
      idle = same.journal.phase ∙ idle;
      holder = now_holder;
      file_room = omega (arith, room, judged.1);
      chunk_room = omega (arith, room);
      fit = subst (AllFit (logs_in w)) (on_its_side side w name) (fit_on side w (drops (on_side side w).shape name) judged.0);
    },
  )

  its_drop : MayDrop v name
  its_drop = record { fresh = fresh; idle = idle; held = held_by side v name holder }

  plan_now : drops_on side w name ≡ drops_on side v name
  plan_now = sym (plan_is side w name now_holder) ∙ ap (λ (t : Shapes). drop_plan t name) (same_shapes v w same) ∙ plan_is side v name holder

  pub not_readied : (error : SiteError) → JudgesRoom (on_side side w) name (Err error) → ReadiesDrop v w name (Err error)
  not_readied Memory judged = absurd judged
  not_readied (DeviceFull device at len) judged = (
    its_drop,
    (
      side,
      holder,
      subst (λ (l : Logs). IsFirstFull l (drops_on side v name) device at len) (same_logs v w same)
          (subst (λ (p : List Append). IsFirstFull (logs_in w) p device at len) (on_its_side side w name ∙ plan_now) (full_on side w (drops (on_side side w).shape name) device at len judged)),
    ),
    same,
  )
  not_readied RackFault judged = judged
  not_readied Spent judged = absurd judged
  not_readied Exists judged = judged
  not_readied NoSuchFile judged = absurd judged
  not_readied MigrationOpen judged = absurd judged
  not_readied TargetNotEmpty judged = judged
  not_readied NothingOpen judged = judged
  not_readied NotMoved judged = judged
  not_readied (Collision chunk) judged = judged
  not_readied (Damage device at) judged = judged
  not_readied (BadChunk chunk found) judged = judged
  not_readied (VolumeFull what) judged = judged

  pub no_memory : ReadiesDrop v w name (Err Memory)
  no_memory = (its_drop, same)

-- WHAT IS HELD IS DROPPED

-- where there is room for all, nothing but a fault stops it
pub held_refused : (side : Side) (v w : SiteValue) (name : List ℕ) (error : SiteError) → AllFit (logs_in v) (drops_on side v name) → RunsPlan v w (drops_on side v name) (Err error) → DropsHeld side v w name (Err error)
held_refused side v w name RackFault fit runs = runs
held_refused side v w name (DeviceFull device at len) fit runs = full_or_fit (logs_in v) (drops_on side v name) device at len fit runs.0
held_refused side v w name Memory fit runs = runs
held_refused side v w name Spent fit runs = runs
held_refused side v w name Exists fit runs = runs
held_refused side v w name NoSuchFile fit runs = runs
held_refused side v w name MigrationOpen fit runs = runs
held_refused side v w name TargetNotEmpty fit runs = runs
held_refused side v w name NothingOpen fit runs = runs
held_refused side v w name NotMoved fit runs = runs
held_refused side v w name (Collision chunk) fit runs = runs
held_refused side v w name (Damage device at) fit runs = runs
held_refused side v w name (BadChunk chunk found) fit runs = runs
held_refused side v w name (VolumeFull what) fit runs = runs

pub not_refused : (side : Side) (v w : SiteValue) (name : List ℕ) (result : Result ℕ SiteError) → DropsHeld side v w name result → IsErrAnd result refuses → ⊥
not_refused side v w name (Ok freed) drops refused = refused
not_refused side v w name (Err RackFault) drops refused = refused
not_refused side v w name (Err (DeviceFull device at len)) drops refused = drops
not_refused side v w name (Err Memory) drops refused = drops
not_refused side v w name (Err Spent) drops refused = drops
not_refused side v w name (Err Exists) drops refused = drops
not_refused side v w name (Err NoSuchFile) drops refused = drops
not_refused side v w name (Err MigrationOpen) drops refused = drops
not_refused side v w name (Err TargetNotEmpty) drops refused = drops
not_refused side v w name (Err NothingOpen) drops refused = drops
not_refused side v w name (Err NotMoved) drops refused = drops
not_refused side v w name (Err (Collision chunk)) drops refused = drops
not_refused side v w name (Err (Damage device at)) drops refused = drops
not_refused side v w name (Err (BadChunk chunk found)) drops refused = drops
not_refused side v w name (Err (VolumeFull what)) drops refused = drops
