-- The unused chunks of a volume, dropped one after the other.
use Rattle.std.proofs.Common.{◌≡◌, inl, inr, ℕ, ◌≤◌, List, [], ◌∷◌, ◌++◌, Bool, true, Some, None, refl, sym, ◌∙◌, ap, subst, arith}
use Rattle.std.specs.Prelude.{Ok, Err, map as each, slice_get, if◌then◌else◌}
use Rattle.std.specs.Option.{option_and_then, option_map}
use Rattle.volume_disk.specs.Disk.{Disk}
use Rattle.site_forms.specs.declared.phase.Phase.TheVariants.{Idle}
use Rattle.site_forms.specs.Views.{State}
use Rattle.site_forms.specs.VolumeRecords.{IsChunkName}
use Rattle.site_forms.specs.VolumeRecords.VolumeRecord.{DropChunkRecord}
use Rattle.site_forms.specs.Volumes.{Shape, may_drop_chunk, without_chunk}
use Rattle.volume_index.specs.HoldingValues.{orphans}
use Rattle.site_core.specs.Events.{Append, MayAppend, MayAppendTo, Shapes, after, happens, happens_to}
use Rattle.site_core.specs.Events.Event.{Appends}
use Rattle.seed_mover.specs.declared.entries.Side.{Side}
use Rattle.seed_mover.specs.declared.entries.Side.TheVariants.{A, B}
use Rattle.seed_mover.specs.declared.errors.SiteError.{SiteError}
use Rattle.seed_mover.specs.declared.errors.SiteError.TheVariants.{RackFault, Spent, Memory, Exists, NoSuchFile, MigrationOpen, TargetNotEmpty, NothingOpen, NotMoved, Collision, Damage, BadChunk, DeviceFull, VolumeFull}
use Rattle.seed_mover.specs.Entries.{on_side, append_to}
use Rattle.seed_mover.specs.Appending.{AppendsOne, HasRoomIn}
use Rattle.seed_mover.specs.Plans.{AllFit, IsFirstFull, IsFullAt, Logs, logs_in}
use Rattle.seed_mover.specs.Running.{IsAfter, IsSameSite}
use Rattle.site_runs.specs.SiteValues.{SiteValue, shapes_in, SiteStands}
use Rattle.seed_mover.specs.Unused.{DropsUnused, KeepsBodies, unused_of}
use Rattle.seed_mover.proofs.Folded.{folds_state}
use Rattle.seed_mover.proofs.Listed.{after_behind, after_none, all_behind, fit_behind, full_behind, none_behind}
use Rattle.seed_mover.proofs.Orphans.{first_in, none_in, orphan_may, orphans_rest}

-- THE SAME BUT FOR ROOM

pub same_shapes : (v w : SiteValue) → IsSameSite v w → shapes_in w ≡ shapes_in v
same_shapes v w same = λ i. record { a = same.a.shape i; b = same.b.shape i; phase = same.journal.phase i }

pub same_logs : (v w : SiteValue) → IsSameSite v w → logs_in w ≡ logs_in v
same_logs v w same = λ i. record { a = same.a.log i; b = same.b.log i; journal = same.journal.log i }

pub after_same : (v u w : SiteValue) (plan : List Append) → IsAfter v u plan → IsSameSite u w → IsAfter v w plan
after_same v u w plan is same = record {
  shapes = is.shapes ∙ ap Some (sym (same_shapes u w same));
  logs = same_logs u w same ∙ is.logs;
  spent = same.spent ∙ is.spent;
}

-- ONE CHUNK

-- the volume without the chunk
abbrev pub drop_shapes : (side : Side) (t : Shapes) (chunk : List ℕ) → Shapes
drop_shapes A t chunk = record { a = without_chunk t.a chunk; b = t.b; phase = t.phase }
drop_shapes B t chunk = record { a = t.a; b = without_chunk t.b chunk; phase = t.phase }

abbrev pub shape_on : Side → Shapes → Shape
shape_on A t = t.a
shape_on B t = t.b

pub drop_happens : (side : Side) (t : Shapes) (chunk : List ℕ) → may_drop_chunk (shape_on side t) chunk ≡ true → happens_to t (append_to side (DropChunkRecord chunk)) ≡ Some (drop_shapes side t chunk)
drop_happens A t chunk may = ap (λ (b : Bool). option_map (λ (x : Shape). record t { a = x }) (if b then Some (without_chunk t.a chunk) else None)) may
drop_happens B t chunk may = ap (λ (b : Bool). option_map (λ (x : Shape). record t { b = x }) (if b then Some (without_chunk t.b chunk) else None)) may

pub on_shapes : (side : Side) (v : SiteValue) → shape_on side (shapes_in v) ≡ (on_side side v).shape
on_shapes A v = refl
on_shapes B v = refl

pub dropped_on : (side : Side) (t : Shapes) (chunk : List ℕ) → shape_on side (drop_shapes side t chunk) ≡ without_chunk (shape_on side t) chunk
dropped_on A t chunk = refl
dropped_on B t chunk = refl

pub dropped_phase : (side : Side) (t : Shapes) (chunk : List ℕ) → (drop_shapes side t chunk).phase ≡ t.phase
dropped_phase A t chunk = refl
dropped_phase B t chunk = refl

-- it may be dropped where no migration is open
spelled_kind : (side : Side) (t : Shapes) (chunk : List ℕ) → t.phase ≡ Idle → IsChunkName chunk → may_drop_chunk (shape_on side t) chunk ≡ true → MayAppendTo t (append_to side (DropChunkRecord chunk))
spelled_kind A t chunk idle named may = inr (inl (record { idle = idle; kind = tt; spelled = named; next = drop_shapes A t chunk; folds = drop_happens A t chunk may }))
spelled_kind B t chunk idle named may = inr (inl (record { idle = idle; kind = tt; spelled = named; next = drop_shapes B t chunk; folds = drop_happens B t chunk may }))

pub may_drop : (side : Side) (v : SiteValue) (chunk : List ℕ) → v.journal.phase ≡ Idle → IsChunkName chunk → Some chunk ≡ slice_get (orphans (on_side side v).shape) 0 → MayAppendTo (shapes_in v) (append_to side (DropChunkRecord chunk))
may_drop side v chunk idle named is =
    let its = first_in (orphans (on_side side v).shape) chunk is in
    spelled_kind side (shapes_in v) chunk idle named (ap (λ (s : Shape). may_drop_chunk s chunk) (on_shapes side v) ∙ orphan_may (on_side side v).shape chunk its.0 its.1)

pub state_kind : (side : Side) (s : State) (chunk : List ℕ) → s.phase ≡ Idle → IsChunkName chunk → happens s (append_to side (DropChunkRecord chunk)) ≡ Some (after s (Appends (append_to side (DropChunkRecord chunk)))) → MayAppend s (append_to side (DropChunkRecord chunk))
state_kind A s chunk idle named is = inr (inl (record { idle = idle; kind = tt; spelled = named; digest = tt; next = after s (Appends (append_to A (DropChunkRecord chunk))); folds = is }))
state_kind B s chunk idle named is = inr (inl (record { idle = idle; kind = tt; spelled = named; digest = tt; next = after s (Appends (append_to B (DropChunkRecord chunk))); folds = is }))

pub may_drop_state : (side : Side) (v : SiteValue) (chunk : List ℕ) (d : Disk) (s : State) → v.journal.phase ≡ Idle → IsChunkName chunk → Some chunk ≡ slice_get (orphans (on_side side v).shape) 0 → SiteStands v d s → MayAppend s (append_to side (DropChunkRecord chunk))
may_drop_state side v chunk d s idle named is stands =
    let its = first_in (orphans (on_side side v).shape) chunk is in
    let may = ap (λ (x : Shape). may_drop_chunk x chunk) (on_shapes side v) ∙ orphan_may (on_side side v).shape chunk its.0 its.1 in
    state_kind side s chunk (sym stands.phase ∙ idle) named (folds_state v d s (append_to side (DropChunkRecord chunk)) (drop_shapes side (shapes_in v) chunk) stands (drop_happens side (shapes_in v) chunk may))

some_one : {X : Type 0} (x y : X) → Some x ≡ Some y → x ≡ y
some_one x y is = cc

-- what is left of the plan once it is done
pub left_behind : (side : Side) (v w : SiteValue) (chunk : List ℕ) → Some chunk ≡ slice_get (orphans (on_side side v).shape) 0 → IsAfter v w (append_to side (DropChunkRecord chunk) ∷ [])
    → (unused_of side v ≡ append_to side (DropChunkRecord chunk) ∷ unused_of side w) × (w.journal.phase ≡ v.journal.phase)
left_behind side v w chunk is one =
    let its = first_in (orphans (on_side side v).shape) chunk is in
    let t = shapes_in v in
    let may = ap (λ (s : Shape). may_drop_chunk s chunk) (on_shapes side v) ∙ orphan_may (on_side side v).shape chunk its.0 its.1 in
    let now : drop_shapes side t chunk ≡ shapes_in w =
    some_one (drop_shapes side t chunk) (shapes_in w) (sym (ap (option_and_then (λ (u : Shapes). Some u)) (drop_happens side t chunk may)) ∙ one.shapes) in
    let shape : (on_side side w).shape ≡ without_chunk (on_side side v).shape chunk =
    sym (on_shapes side w) ∙ ap (shape_on side) (sym now) ∙ dropped_on side t chunk ∙ ap (λ (s : Shape). without_chunk s chunk) (on_shapes side v) in (
      ap (each (λ (c : List ℕ). append_to side (DropChunkRecord c))) its.1
          ∙ ap (λ (l : List (List ℕ)). append_to side (DropChunkRecord chunk) ∷ each (λ (c : List ℕ). append_to side (DropChunkRecord c)) l) (sym (ap orphans shape ∙ orphans_rest (on_side side v).shape chunk its.0 its.1)),
      ap (λ (u : Shapes). u.phase) (sym now) ∙ dropped_phase side t chunk,
    )

-- SO FAR

-- some chunks are dropped, and the others are left
pub record DroppedSoFar (side : Side) (v u : SiteValue) (done : List Append) : Type 0 where
  pub whole : unused_of side v ≡ done ++ unused_of side u
  pub fit : AllFit (logs_in v) done
  pub after : IsAfter v u done
  pub bodies : KeepsBodies v u
  pub idle : u.journal.phase ≡ Idle

pub so_far_none : (side : Side) (v : SiteValue) → v.journal.phase ≡ Idle → DroppedSoFar side v v []
so_far_none side v idle = record { whole = refl; fit = tt; after = after_none v; bodies = record { a = omega arith; b = omega arith; journal = omega arith }; idle = idle }

bodies_drop : (side : Side) (u w : SiteValue) (chunk : List ℕ) → AppendsOne u w (append_to side (DropChunkRecord chunk)) (Ok tt) → KeepsBodies u w
bodies_drop A u w chunk one = record { a = one.2.0.body; b = one.2.1.body; journal = one.2.2 }
bodies_drop B u w chunk one = record { a = one.2.0.body; b = one.2.1.body; journal = one.2.2 }

bodies_then : (v u w : SiteValue) → KeepsBodies v u → KeepsBodies u w → KeepsBodies v w
bodies_then v u w one two = record { a = omega (arith, one.a, two.a); b = omega (arith, one.b, two.b); journal = omega (arith, one.journal, two.journal) }

module _ (side : Side) (v u w : SiteValue) (done : List Append) (chunk : List ℕ) (so_far : DroppedSoFar side v u done) (is : Some chunk ≡ slice_get (orphans (on_side side u).shape) 0) where
  abbrev its_append : Append
  its_append = append_to side (DropChunkRecord chunk)

  pub rest_left : (rest : List Append) × (unused_of side u ≡ its_append ∷ rest)
  rest_left = let its = first_in (orphans (on_side side u).shape) chunk is in (each (λ (c : List ℕ). append_to side (DropChunkRecord c)) its.0, ap (each (λ (c : List ℕ). append_to side (DropChunkRecord c))) its.1)

  pub here : done ++ its_append ∷ rest_left.0 ≡ unused_of side v
  here = sym (so_far.whole ∙ ap (λ (l : List Append). done ++ l) rest_left.1)

  pub so_far_more : AppendsOne u w its_append (Ok tt) → DroppedSoFar side v w (done ++ its_append ∷ [])
  so_far_more one =
      let left = left_behind side u w chunk is one.1 in
      record {
        whole = so_far.whole ∙ ap (λ (l : List Append). done ++ l) left.0 ∙ sym (all_behind done (its_append ∷ []) (unused_of side w));
        fit = fit_behind (logs_in v) done (its_append ∷ []) so_far.fit (subst (λ (l : Logs). AllFit l (its_append ∷ [])) so_far.after.logs (one.0, tt));
        after = after_behind v u w done (its_append ∷ []) so_far.after one.1;
        bodies = bodies_then v u w so_far.bodies (bodies_drop side u w chunk one);
        idle = left.1 ∙ so_far.idle;
      }

  enough_a : (n : ℕ) → 33 ≤ v.a.room.body → 33 ≤ u.a.room.body
  enough_a n room = omega (arith, room, so_far.bodies.a)

  enough_b : (n : ℕ) → 33 ≤ v.b.room.body → 33 ≤ u.b.room.body
  enough_b n room = omega (arith, room, so_far.bodies.b)

  pub stops : (error : SiteError) → 33 ≤ (on_side side v).room.body → AppendsOne u w its_append (Err error) → DropsUnused side v w (Err error)
  stops RackFault room one = one.1
  stops (DeviceFull device at len) room one = (
    subst (λ (p : List Append). IsFirstFull (logs_in v) p device at len) here
        (full_behind (logs_in v) done (its_append ∷ rest_left.0) device at len so_far.fit (inl (subst (λ (l : Logs). IsFullAt l its_append device at len) so_far.after.logs one.0))),
    record { done = done; rest = unused_of side u; whole = so_far.whole; after = after_same v u w done so_far.after one.1 },
  )
  stops Memory room one = absurd (one.0 (has_room side room))
    where
      has_room : (s : Side) → 33 ≤ (on_side s v).room.body → HasRoomIn u (append_to s (DropChunkRecord chunk))
      has_room A big = record { chunks = omega arith; files = omega arith; body = enough_a 0 big }
      has_room B big = record { chunks = omega arith; files = omega arith; body = enough_b 0 big }
  stops Spent room one = one
  stops Exists room one = one
  stops NoSuchFile room one = one
  stops MigrationOpen room one = one
  stops TargetNotEmpty room one = one
  stops NothingOpen room one = one
  stops NotMoved room one = one
  stops (Collision name) room one = one
  stops (Damage device at) room one = one
  stops (BadChunk name found) room one = one
  stops (VolumeFull what) room one = one

-- all are dropped
pub so_far_all : (side : Side) (v u : SiteValue) (done : List Append) → DroppedSoFar side v u done → None ≡ slice_get (orphans (on_side side u).shape) 0 → unused_of side v ≡ done
so_far_all side v u done so_far none = so_far.whole ∙ ap (λ (l : List (List ℕ)). done ++ each (λ (c : List ℕ). append_to side (DropChunkRecord c)) l) (none_in (orphans (on_side side u).shape) none) ∙ none_behind done

pub all_dropped : (side : Side) (v u : SiteValue) (done : List Append) → DroppedSoFar side v u done → None ≡ slice_get (orphans (on_side side u).shape) 0 → DropsUnused side v u (Ok tt)
all_dropped side v u done so_far none =
    let all = sym (so_far_all side v u done so_far none) in
    (subst (AllFit (logs_in v)) all so_far.fit, subst (IsAfter v u) all so_far.after, so_far.bodies)
