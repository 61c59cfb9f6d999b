-- The records of a drop are allowed, one after the other.
use Rattle.std.proofs.Common.{◌≡◌, ℕ, List, [], ◌∷◌, Option, Some, None, refl, sym, ◌∙◌, ap, subst, arith}
use Rattle.std.specs.Prelude.{All, map as each, not, unwrap_or}
use Rattle.std.specs.FinMap as map
use Rattle.std.specs.Option.{option_map}
use Rattle.std.proofs.lemmas.List.Elements.{All-filter}
use Rattle.volume_disk.specs.Disk.{Disk}
use Rattle.site_forms.specs.declared.phase.Phase.TheVariants.{Idle}
use Rattle.site_forms.specs.Views.{State}
use Rattle.site_forms.specs.VolumeRecords.{IsChunkName}
use Rattle.site_forms.specs.VolumeRecords.VolumeRecord.{DropChunkRecord, DropFileRecord}
use Rattle.site_forms.specs.Volumes.{Shape, used, without_file}
use Rattle.volume_index.specs.HoldingValues.{KeepsShape, orphans}
use Rattle.site_core.specs.Events.{Append, AreAllowed, Shapes, after, happens, happens_to, shapes_of}
use Rattle.site_core.specs.Events.Event.{Appends}
use Rattle.site_core.specs.Lasting.{IsFoldedSite, IsKept}
use Rattle.site_core.specs.Plans.{events_of}
use Rattle.site_core.proofs.Folding.{folded_kept, shapes_step}
use Rattle.site_core.proofs.Lasting.{all_keep}
use Rattle.site_runs.specs.SiteValues.{SiteStands, SiteValue, shapes_in}
use Rattle.site_runs.proofs.Settled.{shapes_same}
use Rattle.seed_mover.specs.declared.entries.Side.{Side}
use Rattle.seed_mover.specs.declared.entries.Side.TheVariants.{A, B}
use Rattle.seed_mover.specs.DropParts.{IsHolder, drops_on}
use Rattle.seed_mover.specs.Entries.{append_to, on_side}
use Rattle.seed_mover.proofs.DropRuns.{file_happens, may_drop_file_of, without_on}
use Rattle.seed_mover.proofs.Orphans.{orphan_may, orphans_rest}
use Rattle.seed_mover.proofs.UnusedDropped.{drop_happens, drop_shapes, dropped_on, dropped_phase, shape_on, state_kind}

-- WHAT THE SHAPES TELL OF THE STATE

some_one : {X : Type 0} (x y : X) → Some x ≡ Some y → x ≡ y
some_one x y is = cc

some_map : {X Y : Type 0} (f : X → Y) (o : Option X) (y : Y) (none : X) → option_map f o ≡ Some y → o ≡ Some (unwrap_or o none)
some_map f None y none is = let no : ⊥ = cc in absurd no
some_map f (Some x) y none is = refl

folds_here : (s : State) (x : Append) (next : Shapes) → happens_to (shapes_of s) x ≡ Some next → happens s x ≡ Some (after s (Appends x))
folds_here s x next is = some_map shapes_of (happens s x) next s (sym (shapes_step s x) ∙ is)

next_shapes : (s : State) (x : Append) (next : Shapes) → happens_to (shapes_of s) x ≡ Some next → shapes_of (after s (Appends x)) ≡ next
next_shapes s x next is = some_one (shapes_of (after s (Appends x))) next (ap (option_map shapes_of) (sym (folds_here s x next is)) ∙ sym (shapes_step s x) ∙ is)

-- UNUSED CHUNKS

kept_on : (side : Side) (t : Shapes) → IsKept t → KeepsShape (shape_on side t)
kept_on A t kept = kept.a
kept_on B t kept = kept.b

first_named : (shape : Shape) (chunk : List ℕ) (names : List (List ℕ)) → KeepsShape shape → orphans shape ≡ chunk ∷ names → IsChunkName chunk
first_named shape chunk names keeps is =
    let all : All IsChunkName (orphans shape) = All-filter (λ q. not (map.contains_key (used shape.files) q)) IsChunkName (map.keys shape.chunks) keeps.chunk_names in
    (subst (All IsChunkName) is all) 0 [] (omega arith)

unused_allowed : (side : Side) (names : List (List ℕ)) (s : State) → s.phase ≡ Idle → IsFoldedSite s → orphans (shape_on side (shapes_of s)) ≡ names → AreAllowed s (events_of (each (λ chunk. append_to side (DropChunkRecord chunk)) names))
unused_allowed side [] s idle is left = tt
unused_allowed side (chunk ∷ names) s idle is left =
    let t = shapes_of s in
    let x = append_to side (DropChunkRecord chunk) in
    let named = first_named (shape_on side t) chunk names (kept_on side t (folded_kept s is)) left in
    let next = drop_happens side t chunk (orphan_may (shape_on side t) chunk names left) in
    let may = state_kind side s chunk idle named (folds_here s x (drop_shapes side t chunk) next) in
    let now = next_shapes s x (drop_shapes side t chunk) next in (
      may,
      unused_allowed side names (after s (Appends x)) (ap (λ (u : Shapes). u.phase) now ∙ dropped_phase side t chunk ∙ idle) (all_keep s (events_of (x ∷ [])) is (may, tt))
          (ap (λ (u : Shapes). orphans (shape_on side u)) now ∙ ap orphans (dropped_on side t chunk) ∙ orphans_rest (shape_on side t) chunk names left),
    )

-- A FILE AND ITS CHUNKS

left_on : (side : Side) (v : SiteValue) (name : List ℕ) → orphans (shape_on side (without_on side (shapes_in v) name)) ≡ orphans (without_file (on_side side v).shape name)
left_on A v name = refl
left_on B v name = refl

phase_on : (side : Side) (t : Shapes) (name : List ℕ) → (without_on side t name).phase ≡ t.phase
phase_on A t name = refl
phase_on B t name = refl

pub drop_allowed : (side : Side) (v : SiteValue) (name : List ℕ) (d : Disk) (s : State) → v.journal.phase ≡ Idle → IsHolder side v name → SiteStands v d s → IsFoldedSite s → AreAllowed s (events_of (drops_on side v name))
drop_allowed side v name d s idle holder stands is =
    let x = append_to side (DropFileRecord name) in
    let next = without_on side (shapes_in v) name in
    let may = may_drop_file_of side v name d s idle holder stands in
    let here : happens_to (shapes_of s) x ≡ Some next = subst (λ (t : Shapes). happens_to t x ≡ Some next) (shapes_same v s d stands) (file_happens side v name holder) in
    let now = next_shapes s x next here in (
      may,
      unused_allowed side (orphans (without_file (on_side side v).shape name)) (after s (Appends x)) (ap (λ (u : Shapes). u.phase) now ∙ phase_on side (shapes_in v) name ∙ idle) (all_keep s (events_of (x ∷ [])) is (may, tt))
          (ap (λ (u : Shapes). orphans (shape_on side u)) now ∙ left_on side v name),
    )
