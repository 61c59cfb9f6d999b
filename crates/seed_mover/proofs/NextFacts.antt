-- What the next action tells, on either side.
use Rattle.std.proofs.Common.{◌≡◌, ◌⊎◌, inl, inr, ⊎_elim, ℕ, zero, suc, ◌<◌, List, [], ◌∷◌, length, Bool, true, false, Some, None, refl, sym, ◌∙◌, ap, arith}
use Rattle.std.specs.Prelude.{IsSome, slice_index_or, if◌then◌else◌}
use Rattle.std.specs.FinMap as map
use Rattle.std.proofs.lemmas.Bool.{true≢false}
use Rattle.site_forms.specs.declared.phase.Phase.{Phase}
use Rattle.site_forms.specs.Phases.{names_of}
use Rattle.site_forms.specs.Sites.{HoldsChunk, shape_of}
use Rattle.site_forms.specs.Views.{State}
use Rattle.site_forms.specs.VolumeRecords.VolumeRecord.{ChunkRecord, FileRecord, DropFileRecord, DropChunkRecord}
use Rattle.site_forms.specs.Volumes.{Shape, shape_after, without_file}
use Rattle.file_names.specs.FileNames.{IsFileName}
use Rattle.volume_index.specs.HoldingValues.{KeepsShape}
use Rattle.volume_index.proofs.Alls.{key_has}
use Rattle.site_core.specs.declared.action.Action.{Action}
use Rattle.site_core.specs.declared.action.Action.TheVariants.{CopyToB, AddToB, DropFromA, DropChunkA, Moved as RecordMoved, CopyToA, AddToA, DropFromB, DropChunkB, Undone}
use Rattle.site_core.specs.Events.{Append, CopiesChunk, Shapes, append_with, happens_to, named}
use Rattle.site_core.specs.Lasting.{IsKept}
use Rattle.site_core.specs.Steps.{list_of}
use Rattle.site_core.proofs.Acting.{next_acted}
use Rattle.site_core.proofs.Values.{copied_from_a, copied_from_b}
use Rattle.seed_mover.specs.declared.entries.Side.{Side}
use Rattle.seed_mover.specs.declared.entries.Side.TheVariants.{A, B}
use Rattle.seed_mover.specs.Acting.{IsNext, add_to, copy_to, drop_chunk_from, drop_from, source_of}
use Rattle.seed_mover.specs.Entries.{append_to}
use Rattle.site_runs.specs.SiteValues.{SiteValue, shapes_in}
use Rattle.seed_mover.proofs.Folded.{shape_folds}
use Rattle.seed_mover.proofs.Noted.{file_lawful}

-- FILES BY THEIR PLACE

-- a place inside a list, or nothing there
inside_or_nothing : (names : List (List ℕ)) (place : ℕ) → (place < length names) ⊎ (slice_index_or names place [] ≡ [])
inside_or_nothing [] place = inr refl
inside_or_nothing (name ∷ names) zero = inl (omega arith)
inside_or_nothing (name ∷ names) (suc place) = ⊎_elim (λ (inside : place < length names). inl (omega (arith, inside))) (λ nothing. inr nothing) (inside_or_nothing names place)

no_name : (name : List ℕ) → IsFileName name → name ≡ [] → ⊥
no_name name lawful is = omega (arith, lawful.some, ap length is)

-- what has a lawful name stands inside
lawful_inside : (phase : Phase) (place : ℕ) → IsFileName (named phase place) → place < length (names_of phase)
lawful_inside phase place lawful = ⊎_elim (λ inside. inside) (λ nothing. absurd (no_name (named phase place) lawful nothing)) (inside_or_nothing (names_of phase) place)

-- the next action folds
action_folds : (v : SiteValue) (action : Action) → IsKept (shapes_in v) → IsNext v action → CopiesChunk action [] → (next : Shapes) × (happens_to (shapes_in v) (append_with v.a.shape v.b.shape v.journal.phase [] action) ≡ Some next)
action_folds v action kept is copies = let its = next_acted v.a.shape v.b.shape v.journal.phase [] action kept is copies in (its.next, its.folds)

file_named : (shape : Shape) (name : List ℕ) → KeepsShape shape → IsSome (shape_after shape (DropFileRecord name)) → IsFileName name
file_named shape name keeps folds = key_has shape.files IsFileName keeps.names name (held_by (map.contains_key shape.files name) (without_file shape name) folds)
  where
    held_by : (held : Bool) (next : Shape) → IsSome (if held then Some next else None) → held ≡ true
    held_by true next is = refl
    held_by false next is = absurd (true≢false (sym is))

pub add_inside : (v : SiteValue) (side : Side) (place : ℕ) → IsKept (shapes_in v) → IsNext v (add_to side place) → place < length (names_of v.journal.phase)
add_inside v A place kept is =
    let its = action_folds v (add_to A place) kept is tt in
    let name = named v.journal.phase place in
    lawful_inside v.journal.phase place (file_lawful v.a.shape name (list_of v.b.shape name) (shape_folds v.a.shape (FileRecord name (list_of v.b.shape name)) its.0 (λ (x : Shape). record (shapes_in v) { a = x }) its.1))
add_inside v B place kept is =
    let its = action_folds v (add_to B place) kept is tt in
    let name = named v.journal.phase place in
    lawful_inside v.journal.phase place (file_lawful v.b.shape name (list_of v.a.shape name) (shape_folds v.b.shape (FileRecord name (list_of v.a.shape name)) its.0 (λ (x : Shape). record (shapes_in v) { b = x }) its.1))

pub drop_inside : (v : SiteValue) (side : Side) (place : ℕ) → IsKept (shapes_in v) → IsNext v (drop_from side place) → place < length (names_of v.journal.phase)
drop_inside v A place kept is =
    let its = action_folds v (drop_from A place) kept is tt in
    let name = named v.journal.phase place in
    lawful_inside v.journal.phase place (file_named v.a.shape name kept.a (shape_folds v.a.shape (DropFileRecord name) its.0 (λ (x : Shape). record (shapes_in v) { a = x }) its.1))
drop_inside v B place kept is =
    let its = action_folds v (drop_from B place) kept is tt in
    let name = named v.journal.phase place in
    lawful_inside v.journal.phase place (file_named v.b.shape name kept.b (shape_folds v.b.shape (DropFileRecord name) its.0 (λ (x : Shape). record (shapes_in v) { b = x }) its.1))

-- the chunk that is copied is held by the source
pub copied_held : (v : SiteValue) (side : Side) (chunk : List ℕ) → IsKept (shapes_in v) → IsNext v (copy_to side chunk) → HoldsChunk (source_of side v).shape chunk
copied_held v A chunk kept is = copied_from_b v.a.shape v.b.shape v.journal.phase chunk kept.b is
copied_held v B chunk kept is = copied_from_a v.a.shape v.b.shape v.journal.phase chunk kept.a is

-- THE APPEND OF AN ACTION

module _ (v : SiteValue) where
  abbrev pub appends : List ℕ → Action → Append
  appends bytes action = append_with v.a.shape v.b.shape v.journal.phase bytes action

  pub copy_append : (side : Side) (chunk bytes : List ℕ) → append_to side (ChunkRecord chunk bytes) ≡ appends bytes (copy_to side chunk)
  copy_append A chunk bytes = refl
  copy_append B chunk bytes = refl

  pub add_append : (side : Side) (place : ℕ) → append_to side (FileRecord (named v.journal.phase place) (list_of (source_of side v).shape (named v.journal.phase place))) ≡ appends [] (add_to side place)
  add_append A place = refl
  add_append B place = refl

  -- the record of a file by its own name and list
  pub added_is : (side : Side) (place : ℕ) (name text : List ℕ) (list : List (List ℕ)) (shape : Shape) → name ≡ named v.journal.phase place → text ≡ name → shape ≡ (source_of side v).shape → list ≡ list_of shape text
      → append_to side (FileRecord name list) ≡ appends [] (add_to side place)
  added_is side place name text list shape named_is text_is shape_is list_is =
      let found : list ≡ list_of (source_of side v).shape (named v.journal.phase place) = list_is ∙ (λ i. list_of (shape_is i) ((text_is ∙ named_is) i)) in
      (λ i. append_to side (FileRecord (named_is i) (found i))) ∙ add_append side place

  pub drop_append : (side : Side) (place : ℕ) → append_to side (DropFileRecord (named v.journal.phase place)) ≡ appends [] (drop_from side place)
  drop_append A place = refl
  drop_append B place = refl

  pub dropped_is : (side : Side) (place : ℕ) (text name : List ℕ) → text ≡ name → name ≡ named v.journal.phase place → append_to side (DropFileRecord text) ≡ appends [] (drop_from side place)
  dropped_is side place text name text_is named_is = ap (λ (n : List ℕ). append_to side (DropFileRecord n)) (text_is ∙ named_is) ∙ drop_append side place

  pub drop_chunk_append : (side : Side) (chunk : List ℕ) → append_to side (DropChunkRecord chunk) ≡ appends [] (drop_chunk_from side chunk)
  drop_chunk_append A chunk = refl
  drop_chunk_append B chunk = refl

-- the shapes of a state do for its files
pub append_told : (s : State) (bytes : List ℕ) (action : Action) → append_with (shape_of s.a) (shape_of s.b) s.phase bytes action ≡ append_with s.a s.b s.phase bytes action
append_told s bytes (CopyToB chunk) = refl
append_told s bytes (AddToB place) = refl
append_told s bytes (DropFromA place) = refl
append_told s bytes (DropChunkA chunk) = refl
append_told s bytes RecordMoved = refl
append_told s bytes (CopyToA chunk) = refl
append_told s bytes (AddToA place) = refl
append_told s bytes (DropFromB place) = refl
append_told s bytes (DropChunkB chunk) = refl
append_told s bytes Undone = refl
