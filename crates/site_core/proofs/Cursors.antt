-- Cursors over the actions of a migration.
use Rattle.std.proofs.Common.{◌≡◌, ◌⊎◌, inl, inr, ⊎_elim, ℕ, List, [], length, get_or, true, Option, Some, sym, ◌∙◌, ap, subst, arith}
use Rattle.std.specs.Prelude.{is_some, unwrap_or}
use Rattle.std.specs.FinMap as map
use Rattle.std.proofs.lemmas.Bool.{true≢false}
use Rattle.site_forms.specs.declared.phase.Phase.{Phase}
use Rattle.site_forms.specs.declared.phase.Phase.TheVariants.{Idle, Moving, Moved, Undoing}
use Rattle.site_forms.specs.JournalRecords.JournalRecord.{MovedRecord, UndoneRecord}
use Rattle.site_forms.specs.Names.{is_listed}
use Rattle.site_forms.specs.Phases.{phase_after}
use Rattle.site_forms.specs.Sites.{HoldsFile, HoldsChunk}
use Rattle.site_forms.specs.VolumeRecords.VolumeRecord.{ChunkRecord, FileRecord, DropFileRecord, DropChunkRecord}
use Rattle.site_forms.specs.Volumes.{Shape, may_add_file, may_drop_chunk, shape_after, with_chunk, with_file, without_file, without_chunk}
use Rattle.volume_index.proofs.Alls.{still_held}
use Rattle.site_core.specs.declared.action.Action.{Action}
use Rattle.site_core.specs.declared.cursor.Cursor.{Cursor}
use Rattle.site_core.specs.declared.step.Step.{Step}
use Rattle.site_core.specs.declared.step.Step.TheVariants.{Copy, Add, Drop, DropChunk, Finish}
use Rattle.site_core.specs.Cursors.{HoldsBefore, IsCursor, IsCursorOf}
use Rattle.site_core.specs.Events.{Shapes, happens_to, append_with}
use Rattle.site_core.specs.Steps.{list_of, next_step, next_of, forth, back}
use Rattle.site_core.proofs.Maps.{name_cases, get_gone, get_left}
use Rattle.site_core.proofs.Turning.{if_some, if_none, mapped}

module _ (source target : Shape) (names : List (List ℕ)) (c : Cursor) (is : IsCursor source target names c) where
  -- a target that holds no less
  grown : (more : Shape) → ((q : List ℕ) → HoldsChunk target q → HoldsChunk more q) → ((q : List ℕ) → HoldsFile target q → HoldsFile more q) → IsCursor source more names c
  grown more chunks files = record {
    copied = record {
      within = is.copied.within;
      files = λ i less. ⊎_elim (λ held. inl (files (get_or names i []) held)) (λ all. inr (λ chunk listed. chunks chunk (all chunk listed))) (is.copied.files i less);
      chunks = λ j less inside. chunks (get_or (list_of source (get_or names c.name [])) j []) (is.copied.chunks j less inside);
    };
    added_within = is.added_within;
    added = λ i less. files (get_or names i []) (is.added i less);
    dropped_within = is.dropped_within;
    dropped = is.dropped;
  }

  pub with_copy : (chunk : List ℕ) (len : ℕ) → IsCursor source (with_chunk target chunk len) names c
  with_copy chunk len = grown (with_chunk target chunk len) (still_held target.chunks chunk len) (λ q held. held)

  pub with_added : (name : List ℕ) (list : List (List ℕ)) → IsCursor source (with_file target name list) names c
  with_added name list = grown (with_file target name list) (λ q held. held) (still_held target.files name list)

  -- a source without a file
  fewer : (name q : List ℕ) → (list_of (without_file source name) q ≡ list_of source q) ⊎ (list_of (without_file source name) q ≡ [])
  fewer name q = ⊎_elim
      (λ same. inr (ap (λ (o : Option (List (List ℕ))). unwrap_or o []) (ap (map.get (map.remove source.files name)) same ∙ get_gone source.files name)))
      (λ other. inl (ap (λ (o : Option (List (List ℕ))). unwrap_or o []) (get_left source.files name q other)))
      (name_cases q name)

  none_listed : (l : List (List ℕ)) (q : List ℕ) → l ≡ [] → is_listed l q ≡ true → ⊥
  none_listed l q none listed = true≢false (sym listed ∙ ap (λ (x : List (List ℕ)). is_listed x q) none)

  pub with_dropped : (name : List ℕ) → IsCursor (without_file source name) target names c
  with_dropped name = record {
    copied = record {
      within = is.copied.within;
      files = λ i less. ⊎_elim
          (λ held. inl held)
          (λ all. inr (λ chunk listed. ⊎_elim
          (λ same. all chunk (subst (λ (l : List (List ℕ)). is_listed l chunk ≡ true) same listed))
          (λ none. absurd (none_listed (list_of (without_file source name) (get_or names i [])) chunk none listed))
          (fewer name (get_or names i []))))
          (is.copied.files i less);
      chunks = ⊎_elim
          (λ same. subst (λ (l : List (List ℕ)). HoldsBefore target l c.chunk) (sym same) is.copied.chunks)
          (λ none. subst (λ (l : List (List ℕ)). HoldsBefore target l c.chunk) (sym none) (λ j less inside. absurd (omega (arith, inside))))
          (fewer name (get_or names c.name []));
    };
    added_within = is.added_within;
    added = is.added;
    dropped_within = is.dropped_within;
    dropped = λ i less. ⊎_elim
        (λ same. ap is_some (ap (map.get (map.remove source.files name)) same ∙ get_gone source.files name))
        (λ other. ap is_some (get_left source.files name (get_or names i []) other) ∙ is.dropped i less)
        (name_cases (get_or names i []) name);
  }

  pub with_chunk_dropped : (chunk : List ℕ) → IsCursor (without_chunk source chunk) target names c
  with_chunk_dropped chunk = record { copied = record { within = is.copied.within; files = is.copied.files; chunks = is.copied.chunks }; added_within = is.added_within; added = is.added; dropped_within = is.dropped_within; dropped = is.dropped }

-- AN ACTION LATER

forth_cursor : (a b : Shape) (names : List (List ℕ)) (c : Cursor) (bytes : List ℕ) (step : Step) (next : Shapes) → IsCursor a b names c → happens_to (record { a = a; b = b; phase = Moving names }) (append_with a b (Moving names) bytes (forth step)) ≡ Some next
    → IsCursorOf next.a next.b next.phase c
forth_cursor a b names c bytes (Copy chunk) next is folds =
    let its = mapped (λ (v : Shape). record { a = a; b = v; phase = Moving names }) (shape_after b (ChunkRecord chunk bytes)) next folds in
    let after = if_none (map.contains_key b.chunks chunk) (with_chunk b chunk (length bytes)) its.0 its.1 in
    subst (λ (t : Shapes). IsCursorOf t.a t.b t.phase c) its.2 (subst (λ (v : Shape). IsCursor a v names c) after.1 (with_copy a b names c is chunk (length bytes)))
forth_cursor a b names c bytes (Add place) next is folds =
    let name = get_or names place [] in
    let its = mapped (λ (v : Shape). record { a = a; b = v; phase = Moving names }) (shape_after b (FileRecord name (list_of a name))) next folds in
    let after = if_some (may_add_file (λ n. n) 0 b name (list_of a name)) (with_file b name (list_of a name)) its.0 its.1 in
    subst (λ (t : Shapes). IsCursorOf t.a t.b t.phase c) its.2 (subst (λ (v : Shape). IsCursor a v names c) after.1 (with_added a b names c is name (list_of a name)))
forth_cursor a b names c bytes (Drop place) next is folds =
    let name = get_or names place [] in
    let its = mapped (λ (v : Shape). record { a = v; b = b; phase = Moving names }) (shape_after a (DropFileRecord name)) next folds in
    let after = if_some (map.contains_key a.files name) (without_file a name) its.0 its.1 in
    subst (λ (t : Shapes). IsCursorOf t.a t.b t.phase c) its.2 (subst (λ (v : Shape). IsCursor v b names c) after.1 (with_dropped a b names c is name))
forth_cursor a b names c bytes (DropChunk chunk) next is folds =
    let its = mapped (λ (v : Shape). record { a = v; b = b; phase = Moving names }) (shape_after a (DropChunkRecord chunk)) next folds in
    let after = if_some (may_drop_chunk a chunk) (without_chunk a chunk) its.0 its.1 in
    subst (λ (t : Shapes). IsCursorOf t.a t.b t.phase c) its.2 (subst (λ (v : Shape). IsCursor v b names c) after.1 (with_chunk_dropped a b names c is chunk))
forth_cursor a b names c bytes Finish next is folds =
    let its = mapped (λ (p : Phase). record { a = a; b = b; phase = p }) (phase_after (Moving names) MovedRecord) next folds in
    let same : Moved names ≡ its.0 = (let both : Some (Moved names) ≡ Some its.0 = its.1 in cc) in
    subst (λ (t : Shapes). IsCursorOf t.a t.b t.phase c) its.2 (subst (λ (p : Phase). IsCursorOf a b p c) same tt)

back_cursor : (a b : Shape) (names : List (List ℕ)) (c : Cursor) (bytes : List ℕ) (step : Step) (next : Shapes) → IsCursor b a names c → happens_to (record { a = a; b = b; phase = Undoing names }) (append_with a b (Undoing names) bytes (back step)) ≡ Some next
    → IsCursorOf next.a next.b next.phase c
back_cursor a b names c bytes (Copy chunk) next is folds =
    let its = mapped (λ (v : Shape). record { a = v; b = b; phase = Undoing names }) (shape_after a (ChunkRecord chunk bytes)) next folds in
    let after = if_none (map.contains_key a.chunks chunk) (with_chunk a chunk (length bytes)) its.0 its.1 in
    subst (λ (t : Shapes). IsCursorOf t.a t.b t.phase c) its.2 (subst (λ (v : Shape). IsCursor b v names c) after.1 (with_copy b a names c is chunk (length bytes)))
back_cursor a b names c bytes (Add place) next is folds =
    let name = get_or names place [] in
    let its = mapped (λ (v : Shape). record { a = v; b = b; phase = Undoing names }) (shape_after a (FileRecord name (list_of b name))) next folds in
    let after = if_some (may_add_file (λ n. n) 0 a name (list_of b name)) (with_file a name (list_of b name)) its.0 its.1 in
    subst (λ (t : Shapes). IsCursorOf t.a t.b t.phase c) its.2 (subst (λ (v : Shape). IsCursor b v names c) after.1 (with_added b a names c is name (list_of b name)))
back_cursor a b names c bytes (Drop place) next is folds =
    let name = get_or names place [] in
    let its = mapped (λ (v : Shape). record { a = a; b = v; phase = Undoing names }) (shape_after b (DropFileRecord name)) next folds in
    let after = if_some (map.contains_key b.files name) (without_file b name) its.0 its.1 in
    subst (λ (t : Shapes). IsCursorOf t.a t.b t.phase c) its.2 (subst (λ (v : Shape). IsCursor v a names c) after.1 (with_dropped b a names c is name))
back_cursor a b names c bytes (DropChunk chunk) next is folds =
    let its = mapped (λ (v : Shape). record { a = a; b = v; phase = Undoing names }) (shape_after b (DropChunkRecord chunk)) next folds in
    let after = if_some (may_drop_chunk b chunk) (without_chunk b chunk) its.0 its.1 in
    subst (λ (t : Shapes). IsCursorOf t.a t.b t.phase c) its.2 (subst (λ (v : Shape). IsCursor v a names c) after.1 (with_chunk_dropped b a names c is chunk))
back_cursor a b names c bytes Finish next is folds =
    let its = mapped (λ (p : Phase). record { a = a; b = b; phase = p }) (phase_after (Undoing names) UndoneRecord) next folds in
    let same : Idle ≡ its.0 = (let both : Some Idle ≡ Some its.0 = its.1 in cc) in
    subst (λ (t : Shapes). IsCursorOf t.a t.b t.phase c) its.2 (subst (λ (p : Phase). IsCursorOf a b p c) same tt)

pub cursor_stays : (t next : Shapes) (c : Cursor) (action : Action) (bytes : List ℕ) → next_of t.a t.b t.phase ≡ Some action → happens_to t (append_with t.a t.b t.phase bytes action) ≡ Some next → IsCursorOf t.a t.b t.phase c → IsCursorOf next.a next.b next.phase c
cursor_stays t next c action bytes = by_phase t.phase
  where
    by_phase : (p : Phase) → next_of t.a t.b p ≡ Some action → happens_to (record { a = t.a; b = t.b; phase = p }) (append_with t.a t.b p bytes action) ≡ Some next → IsCursorOf t.a t.b p c → IsCursorOf next.a next.b next.phase c
    by_phase Idle is folds cursor = let no : ⊥ = cc in absurd no
    by_phase (Moving names) is folds cursor =
        let same : action ≡ forth (next_step t.a t.b names) = cc in
        forth_cursor t.a t.b names c bytes (next_step t.a t.b names) next cursor (ap (λ (x : Action). happens_to (record { a = t.a; b = t.b; phase = Moving names }) (append_with t.a t.b (Moving names) bytes x)) (sym same) ∙ folds)
    by_phase (Moved names) is folds cursor = let no : ⊥ = cc in absurd no
    by_phase (Undoing names) is folds cursor =
        let same : action ≡ back (next_step t.b t.a names) = cc in
        back_cursor t.a t.b names c bytes (next_step t.b t.a names) next cursor (ap (λ (x : Action). happens_to (record { a = t.a; b = t.b; phase = Undoing names }) (append_with t.a t.b (Undoing names) bytes x)) (sym same) ∙ folds)
