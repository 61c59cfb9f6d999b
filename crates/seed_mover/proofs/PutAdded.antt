-- The record of a file that is put, behind its chunks.
use Rattle.std.proofs.Common.{◌≡◌, inl, inr, ℕ, ◌≤◌, List, [], ◌∷◌, ◌++◌, length, Bool, true, false, cond, Some, None, refl, sym, ◌∙◌, ap, subst, arith}
use Rattle.std.specs.Prelude.{Result, Ok, Err, All, map as each, ◌||◌, if◌then◌else◌, slice_index_or}
use Rattle.std.specs.Option.{option_and_then, option_map}
use Rattle.std.specs.FinMap as map
use Rattle.std.proofs.lemmas.Bool.{false_from_ne_true}
use Rattle.std.proofs.lemmas.List.{length-map}
use Rattle.std.proofs.lemmas.List.Elements.{All-head, All-map, All-tail}
use Rattle.sha2.specs.Sha256.{sha256}
use Rattle.sha2.proofs.Facts256.{length-sha256}
use Rattle.file_names.specs.FileNames.{IsFileName}
use Rattle.volume_disk.specs.Disk.{Disk, Images}
use Rattle.site_forms.specs.declared.phase.Phase.TheVariants.{Idle}
use Rattle.site_forms.specs.Sites.{shape_of}
use Rattle.site_core.proofs.Shapes.{same_held}
use Rattle.site_forms.specs.Names.{is_listed}
use Rattle.site_forms.specs.Views.{State}
use Rattle.site_forms.specs.VolumeRecords.{IsChunk, IsChunkName}
use Rattle.site_forms.specs.VolumeRecords.VolumeRecord.{ChunkRecord, FileRecord}
use Rattle.site_forms.specs.Volumes.{Files, Shape, Volume, chunk_or, holds_all, keeps_limits, may_add_file, with_chunk, with_file}
use Rattle.chunk_volume.proofs.Puts.{may_put}
use Rattle.site_core.specs.Events.{Append, AreAllowed, MayAppend, MayAppendTo, Shapes, after, happens_to, shapes_of}
use Rattle.site_core.specs.Events.Append.{ToA}
use Rattle.site_core.specs.Events.Event.{Appends}
use Rattle.site_core.proofs.Keeping.{all_pass}
use Rattle.site_core.proofs.Maps.{some_same}
use Rattle.seed_mover.specs.declared.errors.SiteError.{SiteError}
use Rattle.seed_mover.specs.declared.errors.SiteError.TheVariants.{RackFault, Spent, Memory, Exists, NoSuchFile, MigrationOpen, TargetNotEmpty, NothingOpen, NotMoved, Collision, Damage, BadChunk, DeviceFull, VolumeFull}
use Rattle.site_core.specs.Plans.{after_plan, events_of}
use Rattle.site_runs.specs.Runs.{AddsTo}
use Rattle.site_runs.specs.SiteValues.{SiteStands, SiteValue, shapes_in}
use Rattle.site_runs.proofs.Runs.{allowed_snoc}
use Rattle.site_runs.proofs.Settled.{shapes_same}
use Rattle.seed_mover.specs.Appending.{AppendsOne}
use Rattle.seed_mover.specs.Errors.{refuses}
use Rattle.seed_mover.specs.Plans.{AllFit, IsTooFullFor, Logs, logs_after, logs_in, logs_with, shapes_after}
use Rattle.seed_mover.specs.PutParts.{AddsAll, AddsChunks, HasRoomToPut, chunk_append, chunk_plan}
use Rattle.seed_mover.specs.Dropping.{IsHeld}
use Rattle.seed_mover.specs.Putting.{IsWithin, MayPut, files_with, length_with, new_chunks, put_plan, with_blocks}
use Rattle.seed_mover.specs.Running.{IsAfter}
use Rattle.seed_mover.specs.Through.{RunsThrough, RunsTo, StopsIn}
use Rattle.seed_mover.proofs.Through.{more_to, stops_at, stops_longer}
use Rattle.seed_mover.proofs.Folded.{folds_state, folds_told}
use Rattle.seed_mover.proofs.Listed.{after_behind}
use Rattle.seed_mover.proofs.PutPlans.{chunk_happens}
use Rattle.seed_mover.proofs.PutShapes.{all_held, same_files, within_limits}
use Rattle.seed_mover.proofs.PutShown.{after_chunk, chunk_in, chunks_state, file_append, in_a, lacking_in, put_split, shape_with, state_shapes, volume_with}

-- WHAT IS HELD BEHIND THE CHUNKS

chunks_held : (t : Shapes) (blocks : List (List ℕ)) → shapes_after t (chunk_plan t.a blocks) ≡ Some (record { a = with_blocks t.a blocks; b = t.b; phase = t.phase })
chunks_held t [] = refl
chunks_held t (block ∷ blocks) =
    let n = sha256 block in
    let next : Shape → Shapes = λ a. record { a = a; b = t.b; phase = t.phase } in
    elim (map.contains_key t.a.chunks n) as (λ b. map.contains_key t.a.chunks n ≡ b
    → shapes_after t (each ToA (cond b (new_chunks t.a blocks) (ChunkRecord n block ∷ new_chunks (with_chunk t.a n (length block)) blocks))) ≡ Some (next (with_blocks (cond b t.a (with_chunk t.a n (length block))) blocks))) [
      | true ↦ λ held. chunks_held t blocks
      | false ↦ λ lacking.
          let u = next (with_chunk t.a n (length block)) in
          ap (option_and_then (λ x. shapes_after x (chunk_plan (with_chunk t.a n (length block)) blocks))) (chunk_happens t block lacking) ∙ chunks_held u blocks
    ] refl

module _ (v u : SiteValue) (blocks : List (List ℕ)) (added : IsAfter v u (chunk_plan v.a.shape blocks)) where
  now_held : record { a = with_blocks v.a.shape blocks; b = v.b.shape; phase = v.journal.phase } ≡ shapes_in u
  now_held = some_same (record { a = with_blocks v.a.shape blocks; b = v.b.shape; phase = v.journal.phase }) (shapes_in u) (sym (chunks_held (shapes_in v) blocks) ∙ added.shapes)

-- THE FILE

pub lacks_a : (v : SiteValue) (name : List ℕ) → ¬ IsHeld v name → map.contains_key v.a.shape.files name ≡ false
lacks_a v name lacking = false_from_ne_true (map.contains_key v.a.shape.files name) (λ held. lacking (ap (λ (b : Bool). b || map.contains_key v.b.shape.files name) held))

or_last : (a b : Bool) → b ≡ true → (a || b) ≡ true
or_last true b is = refl
or_last false b is = is

lacks_b : (v : SiteValue) (name : List ℕ) → ¬ IsHeld v name → map.contains_key v.b.shape.files name ≡ false
lacks_b v name lacking = false_from_ne_true (map.contains_key v.b.shape.files name) (λ held. lacking (or_last (map.contains_key v.a.shape.files name) (map.contains_key v.b.shape.files name) held))

-- it may be added
module _ (a : Shape) (name : List ℕ) (blocks : List (List ℕ)) (lawful : IsFileName name) (lacking : map.contains_key a.files name ≡ false) (few : length blocks ≤ 524279) (within : IsWithin a name blocks) where
  its_chunks : holds_all (with_blocks a blocks) (each sha256 blocks) ≡ true
  its_chunks = all_pass (map.contains_key (with_blocks a blocks).chunks) (each sha256 blocks) (λ q listed. all_held a blocks q ∙ or_last (map.contains_key a.chunks q) (is_listed (each sha256 blocks) q) listed)

  may_file : may_add_file (λ n. n) 0 (with_blocks a blocks) name (each sha256 blocks) ≡ true
  may_file =
      let u = with_blocks a blocks in
      may_put u name (each sha256 blocks) lawful (ap (λ (f : Files). map.contains_key f name) (same_files a blocks) ∙ lacking) its_chunks (omega (arith, few, length-map blocks sha256))
      (subst (λ (f : Files). keeps_limits (λ chunk. chunk_or 0 u chunk) (map.insert f name (each sha256 blocks)) ≡ true) (sym (same_files a blocks)) (within_limits (length_with a name blocks) (files_with a name blocks) within))

names_lawful : (blocks : List (List ℕ)) → All IsChunkName (each sha256 blocks)
names_lawful blocks = All-map IsChunkName sha256 blocks (λ k d inside. length-sha256 (slice_index_or blocks k d))

-- what is held behind the chunks, and behind the file
abbrev with_its_chunks : Shapes → List (List ℕ) → Shapes
with_its_chunks t blocks = record { a = with_blocks t.a blocks; b = t.b; phase = t.phase }

abbrev with_its_file : Shapes → List ℕ → List (List ℕ) → Shapes
with_its_file t name blocks = record { a = with_file (with_blocks t.a blocks) name (each sha256 blocks); b = t.b; phase = t.phase }

module _ (v : SiteValue) (name : List ℕ) (blocks : List (List ℕ)) (may : MayPut v name) (lawful : IsFileName name) (few : length blocks ≤ 524279) (within : IsWithin v.a.shape name blocks) where
  file_happens : happens_to (with_its_chunks (shapes_in v) blocks) (file_append name blocks) ≡ Some (with_its_file (shapes_in v) name blocks)
  file_happens =
      ap (λ (b : Bool). option_map (λ (x : Shape). record (with_its_chunks (shapes_in v) blocks) { a = x }) (if b then Some (with_file (with_blocks v.a.shape blocks) name (each sha256 blocks)) else None))
      (may_file v.a.shape name blocks lawful (lacks_a v name may.lacking) few within)

  module _ (u : SiteValue) (added : IsAfter v u (chunk_plan v.a.shape blocks)) where
    now_happens : happens_to (shapes_in u) (file_append name blocks) ≡ Some (with_its_file (shapes_in v) name blocks)
    now_happens = subst (λ (t : Shapes). happens_to t (file_append name blocks) ≡ Some (with_its_file (shapes_in v) name blocks)) (now_held v u blocks added) file_happens

    pub may_add_it : MayAppendTo (shapes_in u) (file_append name blocks)
    may_add_it =
        subst (λ (t : Shapes). MayAppendTo t (file_append name blocks)) (now_held v u blocks added)
        (inr (inl (record { idle = may.idle; kind = lacks_b v name may.lacking; spelled = names_lawful blocks; next = with_its_file (shapes_in v) name blocks; folds = file_happens })))

    u_lacks_b : map.contains_key u.b.shape.files name ≡ false
    u_lacks_b = ap (λ (t : Shapes). map.contains_key t.b.files name) (sym (now_held v u blocks added)) ∙ lacks_b v name may.lacking

    may_add_to : (m : Disk) (s : State) → SiteStands u m s → MayAppend s (file_append name blocks)
    may_add_to m s stands = inr (inl (record {
      idle = sym stands.phase ∙ ap (λ (t : Shapes). t.phase) (sym (now_held v u blocks added)) ∙ may.idle;
      kind = ap (λ (x : Shape). map.contains_key x.files name) (sym stands.b.shape) ∙ u_lacks_b;
      spelled = names_lawful blocks;
      digest = tt;
      next = after s (Appends (file_append name blocks));
      folds = folds_state u m s (file_append name blocks) (with_its_file (shapes_in v) name blocks) stands now_happens;
    }))

-- ALL OF THE PLAN

still_fit : (l : Logs) (first second : List Append) → AllFit l (first ++ second) → AllFit (logs_after l first) second
still_fit l [] second fit = fit
still_fit l (x ∷ first) second fit = still_fit (logs_with l x) first second fit.1

front_fits : (l : Logs) (first second : List Append) → AllFit l (first ++ second) → AllFit l first
front_fits l [] second fit = tt
front_fits l (x ∷ first) second fit = (fit.0, front_fits (logs_with l x) first second fit.1)

module _ (v u w : SiteValue) (name : List ℕ) (blocks : List (List ℕ)) where
  abbrev whole : List Append
  whole = put_plan (shapes_in v) name blocks

  abbrev its_file : Append
  its_file = ToA (FileRecord name (each sha256 blocks))

  -- the chunks have room
  pub chunks_fit : AllFit (logs_in v) whole → AllFit (logs_in v) (chunk_plan v.a.shape blocks)
  chunks_fit fit = front_fits (logs_in v) (chunk_plan v.a.shape blocks) (its_file ∷ []) (subst (AllFit (logs_in v)) (put_split v.a.shape name blocks) fit)

  file_fits : AllFit (logs_in v) whole → AddsChunks v u blocks (Ok tt) → ¬ IsTooFullFor (logs_in u) its_file
  file_fits fit adds =
      (subst (λ (l : Logs). AllFit l (its_file ∷ [])) (sym adds.0.logs)
      (still_fit (logs_in v) (chunk_plan v.a.shape blocks) (its_file ∷ []) (subst (AllFit (logs_in v)) (put_split v.a.shape name blocks) fit))).0

  -- it stopped among the chunks
  pub stopped_early : (error : SiteError) → AddsChunks v u blocks (Err error) → AddsAll v u whole (Err error)
  stopped_early RackFault adds = adds
  stopped_early Spent adds = adds
  stopped_early Memory adds = adds
  stopped_early Exists adds = adds
  stopped_early NoSuchFile adds = adds
  stopped_early MigrationOpen adds = adds
  stopped_early TargetNotEmpty adds = adds
  stopped_early NothingOpen adds = adds
  stopped_early NotMoved adds = adds
  stopped_early (Collision chunk) adds = adds
  stopped_early (Damage device at) adds = adds
  stopped_early (BadChunk chunk found) adds = adds
  stopped_early (DeviceFull device at len) adds = adds
  stopped_early (VolumeFull what) adds = adds

  pub added_all : (result : Result (Unit {0}) SiteError) → AllFit (logs_in v) whole → HasRoomToPut v.a name blocks → AddsChunks v u blocks (Ok tt) → AppendsOne u w its_file result → AddsAll v w whole result
  added_all (Ok done) fit room adds one = subst (IsAfter v w) (sym (put_split v.a.shape name blocks)) (after_behind v u w (chunk_plan v.a.shape blocks) (its_file ∷ []) adds.0 one.1)
  added_all (Err RackFault) fit room adds one = one.1
  added_all (Err (DeviceFull device at len)) fit room adds one = absurd (file_fits fit adds one.0.full)
  added_all (Err Memory) fit room adds one =
      absurd (one.0 (record { chunks = omega arith; files = omega (arith, room.files, adds.1); body = omega (arith, room.body, adds.2, length-map blocks sha256) }))
  added_all (Err Spent) fit room adds one = one
  added_all (Err Exists) fit room adds one = one
  added_all (Err NoSuchFile) fit room adds one = one
  added_all (Err MigrationOpen) fit room adds one = one
  added_all (Err TargetNotEmpty) fit room adds one = one
  added_all (Err NothingOpen) fit room adds one = one
  added_all (Err NotMoved) fit room adds one = one
  added_all (Err (Collision chunk)) fit room adds one = one
  added_all (Err (Damage device at)) fit room adds one = one
  added_all (Err (BadChunk chunk found)) fit room adds one = one
  added_all (Err (VolumeFull what)) fit room adds one = one

  module _ {D : Type 0} (disk : D → Disk) (moment : D → ℕ) (left_since : D → ℕ → Images → Type 0) (old mid new : D) where
    pub stopped_on : StopsIn disk moment left_since old mid v u (chunk_plan v.a.shape blocks) → StopsIn disk moment left_since old mid v u whole
    stopped_on stops =
        subst (StopsIn disk moment left_since old mid v u) (sym (put_split v.a.shape name blocks)) (stops_longer disk moment left_since old mid v u (chunk_plan v.a.shape blocks) (its_file ∷ []) stops)

    pub added_on : (result : Result (Unit {0}) SiteError) → AddsChunks v u blocks (Ok tt) → MayPut v name → IsFileName name → length blocks ≤ 524279 → IsWithin v.a.shape name blocks
        → RunsTo disk moment left_since old mid v u (chunk_plan v.a.shape blocks) → AddsTo disk moment left_since refuses mid new u w its_file result → RunsThrough disk moment left_since old new v w whole result
    added_on (Ok done) adds may lawful few within runs on =
        subst (RunsTo disk moment left_since old new v w) (sym (put_split v.a.shape name blocks))
        (more_to disk moment left_since old mid new v u w (chunk_plan v.a.shape blocks) its_file runs (λ s stands. may_add_to v name blocks may lawful few within u adds.0 (disk mid) s stands) on)
    added_on (Err error) adds may lawful few within runs on =
        subst (StopsIn disk moment left_since old new v w) (sym (put_split v.a.shape name blocks))
        (stops_at disk moment left_since old mid new v u w (chunk_plan v.a.shape blocks) its_file runs (λ s stands. may_add_to v name blocks may lawful few within u adds.0 (disk mid) s stands) error on)

-- ALLOWED

-- the chunks of blocks may be added to a state with no migration open
chunks_allowed : (s : State) (a : Shape) (blocks : List (List ℕ)) → s.phase ≡ Idle → shape_of s.a ≡ a → All IsChunk blocks → AreAllowed s (events_of (chunk_plan a blocks))
chunks_allowed s a [] idle is all = tt
chunks_allowed s a (block ∷ blocks) idle is all =
    let n = sha256 block in
    let told : map.contains_key s.a.chunks n ≡ map.contains_key a.chunks n = sym (same_held s.a n) ∙ ap (λ (x : Shape). map.contains_key x.chunks n) is in
    let later = All-tail IsChunk block blocks all in
    elim (map.contains_key a.chunks n) as (λ b. map.contains_key a.chunks n ≡ b
    → AreAllowed s (events_of (each ToA (cond b (new_chunks a blocks) (ChunkRecord n block ∷ new_chunks (with_chunk a n (length block)) blocks))))) [
      | true ↦ λ held. chunks_allowed s a blocks idle is later
      | false ↦ λ lacking.
          let t = in_a s (chunk_in s.a block) in
          let next : after s (Appends (chunk_append block)) ≡ t = after_chunk s block in
          let shape : shape_of t.a ≡ with_chunk a n (length block) = ap shape_of (lacking_in s.a block (told ∙ lacking)) ∙ sym (shape_with s.a n block) ∙ ap (λ (x : Shape). with_chunk x n (length block)) is in
          let first : MayAppend s (chunk_append block) = inr (inl (record {
            idle = idle;
            kind = tt;
            spelled = (length-sha256 block, All-head IsChunk block blocks all);
            digest = refl;
            next = in_a s (with_chunk s.a n block);
            folds = ap (λ (b : Bool). option_map (λ (x : Volume). record s { a = x }) (if b then None else Some (with_chunk s.a n block))) (told ∙ lacking);
          })) in
          (first, subst (λ (u : State). AreAllowed u (events_of (chunk_plan (with_chunk a n (length block)) blocks))) (sym next) (chunks_allowed t (with_chunk a n (length block)) blocks idle shape later))
    ] refl

-- and then the file
module _ (v : SiteValue) (name : List ℕ) (blocks : List (List ℕ)) (may : MayPut v name) (lawful : IsFileName name) (few : length blocks ≤ 524279) (within : IsWithin v.a.shape name blocks) (chunks : All IsChunk blocks) where
  module _ (d : Disk) (s : State) (stands : SiteStands v d s) where
    idle_state : s.phase ≡ Idle
    idle_state = sym stands.phase ∙ may.idle

    abbrev behind : State
    behind = after_plan s (chunk_plan v.a.shape blocks)

    same_behind : behind ≡ in_a s (volume_with s.a blocks)
    same_behind = chunks_state s v.a.shape blocks (sym stands.a.shape)

    shapes_behind_chunks : shapes_of behind ≡ with_its_chunks (shapes_in v) blocks
    shapes_behind_chunks = state_shapes s (chunk_plan v.a.shape blocks) (with_its_chunks (shapes_in v) blocks)
        (subst (λ (t : Shapes). shapes_after t (chunk_plan v.a.shape blocks) ≡ Some (with_its_chunks (shapes_in v) blocks)) (shapes_same v s d stands) (chunks_held (shapes_in v) blocks))

    file_may : MayAppend behind (file_append name blocks)
    file_may = inr (inl (record {
      idle = ap (λ (u : State). u.phase) same_behind ∙ idle_state;
      kind = ap (λ (u : State). map.contains_key u.b.files name) same_behind ∙ ap (λ (x : Shape). map.contains_key x.files name) (sym stands.b.shape) ∙ lacks_b v name may.lacking;
      spelled = names_lawful blocks;
      digest = tt;
      next = after behind (Appends (file_append name blocks));
      folds = folds_told behind (file_append name blocks) (with_its_file (shapes_in v) name blocks)
          (ap (λ (t : Shapes). happens_to t (file_append name blocks)) shapes_behind_chunks ∙ file_happens v name blocks may lawful few within);
    }))

    pub put_allowed : AreAllowed s (events_of (put_plan (shapes_in v) name blocks))
    put_allowed = subst (λ (p : List Append). AreAllowed s (events_of p)) (sym (put_split v.a.shape name blocks))
        (allowed_snoc s (chunk_plan v.a.shape blocks) (file_append name blocks) (chunks_allowed s v.a.shape blocks idle_state (sym stands.a.shape) chunks) file_may)
