-- The chunks of a file that is put, added one after the other.
use Rattle.std.proofs.Common.{◌≡◌, inl, inr, ℕ, ◌+◌, ◌≤◌, List, [], ◌∷◌, ◌++◌, length, Bool, true, false, Some, None, refl, sym, ◌∙◌, ap, subst, arith}
use Rattle.std.specs.Prelude.{Ok, Err, All, map as each, if◌then◌else◌}
use Rattle.std.specs.Option.{option_and_then, option_map}
use Rattle.std.specs.FinMap as map
use Rattle.std.proofs.lemmas.List.Elements.{All-head, All-tail}
use Rattle.sha2.specs.Sha256.{sha256}
use Rattle.sha2.proofs.Facts256.{length-sha256}
use Rattle.volume_disk.specs.Disk.{Disk, Images}
use Rattle.site_forms.specs.declared.phase.Phase.TheVariants.{Idle}
use Rattle.site_forms.specs.Views.{State}
use Rattle.site_forms.specs.VolumeRecords.{IsChunk}
use Rattle.site_forms.specs.VolumeRecords.VolumeRecord.{ChunkRecord}
use Rattle.site_forms.specs.Volumes.{Shape, with_chunk}
use Rattle.site_core.specs.Events.{Append, MayAppend, MayAppendTo, Shapes, after, happens_to}
use Rattle.site_core.specs.Events.Append.{ToA}
use Rattle.site_core.specs.Events.Event.{Appends}
use Rattle.seed_mover.specs.declared.errors.SiteError.{SiteError}
use Rattle.seed_mover.specs.declared.errors.SiteError.TheVariants.{RackFault, Spent, Memory, Exists, NoSuchFile, MigrationOpen, TargetNotEmpty, NothingOpen, NotMoved, Collision, Damage, BadChunk, DeviceFull, VolumeFull}
use Rattle.site_runs.specs.Runs.{AddsTo}
use Rattle.site_runs.specs.SiteValues.{SiteStands, SiteValue, shapes_in}
use Rattle.seed_mover.specs.Appending.{AppendsOne}
use Rattle.seed_mover.specs.Errors.{refuses}
use Rattle.seed_mover.specs.Through.{RunsTo, StopsIn}
use Rattle.seed_mover.specs.Plans.{AllFit, Logs, logs_in}
use Rattle.seed_mover.specs.PutParts.{AddsChunks, HasRoomForChunks, chunk_append, chunk_plan}
use Rattle.seed_mover.specs.Putting.{new_chunks}
use Rattle.seed_mover.specs.Running.{IsAfter}
use Rattle.seed_mover.proofs.Folded.{folds_state}
use Rattle.seed_mover.proofs.Listed.{after_behind, after_none, all_behind, none_behind}
use Rattle.seed_mover.proofs.Through.{more_to, stops_at, stops_longer}

-- THE PLAN

-- a block whose chunk is held adds nothing
pub new_held : (a : Shape) (block : List ℕ) (rest : List (List ℕ)) → map.contains_key a.chunks (sha256 block) ≡ true → new_chunks a (block ∷ rest) ≡ new_chunks a rest
new_held a block rest is = ap (λ (b : Bool). if b then new_chunks a rest else ChunkRecord (sha256 block) block ∷ new_chunks (with_chunk a (sha256 block) (length block)) rest) is

-- one whose chunk is lacking adds it
pub new_lacking : (a : Shape) (block : List ℕ) (rest : List (List ℕ)) → map.contains_key a.chunks (sha256 block) ≡ false
    → new_chunks a (block ∷ rest) ≡ ChunkRecord (sha256 block) block ∷ new_chunks (with_chunk a (sha256 block) (length block)) rest
new_lacking a block rest is = ap (λ (b : Bool). if b then new_chunks a rest else ChunkRecord (sha256 block) block ∷ new_chunks (with_chunk a (sha256 block) (length block)) rest) is

-- ONE CHUNK

abbrev pub chunk_shapes : Shapes → List ℕ → Shapes
chunk_shapes t block = record { a = with_chunk t.a (sha256 block) (length block); b = t.b; phase = t.phase }

pub chunk_happens : (t : Shapes) (block : List ℕ) → map.contains_key t.a.chunks (sha256 block) ≡ false → happens_to t (chunk_append block) ≡ Some (chunk_shapes t block)
chunk_happens t block lacking = ap (λ (b : Bool). option_map (λ (x : Shape). record t { a = x }) (if b then None else Some (with_chunk t.a (sha256 block) (length block)))) lacking

pub may_chunk : (v : SiteValue) (block : List ℕ) → v.journal.phase ≡ Idle → IsChunk block → map.contains_key v.a.shape.chunks (sha256 block) ≡ false → MayAppendTo (shapes_in v) (chunk_append block)
may_chunk v block idle is lacking = inr (inl (record { idle = idle; kind = tt; spelled = (length-sha256 block, is); next = chunk_shapes (shapes_in v) block; folds = chunk_happens (shapes_in v) block lacking }))

pub may_chunk_state : (v : SiteValue) (block : List ℕ) (d : Disk) (s : State) → v.journal.phase ≡ Idle → IsChunk block → map.contains_key v.a.shape.chunks (sha256 block) ≡ false → SiteStands v d s → MayAppend s (chunk_append block)
may_chunk_state v block d s idle is lacking stands = inr (inl (record {
  idle = sym stands.phase ∙ idle;
  kind = tt;
  spelled = (length-sha256 block, is);
  digest = refl;
  next = after s (Appends (chunk_append block));
  folds = folds_state v d s (chunk_append block) (chunk_shapes (shapes_in v) block) stands (chunk_happens (shapes_in v) block lacking);
}))

some_one : {X : Type 0} (x y : X) → Some x ≡ Some y → x ≡ y
some_one x y is = cc

-- the site with it
chunk_after : (v w : SiteValue) (block : List ℕ) → map.contains_key v.a.shape.chunks (sha256 block) ≡ false → IsAfter v w (chunk_append block ∷ []) → chunk_shapes (shapes_in v) block ≡ shapes_in w
chunk_after v w block lacking one =
    some_one (chunk_shapes (shapes_in v) block) (shapes_in w) (sym (ap (option_and_then (λ (u : Shapes). Some u)) (chunk_happens (shapes_in v) block lacking)) ∙ one.shapes)

-- SO FAR

-- the chunks of some blocks are added, and those of the rest are left, with room for them on the device and in memory
pub record ChunksSoFar (v u : SiteValue) (blocks rest : List (List ℕ)) (done : List Append) : Type 0 where
  pub whole : chunk_plan v.a.shape blocks ≡ done ++ chunk_plan u.a.shape rest
  pub after : IsAfter v u done
  pub idle : u.journal.phase ≡ Idle
  pub fit : AllFit (logs_in u) (chunk_plan u.a.shape rest)
  pub room : HasRoomForChunks u.a rest
  pub files : v.a.room.files ≤ u.a.room.files
  pub body : v.a.room.body ≤ u.a.room.body

pub chunks_none : (v : SiteValue) (blocks : List (List ℕ)) → v.journal.phase ≡ Idle → AllFit (logs_in v) (chunk_plan v.a.shape blocks) → HasRoomForChunks v.a blocks → ChunksSoFar v v blocks blocks []
chunks_none v blocks idle fit room = record { whole = refl; after = after_none v; idle = idle; fit = fit; room = room; files = omega arith; body = omega arith }

-- nothing is left
pub chunks_all : (v u : SiteValue) (blocks : List (List ℕ)) (done : List Append) → ChunksSoFar v u blocks [] done → chunk_plan v.a.shape blocks ≡ done
chunks_all v u blocks done so_far = so_far.whole ∙ none_behind done

pub chunks_added : (v u : SiteValue) (blocks : List (List ℕ)) (done : List Append) → ChunksSoFar v u blocks [] done → AddsChunks v u blocks (Ok tt)
chunks_added v u blocks done so_far = (subst (IsAfter v u) (sym (chunks_all v u blocks done so_far)) so_far.after, so_far.files, so_far.body)

module _ (v u : SiteValue) (blocks rest : List (List ℕ)) (block : List ℕ) (done : List Append) (so_far : ChunksSoFar v u blocks (block ∷ rest) done) where
  -- a block whose chunk is held
  pub chunks_past : map.contains_key u.a.shape.chunks (sha256 block) ≡ true → ChunksSoFar v u blocks rest done
  chunks_past is =
      let same = new_held u.a.shape block rest is in
      record {
        whole = so_far.whole ∙ ap (λ l. done ++ each ToA l) same;
        after = so_far.after;
        idle = so_far.idle;
        fit = subst (λ l. AllFit (logs_in u) (each ToA l)) same so_far.fit;
        room = record {
          chunks = subst (λ l. length l ≤ u.a.room.chunks) same so_far.room.chunks;
          bodies = All-tail (λ b. 33 + length b ≤ u.a.room.body) block rest so_far.room.bodies;
        };
        files = so_far.files;
        body = so_far.body;
      }

  -- one whose chunk is lacking
  module _ (w : SiteValue) (lacking : map.contains_key u.a.shape.chunks (sha256 block) ≡ false) where
    abbrev its_shape : Shape
    its_shape = with_chunk u.a.shape (sha256 block) (length block)

    its_plan : chunk_plan u.a.shape (block ∷ rest) ≡ chunk_append block ∷ chunk_plan its_shape rest
    its_plan = ap (each ToA) (new_lacking u.a.shape block rest lacking)

    its_fit : AllFit (logs_in u) (chunk_append block ∷ chunk_plan its_shape rest)
    its_fit = subst (AllFit (logs_in u)) its_plan so_far.fit

    its_count : 1 + length (new_chunks its_shape rest) ≤ u.a.room.chunks
    its_count = omega (arith, so_far.room.chunks, ap (λ l. length l) (new_lacking u.a.shape block rest lacking))

    whole_left : chunk_plan v.a.shape blocks ≡ (done ++ chunk_append block ∷ []) ++ chunk_plan its_shape rest
    whole_left = so_far.whole ∙ ap (λ l. done ++ l) its_plan ∙ sym (all_behind done (chunk_append block ∷ []) (chunk_plan its_shape rest))

    more_bodies : (l : List (List ℕ)) → u.a.room.body ≤ w.a.room.body → All (λ b. 33 + length b ≤ u.a.room.body) l → All (λ b. 33 + length b ≤ w.a.room.body) l
    more_bodies l more all = λ k d inside. omega (arith, more, all k d inside)

    pub chunks_more : AppendsOne u w (chunk_append block) (Ok tt) → ChunksSoFar v w blocks rest (done ++ chunk_append block ∷ [])
    chunks_more one =
        let now = chunk_after u w block lacking one.1 in
        let shape : its_shape ≡ w.a.shape = ap (λ (t : Shapes). t.a) now in
        let takes = one.2.0 in
        record {
          whole = subst (λ (x : Shape). chunk_plan v.a.shape blocks ≡ (done ++ chunk_append block ∷ []) ++ chunk_plan x rest) shape whole_left;
          after = after_behind v u w done (chunk_append block ∷ []) so_far.after one.1;
          idle = ap (λ (t : Shapes). t.phase) (sym now) ∙ so_far.idle;
          fit = subst (λ (x : Shape). AllFit (logs_in w) (chunk_plan x rest)) shape (subst (λ (l : Logs). AllFit l (chunk_plan its_shape rest)) (sym one.1.logs) its_fit.1);
          room = record {
            chunks = subst (λ (x : Shape). length (new_chunks x rest) ≤ w.a.room.chunks) shape (omega (arith, its_count, takes.chunks));
            bodies = more_bodies rest takes.body (All-tail (λ b. 33 + length b ≤ u.a.room.body) block rest so_far.room.bodies);
          };
          files = omega (arith, so_far.files, takes.files);
          body = omega (arith, so_far.body, takes.body);
        }

    -- it has room, so that only a fault stops it
    pub chunks_stop : (error : SiteError) → AppendsOne u w (chunk_append block) (Err error) → AddsChunks v w blocks (Err error)
    chunks_stop RackFault one = one.1
    chunks_stop (DeviceFull device at len) one = absurd (its_fit.0 one.0.full)
    chunks_stop Memory one = absurd (one.0 (record { chunks = omega (arith, its_count); files = omega arith; body = All-head (λ b. 33 + length b ≤ u.a.room.body) block rest so_far.room.bodies }))
    chunks_stop Spent one = one
    chunks_stop Exists one = one
    chunks_stop NoSuchFile one = one
    chunks_stop MigrationOpen one = one
    chunks_stop TargetNotEmpty one = one
    chunks_stop NothingOpen one = one
    chunks_stop NotMoved one = one
    chunks_stop (Collision name) one = one
    chunks_stop (Damage device at) one = one
    chunks_stop (BadChunk name found) one = one
    chunks_stop (VolumeFull what) one = one

    module _ {D : Type 0} (disk : D → Disk) (moment : D → ℕ) (left_since : D → ℕ → Images → Type 0) (old mid new : D) (is_chunk : IsChunk block) (runs : RunsTo disk moment left_since old mid v u done) where
      may_follow : (s : State) → SiteStands u (disk mid) s → MayAppend s (chunk_append block)
      may_follow s stands = may_chunk_state u block (disk mid) s so_far.idle is_chunk lacking stands

      pub runs_chunk_more : AddsTo disk moment left_since refuses mid new u w {T = Unit {0}} (chunk_append block) (Ok tt) → RunsTo disk moment left_since old new v w (done ++ chunk_append block ∷ [])
      runs_chunk_more call = more_to disk moment left_since old mid new v u w done (chunk_append block) runs may_follow call

      pub stops_on_chunk : (error : SiteError) → AddsTo disk moment left_since refuses mid new u w {T = Unit {0}} (chunk_append block) (Err error) → StopsIn disk moment left_since old new v w (chunk_plan v.a.shape blocks)
      stops_on_chunk error call = subst (StopsIn disk moment left_since old new v w) (sym whole_left)
          (stops_longer disk moment left_since old new v w (done ++ chunk_append block ∷ []) (chunk_plan its_shape rest) (stops_at disk moment left_since old mid new v u w done (chunk_append block) runs may_follow error call))
