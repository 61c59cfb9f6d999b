-- Whether a log has room for the records of a file that is put, one behind the other.
use Rattle.std.proofs.Common.{◌≡◌, inl, ℕ, ◌+◌, ◌*◌, ◌^◌, ◌<◌, ◌≤◌, List, [], ◌∷◌, ◌++◌, length, take, drop, get_or, Bool, true, false, cond, refl, sym, ◌∙◌, ap, subst, arith}
use Rattle.std.specs.Prelude.{Result, Ok, Err, map as each, not}
use Rattle.std.specs.List.{concat}
use Rattle.std.specs.FinMap as map
use Rattle.std.proofs.lemmas.Bool.{true≢false, not-true}
use Rattle.std.proofs.lemmas.List.{append_assoc, length-append, map-append, take-append-drop, take-map, take_all, take_more}
use Rattle.sha2.specs.Sha256.{sha256}
use Rattle.sha2.proofs.Facts256.{length-sha256}
use Rattle.site_forms.specs.VolumeRecords.{VolumeRecord, volume_body}
use Rattle.site_forms.specs.VolumeRecords.VolumeRecord.{ChunkRecord, FileRecord}
use Rattle.site_forms.specs.Volumes.{Shape}
use Rattle.chunk_log.specs.Appending.{after_append}
use Rattle.chunk_log.specs.LogValues.{LogValue}
use Rattle.chunk_volume.specs.VolumeValues.{VolumeValue}
use Rattle.site_core.specs.Events.{Append}
use Rattle.site_core.specs.Events.Append.{ToA}
use Rattle.seed_mover.specs.declared.errors.SiteError.{SiteError}
use Rattle.seed_mover.specs.declared.errors.SiteError.TheVariants.{RackFault, Spent, Memory, Exists, NoSuchFile, MigrationOpen, TargetNotEmpty, NothingOpen, NotMoved, Collision, Damage, BadChunk, DeviceFull, VolumeFull}
use Rattle.seed_mover.specs.Blocks.{is_new}
use Rattle.seed_mover.specs.Plans.{AllFit, IsFirstFull, Logs, logs_after}
use Rattle.seed_mover.specs.PutParts.{EndsBehind, JudgesRoom, LackRoom, chunk_append, chunk_plan}
use Rattle.seed_mover.specs.Putting.{new_chunks, put_records, with_blocks}
use Rattle.seed_mover.proofs.Listed.{fit_behind, full_before, full_behind, logs_behind}
use Rattle.seed_mover.proofs.PutCounts.{each_at}
use Rattle.seed_mover.proofs.PutShapes.{all_held, new_behind}
use Rattle.seed_mover.proofs.PutShown.{put_split}

-- BODIES

chunk_long : (block : List ℕ) → length (volume_body (ChunkRecord (sha256 block) block)) ≡ 33 + length block
chunk_long block = omega (arith, length-append (sha256 block) block, length-sha256 block)

names_long : (blocks : List (List ℕ)) → length (concat (each sha256 blocks)) ≡ 32 * length blocks
names_long [] = refl
names_long (block ∷ blocks) = omega (arith, length-append (sha256 block) (concat (each sha256 blocks)), length-sha256 block, names_long blocks)

file_long : (name : List ℕ) (blocks : List (List ℕ)) → length (volume_body (FileRecord name (each sha256 blocks))) ≡ 2 + length name + 32 * length blocks
file_long name blocks = omega (arith, length-append name (concat (each sha256 blocks)), names_long blocks)

-- SO FAR

abbrev log_at : LogValue → ℕ → LogValue
log_at log end = record { device = log.device; limit = log.limit; end = end; spent = log.spent }

-- the chunks of some blocks have room, and end here
pub record RoomSoFar (v : VolumeValue) (front : List (List ℕ)) (end : ℕ) : Type 0 where
  pub fit : (l : Logs) → l.a ≡ v.log → AllFit l (chunk_plan v.shape front)
  pub ends : (l : Logs) → l.a ≡ v.log → (logs_after l (chunk_plan v.shape front)).a ≡ record { device = v.log.device; limit = v.log.limit; end = end; spent = v.log.spent }
  pub most : end ≤ 2 ^ 40

pub room_none : (v : VolumeValue) (blocks : List (List ℕ)) (end : ℕ) → end ≡ v.log.end → end < 2 ^ 40 → RoomSoFar v (take 0 blocks) end
room_none v blocks end is below = record { fit = λ l same. tt; ends = λ l same. same ∙ ap (log_at v.log) (sym is); most = omega arith }

module _ (v : VolumeValue) (front : List (List ℕ)) (end : ℕ) (so_far : RoomSoFar v front end) where
  -- a record behind them
  module _ (x : Append) (n : ℕ) where
    abbrev GoesToA : Type 0
    GoesToA = (r : VolumeRecord) × (x ≡ ToA r) × (length (volume_body r) ≡ n)

    fits_one : GoesToA → end + n + 6 ≤ v.log.limit → (l : Logs) → l.a ≡ v.log → AllFit (logs_after l (chunk_plan v.shape front)) (x ∷ [])
    fits_one is room l same =
        let log = so_far.ends l same in
        let m = logs_after l (chunk_plan v.shape front) in
        subst (λ (y : Append). AllFit m (y ∷ [])) (sym is.1) (λ full. omega (arith, full, room, is.2, ap (λ (g : LogValue). g.limit) log, ap (λ (g : LogValue). g.end) log), tt)

    full_one : GoesToA → v.log.limit < end + n + 6 → (l : Logs) → l.a ≡ v.log → IsFirstFull (logs_after l (chunk_plan v.shape front)) (x ∷ []) v.log.device end n
    full_one is full l same =
        let log = so_far.ends l same in
        let m = logs_after l (chunk_plan v.shape front) in
        subst (λ (y : Append). IsFirstFull m (y ∷ []) v.log.device end n) (sym is.1)
        (inl (record {
          full = omega (arith, full, is.2, ap (λ (g : LogValue). g.limit) log, ap (λ (g : LogValue). g.end) log);
          device_is = ap (λ (g : LogValue). g.device) (sym log);
          at_is = ap (λ (g : LogValue). g.end) (sym log);
          len_is = sym is.2;
        }))

-- ONE BLOCK MORE

push_plan : (a : Shape) (front : List (List ℕ)) (block : List ℕ) (held : Bool) → map.contains_key (with_blocks a front).chunks (sha256 block) ≡ held
    → chunk_plan a (front ++ block ∷ []) ≡ chunk_plan a front ++ cond held [] (chunk_append block ∷ [])
push_plan a front block held is =
    let u = with_blocks a front in
    ap (each ToA) (new_behind a front (block ∷ []))
    ∙ map-append ToA (new_chunks a front) (new_chunks u (block ∷ []))
    ∙ ap (λ (b : Bool). chunk_plan a front ++ each ToA (cond b [] (ChunkRecord (sha256 block) block ∷ []))) is
    ∙ by held
  where
    by : (b : Bool) → chunk_plan a front ++ each ToA (cond b [] (ChunkRecord (sha256 block) block ∷ [])) ≡ chunk_plan a front ++ cond b [] (chunk_append block ∷ [])
    by true = refl
    by false = refl

not_false : (b : Bool) → not b ≡ false → b ≡ true
not_false true is = refl
not_false false is = absurd (true≢false is)

nothing_more : {X : Type 0} (list : List X) → list ++ [] ≡ list
nothing_more [] = refl
nothing_more (x ∷ list) = ap (λ l. x ∷ l) (nothing_more list)

module _ (v : VolumeValue) (name : List ℕ) (blocks : List (List ℕ)) (k : ℕ) (inside : k < length blocks) (end : ℕ) (so_far : RoomSoFar v (take k blocks) end) where
  abbrev own : List ℕ
  own = get_or blocks k []

  abbrev front : List (List ℕ)
  front = take k blocks

  abbrev its_new : Bool
  its_new = is_new v.shape (take k (each sha256 blocks)) (get_or (each sha256 blocks) k [])

  its_held : its_new ≡ not (map.contains_key (with_blocks v.shape front).chunks (sha256 own))
  its_held =
      ap (λ (q : List ℕ). is_new v.shape (take k (each sha256 blocks)) q) (each_at sha256 blocks k [] [] inside)
      ∙ ap (λ (l : List (List ℕ)). is_new v.shape l (sha256 own)) (take-map sha256 k blocks)
      ∙ ap not (sym (all_held v.shape front (sha256 own)))

  more_front : take (k + 1) blocks ≡ front ++ own ∷ []
  more_front = take_more blocks k [] inside

  its_plan : (held : Bool) → map.contains_key (with_blocks v.shape front).chunks (sha256 own) ≡ held → chunk_plan v.shape (take (k + 1) blocks) ≡ chunk_plan v.shape front ++ cond held [] (chunk_append own ∷ [])
  its_plan held is = ap (chunk_plan v.shape) more_front ∙ push_plan v.shape front own held is

  -- a block that adds nothing
  room_past : its_new ≡ false → RoomSoFar v (take (k + 1) blocks) end
  room_past old =
      let same : chunk_plan v.shape (take (k + 1) blocks) ≡ chunk_plan v.shape front = its_plan true (not_false (map.contains_key (with_blocks v.shape front).chunks (sha256 own)) (sym its_held ∙ old)) ∙ nothing_more (chunk_plan v.shape front) in
      record {
        fit = λ l is. subst (AllFit l) (sym same) (so_far.fit l is);
        ends = λ l is. ap (λ (p : List Append). (logs_after l p).a) same ∙ so_far.ends l is;
        most = so_far.most;
      }

  its_append : (r : VolumeRecord) × (chunk_append own ≡ ToA r) × (length (volume_body r) ≡ 33 + length own)
  its_append = (ChunkRecord (sha256 own) own, refl, chunk_long own)

  lacks_own : its_new ≡ true → map.contains_key (with_blocks v.shape front).chunks (sha256 own) ≡ false
  lacks_own new = not-true (map.contains_key (with_blocks v.shape front).chunks (sha256 own)) (sym its_held ∙ new)

  -- one that adds a chunk
  room_more : its_new ≡ true → (next : ℕ) → end + (33 + length own) + 6 ≤ v.log.limit → next ≡ end + 5 + (33 + length own) → next ≤ 2 ^ 40 → RoomSoFar v (take (k + 1) blocks) next
  room_more new next room is most =
      let plan = its_plan false (lacks_own new) in
      record {
        fit = λ l same. subst (AllFit l) (sym plan) (fit_behind l (chunk_plan v.shape front) (chunk_append own ∷ []) (so_far.fit l same) (fits_one v front end so_far (chunk_append own) (33 + length own) its_append room l same));
        ends = λ l same.
            ap (λ (p : List Append). (logs_after l p).a) plan
            ∙ ap (λ (m : Logs). m.a) (logs_behind l (chunk_plan v.shape front) (chunk_append own ∷ []))
            ∙ ap (λ (g : LogValue). after_append g (length (volume_body (ChunkRecord (sha256 own) own)))) (so_far.ends l same)
            ∙ ap (log_at v.log) (omega (arith, chunk_long own, is));
        most = most;
      }

  pub room_step : (is_new : Bool) (next : ℕ) → is_new ≡ its_new → (is_new ≡ true → EndsBehind v.log end (33 + length own) (Ok next)) → (is_new ≡ false → ◌≡◌ {A = Result ℕ SiteError} (Ok next) (Ok end)) → RoomSoFar v (take (k + 1) blocks) next
  room_step true next is new other = let ends = new refl in room_more (sym is) next (omega (arith, ends.0)) ends.1 ends.2
  room_step false next is new other = let same : end ≡ next = cc (other refl) in subst (RoomSoFar v (take (k + 1) blocks)) same (room_past (sym is))

  -- the plan goes on behind it
  whole_plan : each ToA (put_records v.shape name blocks) ≡ chunk_plan v.shape (take (k + 1) blocks) ++ each ToA (new_chunks (with_blocks v.shape (take (k + 1) blocks)) (drop (k + 1) blocks) ++ FileRecord name (each sha256 blocks) ∷ [])
  whole_plan =
      let head = take (k + 1) blocks in
      let tail = drop (k + 1) blocks in
      let file = FileRecord name (each sha256 blocks) ∷ [] in
      let rest = new_chunks (with_blocks v.shape head) tail in
      ap (λ (l : List (List ℕ)). each ToA (new_chunks v.shape l ++ file)) (sym (take-append-drop (k + 1) blocks))
      ∙ ap (λ (l : List VolumeRecord). each ToA (l ++ file)) (new_behind v.shape head tail)
      ∙ ap (each ToA) (append_assoc (new_chunks v.shape head) rest file)
      ∙ map-append ToA (new_chunks v.shape head) (rest ++ file)

  room_full : its_new ≡ true → v.log.limit < end + (33 + length own) + 6 → LackRoom v (put_records v.shape name blocks) v.log.device end (33 + length own)
  room_full new full l same =
      let n = 33 + length own in
      let later = each ToA (new_chunks (with_blocks v.shape (take (k + 1) blocks)) (drop (k + 1) blocks) ++ FileRecord name (each sha256 blocks) ∷ []) in
      subst (λ (p : List Append). IsFirstFull l p v.log.device end n) (sym whole_plan)
      (full_before l (chunk_plan v.shape (take (k + 1) blocks)) later v.log.device end n
      (subst (λ (p : List Append). IsFirstFull l p v.log.device end n) (sym (its_plan false (lacks_own new)))
      (full_behind l (chunk_plan v.shape front) (chunk_append own ∷ []) v.log.device end n (so_far.fit l same) (full_one v front end so_far (chunk_append own) n its_append full l same))))

  stops_by : its_new ≡ true → (error : SiteError) → EndsBehind v.log end (33 + length own) (Err error) → JudgesRoom v name blocks (Err error)
  stops_by new (DeviceFull device at len) ends =
      λ l same.
      let full = room_full new ends.0 l same in
      subst (λ (x : ℕ). IsFirstFull l (each ToA (put_records v.shape name blocks)) x at len) (sym ends.1)
      (subst (λ (x : ℕ). IsFirstFull l (each ToA (put_records v.shape name blocks)) v.log.device x len) (sym ends.2)
      (subst (IsFirstFull l (each ToA (put_records v.shape name blocks)) v.log.device end) (sym ends.3) full))
  stops_by new RackFault ends = absurd ends
  stops_by new Spent ends = absurd ends
  stops_by new Memory ends = absurd ends
  stops_by new Exists ends = absurd ends
  stops_by new NoSuchFile ends = absurd ends
  stops_by new MigrationOpen ends = absurd ends
  stops_by new TargetNotEmpty ends = absurd ends
  stops_by new NothingOpen ends = absurd ends
  stops_by new NotMoved ends = absurd ends
  stops_by new (Collision chunk) ends = absurd ends
  stops_by new (Damage device at) ends = absurd ends
  stops_by new (BadChunk chunk found) ends = absurd ends
  stops_by new (VolumeFull what) ends = absurd ends

  pub room_stops : (is_new : Bool) (error : SiteError) → is_new ≡ its_new → (is_new ≡ true → EndsBehind v.log end (33 + length own) (Err error)) → (is_new ≡ false → ◌≡◌ {A = Result ℕ SiteError} (Err error) (Ok end)) → JudgesRoom v name blocks (Err error)
  room_stops true error is new other = stops_by (sym is) error (new refl)
  room_stops false error is new other = let no : ⊥ = cc (other refl) in absurd no

-- THE FILE

module _ (v : VolumeValue) (name : List ℕ) (blocks : List (List ℕ)) (end : ℕ) (so_far : RoomSoFar v blocks end) where
  abbrev file : Append
  file = ToA (FileRecord name (each sha256 blocks))

  file_append : (r : VolumeRecord) × (file ≡ ToA r) × (length (volume_body r) ≡ 2 + length name + 32 * length blocks)
  file_append = (FileRecord name (each sha256 blocks), refl, file_long name blocks)

  pub room_done : (next : ℕ) → EndsBehind v.log end (2 + length name + 32 * length blocks) (Ok next) → JudgesRoom v name blocks (Ok tt)
  room_done next ends = λ l same.
      subst (AllFit l) (sym (put_split v.shape name blocks))
      (fit_behind l (chunk_plan v.shape blocks) (file ∷ []) (so_far.fit l same) (fits_one v blocks end so_far file (2 + length name + 32 * length blocks) file_append ends.0 l same))

  file_full : v.log.limit < end + (2 + length name + 32 * length blocks) + 6 → LackRoom v (put_records v.shape name blocks) v.log.device end (2 + length name + 32 * length blocks)
  file_full full l same =
      let n = 2 + length name + 32 * length blocks in
      subst (λ (p : List Append). IsFirstFull l p v.log.device end n) (sym (put_split v.shape name blocks))
      (full_behind l (chunk_plan v.shape blocks) (file ∷ []) v.log.device end n (so_far.fit l same) (full_one v blocks end so_far file n file_append full l same))

  pub room_stops_file : (error : SiteError) → EndsBehind v.log end (2 + length name + 32 * length blocks) (Err error) → JudgesRoom v name blocks (Err error)
  room_stops_file (DeviceFull device at len) ends =
      λ l same.
      let full = file_full ends.0 l same in
      subst (λ (x : ℕ). IsFirstFull l (each ToA (put_records v.shape name blocks)) x at len) (sym ends.1)
      (subst (λ (x : ℕ). IsFirstFull l (each ToA (put_records v.shape name blocks)) v.log.device x len) (sym ends.2)
      (subst (IsFirstFull l (each ToA (put_records v.shape name blocks)) v.log.device end) (sym ends.3) full))
  room_stops_file RackFault ends = absurd ends
  room_stops_file Spent ends = absurd ends
  room_stops_file Memory ends = absurd ends
  room_stops_file Exists ends = absurd ends
  room_stops_file NoSuchFile ends = absurd ends
  room_stops_file MigrationOpen ends = absurd ends
  room_stops_file TargetNotEmpty ends = absurd ends
  room_stops_file NothingOpen ends = absurd ends
  room_stops_file NotMoved ends = absurd ends
  room_stops_file (Collision chunk) ends = absurd ends
  room_stops_file (Damage device at) ends = absurd ends
  room_stops_file (BadChunk chunk found) ends = absurd ends
  room_stops_file (VolumeFull what) ends = absurd ends

pub room_all : (v : VolumeValue) (blocks : List (List ℕ)) (k end : ℕ) → length blocks ≤ k → RoomSoFar v (take k blocks) end → RoomSoFar v blocks end
room_all v blocks k end all so_far = subst (λ (l : List (List ℕ)). RoomSoFar v l end) (take_all k blocks all) so_far
