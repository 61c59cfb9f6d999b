-- Whether the records of a file that is dropped have room.
use Rattle.std.proofs.Common.{◌≡◌, inl, inr, ℕ, ◌+◌, ◌*◌, ◌<◌, ◌≤◌, zero, suc, List, [], ◌∷◌, length, true, refl, sym, subst, arith}
use Rattle.std.specs.Prelude.{map as each, All, not}
use Rattle.std.specs.FinMap as map
use Rattle.std.proofs.lemmas.List.Elements.{All-filter}
use Rattle.file_names.specs.FileNames.{IsFileName}
use Rattle.site_forms.specs.VolumeRecords.{VolumeRecord, IsChunkName}
use Rattle.site_forms.specs.VolumeRecords.VolumeRecord.{DropChunkRecord}
use Rattle.site_forms.specs.Volumes.{Shape, used, without_file}
use Rattle.chunk_log.specs.Appending.{after_append}
use Rattle.chunk_log.specs.LogValues.{LogValue}
use Rattle.chunk_volume.specs.VolumeValues.{VolumeValue}
use Rattle.volume_index.specs.HoldingValues.{KeepsShape, orphans}
use Rattle.volume_index.proofs.Alls.{key_has}
use Rattle.seed_mover.specs.declared.entries.Side.{Side}
use Rattle.seed_mover.specs.declared.entries.Side.TheVariants.{A, B}
use Rattle.seed_mover.specs.Entries.{on_side, append_to}
use Rattle.seed_mover.specs.DropParts.{HaveRoom, IsFirstWithout}
use Rattle.seed_mover.specs.Dropping.{drops}
use Rattle.seed_mover.specs.Plans.{AllFit, IsFirstFull, logs_with, Logs, logs_in}
use Rattle.site_runs.specs.SiteValues.{SiteValue}

-- RECORDS OF 33 BYTES

first_of : (P : List ℕ → Type 0) (x : List ℕ) (xs : List (List ℕ)) → All P (x ∷ xs) → P x
first_of P x xs all = all 0 [] (omega arith)

rest_of : (P : List ℕ → Type 0) (x : List ℕ) (xs : List (List ℕ)) → All P (x ∷ xs) → All P xs
rest_of P x xs all = λ k d inside. all (suc k) d (omega (arith, inside))

chunks_fit : (log : LogValue) (names : List (List ℕ)) → All IsChunkName names → log.end + 38 * length names + 1 ≤ log.limit → HaveRoom log (each DropChunkRecord names)
chunks_fit log [] all room = tt
chunks_fit log (name ∷ names) all room =
    let long : length name ≡ 32 = first_of IsChunkName name names all in
    (λ full. omega (arith, full, room, long), chunks_fit (after_append log (suc (length name))) names (rest_of IsChunkName name names all) (omega (arith, room, long)))

chunks_full : (log : LogValue) (names : List (List ℕ)) (n : ℕ) → All IsChunkName names → n < length names → log.end + 38 * n + 1 ≤ log.limit → log.limit < log.end + 38 * n + 39 → IsFirstWithout log (each DropChunkRecord names) log.device (log.end + 38 * n) 33
chunks_full log [] n all inside room full = absurd (omega (arith, inside))
chunks_full log (name ∷ names) zero all inside room full =
    let long : length name ≡ 32 = first_of IsChunkName name names all in
    inl (omega (arith, full, long), refl, omega arith, omega (arith, long))
chunks_full log (name ∷ names) (suc n) all inside room full =
    let long : length name ≡ 32 = first_of IsChunkName name names all in
    let later = chunks_full (after_append log (suc (length name))) names n (rest_of IsChunkName name names all) (omega (arith, inside)) (omega (arith, room, long)) (omega (arith, full, long)) in
    inr (λ none. omega (arith, none, room, long), subst (λ (at : ℕ). IsFirstWithout (after_append log (suc (length name))) (each DropChunkRecord names) log.device at 33) (omega (arith, long)) later)

-- A FILE AND ITS CHUNKS

left_named : (shape : Shape) (name : List ℕ) → KeepsShape shape → All IsChunkName (orphans (without_file shape name))
left_named shape name keeps = All-filter (λ q. not (map.contains_key (used (map.remove shape.files name)) q)) IsChunkName (map.keys shape.chunks) keeps.chunk_names

module _ (v : VolumeValue) (name : List ℕ) where
  -- the file's own record has no room
  pub file_full : (device at len : ℕ) → device ≡ v.log.device → at ≡ v.log.end → len ≡ 1 + length name → v.log.limit ≤ at + 5 + len → IsFirstWithout v.log (drops v.shape name) device at len
  file_full device at len device_is at_is len_is full = inl (omega (arith, at_is, len_is, full), device_is, at_is, omega (arith, len_is))

  pub all_fit : (most : ℕ) → KeepsShape v.shape → length (orphans (without_file v.shape name)) ≤ most → v.log.end + 6 + length name + 38 * most + 1 ≤ v.log.limit → HaveRoom v.log (drops v.shape name)
  all_fit most keeps few room = (
    λ full. omega (arith, full, room),
    chunks_fit (after_append v.log (suc (length name))) (orphans (without_file v.shape name)) (left_named v.shape name keeps) (omega (arith, few, room)),
  )

  -- that of a chunk has none
  pub chunk_full : (most device at : ℕ) → KeepsShape v.shape → most < length (orphans (without_file v.shape name)) → device ≡ v.log.device → at ≡ v.log.end + 6 + length name + 38 * most → at + 1 ≤ v.log.limit → v.log.limit < at + 39
      → IsFirstWithout v.log (drops v.shape name) device at 33
  chunk_full most device at keeps many device_is at_is room full =
      let log = after_append v.log (suc (length name)) in
      let records = each DropChunkRecord (orphans (without_file v.shape name)) in
      inr (
        λ none. omega (arith, none, room, at_is),
        subst (λ (x : ℕ). IsFirstWithout log records x at 33) (sym device_is)
            (subst (λ (x : ℕ). IsFirstWithout log records v.log.device x 33) (omega (arith, at_is))
            (chunks_full log (orphans (without_file v.shape name)) most (left_named v.shape name keeps) many (omega (arith, room, at_is)) (omega (arith, full, at_is)))),
      )

-- a file that is held has a short name
pub name_short : (shape : Shape) (name : List ℕ) → KeepsShape shape → map.contains_key shape.files name ≡ true → length name ≤ 255
name_short shape name keeps held = (key_has shape.files IsFileName keeps.names name held).short

-- IN THE LOGS OF A SITE

fit_a : (l : Logs) (records : List VolumeRecord) → HaveRoom l.a records → AllFit l (each (append_to A) records)
fit_a l [] room = tt
fit_a l (r ∷ records) room = (room.0, fit_a (logs_with l (append_to A r)) records room.1)

fit_b : (l : Logs) (records : List VolumeRecord) → HaveRoom l.b records → AllFit l (each (append_to B) records)
fit_b l [] room = tt
fit_b l (r ∷ records) room = (room.0, fit_b (logs_with l (append_to B r)) records room.1)

full_a : (l : Logs) (records : List VolumeRecord) (device at len : ℕ) → IsFirstWithout l.a records device at len → IsFirstFull l (each (append_to A) records) device at len
full_a l [] device at len full = absurd full
full_a l (r ∷ records) device at len (inl here) = inl (record { full = here.0; device_is = here.1; at_is = here.2; len_is = here.3 })
full_a l (r ∷ records) device at len (inr later) = inr (later.0, full_a (logs_with l (append_to A r)) records device at len later.1)

full_b : (l : Logs) (records : List VolumeRecord) (device at len : ℕ) → IsFirstWithout l.b records device at len → IsFirstFull l (each (append_to B) records) device at len
full_b l [] device at len full = absurd full
full_b l (r ∷ records) device at len (inl here) = inl (record { full = here.0; device_is = here.1; at_is = here.2; len_is = here.3 })
full_b l (r ∷ records) device at len (inr later) = inr (later.0, full_b (logs_with l (append_to B r)) records device at len later.1)

pub fit_on : (side : Side) (v : SiteValue) (records : List VolumeRecord) → HaveRoom (on_side side v).log records → AllFit (logs_in v) (each (append_to side) records)
fit_on A v records room = fit_a (logs_in v) records room
fit_on B v records room = fit_b (logs_in v) records room

pub full_on : (side : Side) (v : SiteValue) (records : List VolumeRecord) (device at len : ℕ) → IsFirstWithout (on_side side v).log records device at len → IsFirstFull (logs_in v) (each (append_to side) records) device at len
full_on A v records device at len full = full_a (logs_in v) records device at len full
full_on B v records device at len full = full_b (logs_in v) records device at len full
