-- Where the bytes of chunks are, over appends to the log and calls on other devices.
use Rattle.std.proofs.Common.{◌≡◌, ℕ, ◌+◌, ◌≤◌, ◌<◌, List, [], ◌∷◌, ◌++◌, length, take, drop, Bool, true, false, Option, Some, None, refl, sym, ◌∙◌, ap, subst, arith, append_assoc, length-append}
use Rattle.std.specs.Prelude.{cond, if◌then◌else◌}
use Rattle.std.proofs.lemmas.Option.{none-some}
use Rattle.std.specs.Ordering.{eq_by_cmp}
use Rattle.std.specs.Cmp.Lexicographic.{nat_list_cmp_total}
use Rattle.std.specs.FinMap as map
use Rattle.std.specs.Int.{w32, to_be_bytes}
use Rattle.std.proofs.lemmas.List.{take-take, drop-take, drop-drop, take_at, drop_at}
use Rattle.volume_disk.proofs.Within.{take_written, drop_written}
use Rattle.volume_disk.specs.Medium.{written}
use Rattle.volume_disk.specs.Edited.{length-written}
use Rattle.site_forms.specs.Logs.{framed}
use Rattle.site_forms.proofs.Logs.{framed_apart}
use Rattle.site_forms.proofs.Records.{some_if}
use Rattle.site_forms.specs.VolumeRecords.{VolumeRecord, IsVolumeRecord, volume_body}
use Rattle.site_forms.specs.VolumeRecords.VolumeRecord.{ChunkRecord, FileRecord, DropFileRecord, DropChunkRecord}
use Rattle.site_forms.specs.Volumes.{bytes_cmp, Volume, with_chunk, with_file, without_file, without_chunk, may_add_file, may_drop_chunk, volume_after}
use Rattle.chunk_log.specs.Bodies.{with_block}
use Rattle.chunk_log.proofs.Bodies.{framed_behind}
use Rattle.chunk_volume.specs.Adding.{places_after}
use Rattle.chunk_volume.specs.Standing.{HasBytesAt, Keeps}
use Rattle.volume_index.specs.HoldingValues.{Places}

-- the same bytes before an end, the same bytes of each range before it
pub same_range : (x y : List ℕ) (end place n : ℕ) → take end x ≡ take end y → place + n ≤ end → take n (drop place x) ≡ take n (drop place y)
same_range x y end place n same within =
    sym (drop-take place n x)
    ∙ ap (λ (l : List ℕ). drop place l) (sym (take-take (place + n) end x within) ∙ ap (λ (l : List ℕ). take (place + n) l) same ∙ take-take (place + n) end y within)
    ∙ drop-take place n y

-- bytes before an end stay where the image before it does, and the end only grows
pub bytes_stay : (x y : List ℕ) (end after place : ℕ) (bytes : List ℕ) → take end y ≡ take end x → end ≤ after → HasBytesAt x end place bytes → HasBytesAt y after place bytes
bytes_stay x y end after place bytes same grows there = record {
  within = omega (arith, there.within, grows);
  same = same_range y x end place (length bytes) same there.within ∙ there.same;
}

-- so does all that is kept
pub keeps_stay : (places : Places) (x y : List ℕ) (end after : ℕ) (volume : Volume) → take end y ≡ take end x → end ≤ after → Keeps places x end volume → Keeps places y after volume
keeps_stay places x y end after volume same grows keeps name bytes held =
    let was = keeps name bytes held in
    (was.0, was.1, bytes_stay x y end after was.0 bytes same grows was.2)

-- AN APPEND

place_behind : (end : ℕ) → end + 38 ≡ end + 5 + 33
place_behind end = omega arith

-- what a map has under a name once one is put in, or taken out
pub by_key : (P : Type 0) (b : Bool) (x held : List ℕ) (o : Option (List ℕ)) → cond b (Some x) o ≡ Some held → (b ≡ true → x ≡ held → P) → (b ≡ false → o ≡ Some held → P) → P
by_key P true x held o is new old = new refl cc
by_key P false x held o is new old = old refl is

not_dropped : (b : Bool) (o : Option (List ℕ)) (held : List ℕ) → cond b None o ≡ Some held → (b ≡ false) × (o ≡ Some held)
not_dropped true o held is = absurd (none-some held is)
not_dropped false o held is = (refl, is)

none_if : (b : Bool) (x after : Volume) → (if b then None else Some x) ≡ Some after → x ≡ after
none_if true x after is = absurd (none-some after is)
none_if false x after is = cc

-- ONE RECORD MORE

module _ (x y : List ℕ) (end after : ℕ) (same : take end y ≡ take end x) (grows : end ≤ after) where
  -- all that is kept is kept where a chunk is added
  with_one : (places : Places) (volume : Volume) (name bytes : List ℕ) → HasBytesAt y after (end + 38) bytes → Keeps places x end volume → Keeps (map.insert places name (end + 38)) y after (with_chunk volume name bytes)
  with_one places volume name bytes new_there keeps q held is =
      let there = map.get-insert nat_list_cmp_total places name (end + 38) q in
      by_key ((p : ℕ) × (map.get (map.insert places name (end + 38)) q ≡ Some p) × HasBytesAt y after p held) (eq_by_cmp bytes_cmp q name) bytes held (map.get volume.chunks q)
      (sym (map.get-insert nat_list_cmp_total volume.chunks name bytes q) ∙ is)
      (λ equal new. (
        end + 38,
        there ∙ ap (λ (b : Bool). cond b (Some (end + 38)) (map.get places q)) equal,
        subst (λ (l : List ℕ). HasBytesAt y after (end + 38) l) new new_there,
      ))
      (λ other old.
      let was = keeps q held old in (
        was.0,
        there ∙ ap (λ (b : Bool). cond b (Some (end + 38)) (map.get places q)) other ∙ was.1,
        bytes_stay x y end after was.0 held same grows was.2,
      ))

  -- and where one is dropped
  without_one : (places : Places) (volume : Volume) (name : List ℕ) → Keeps places x end volume → Keeps (map.remove places name) y after (without_chunk volume name)
  without_one places volume name keeps q held is =
      let old = not_dropped (eq_by_cmp bytes_cmp q name) (map.get volume.chunks q) held (sym (map.get-remove nat_list_cmp_total volume.chunks name q) ∙ is) in
      let was = keeps q held old.1 in (
        was.0,
        map.get-remove nat_list_cmp_total places name q ∙ ap (λ (b : Bool). cond b None (map.get places q)) old.0 ∙ was.1,
        bytes_stay x y end after was.0 held same grows was.2,
      )

  -- each record keeps all that is kept, where a chunk's bytes are there
  pub record_keeps : (places : Places) (volume next : Volume) (r : VolumeRecord) → ((name bytes : List ℕ) → r ≡ ChunkRecord name bytes → HasBytesAt y after (end + 38) bytes) → volume_after volume r ≡ Some next
      → Keeps places x end volume → Keeps (places_after end places r) y after next
  record_keeps places volume next (ChunkRecord name bytes) there is keeps =
      let new = none_if (map.contains_key volume.chunks name) (with_chunk volume name bytes) next is in
      subst (λ (v : Volume). Keeps (map.insert places name (end + 38)) y after v) new (with_one places volume name bytes (there name bytes refl) keeps)
  record_keeps places volume next (FileRecord name list) there is keeps =
      let new = (some_if (may_add_file length [] volume name list) (with_file volume name list) next is).1 in
      subst (λ (v : Volume). Keeps places y after v) new (keeps_stay places x y end after (with_file volume name list) same grows keeps)
  record_keeps places volume next (DropFileRecord name) there is keeps =
      let new = (some_if (map.contains_key volume.files name) (without_file volume name) next is).1 in
      subst (λ (v : Volume). Keeps places y after v) new (keeps_stay places x y end after (without_file volume name) same grows keeps)
  record_keeps places volume next (DropChunkRecord name) there is keeps =
      let new = (some_if (may_drop_chunk volume name) (without_chunk volume name) next is).1 in
      subst (λ (v : Volume). Keeps (map.remove places name) y after v) new (without_one places volume name keeps)

-- the name and the bytes of a record
same_name : (name other bytes held : List ℕ) → ChunkRecord name bytes ≡ ChunkRecord other held → name ≡ other
same_name name other bytes held is = cc

same_held : (name other bytes held : List ℕ) → ChunkRecord name bytes ≡ ChunkRecord other held → bytes ≡ held
same_held name other bytes held is = cc

module _ (image : List ℕ) (end : ℕ) (inside : end < length image) where
  -- nothing before the gate changes
  pub block_front : (body : List ℕ) → take end (with_block image end body) ≡ take end image
  block_front body =
      let first = written image (end + 1) (framed body) in
      take_written first end (1 ∷ []) (omega (arith, inside, length-written image (end + 1) (framed body)))
      ∙ sym (take-take end (end + 1) first (omega arith))
      ∙ ap (λ (l : List ℕ). take end l) (take_written image (end + 1) (framed body) (omega (arith, inside)))
      ∙ take-take end (end + 1) image (omega arith)

  -- the body stands behind the gate and its length
  block_body : (body : List ℕ) → drop (end + 5) (with_block image end body) ≡ body ++ 0 ∷ drop (end + 1 + length (framed body)) image
  block_body body =
      let first = written image (end + 1) (framed body) in
      let junk = drop (end + 1 + length (framed body)) image in
      let head = to_be_bytes w32 (length body) in
      let gate : drop end (with_block image end body) ≡ 1 ∷ drop (end + 1) first =
      drop_written first end (1 ∷ []) (omega (arith, inside, length-written image (end + 1) (framed body))) in
      sym (drop-drop 5 end (with_block image end body))
      ∙ ap (λ (l : List ℕ). drop 5 l) (gate ∙ ap (λ (l : List ℕ). 1 ∷ l) (framed_behind image (framed body) body end inside refl ∙ framed_apart body junk))
      ∙ drop_at head (body ++ 0 ∷ junk) 4 refl

  -- so the bytes of a chunk stand behind the gate, the length, the kind and the name
  chunk_there : (name bytes : List ℕ) → length name ≡ 32 → HasBytesAt (with_block image end (1 ∷ (name ++ bytes))) (end + 5 + length (1 ∷ (name ++ bytes))) (end + 38) bytes
  chunk_there name bytes named =
      let body = 1 ∷ (name ++ bytes) in
      let rest = 0 ∷ drop (end + 1 + length (framed body)) image in
      let behind : drop (end + 38) (with_block image end body) ≡ bytes ++ rest =
      ap (λ (n : ℕ). drop n (with_block image end body)) (place_behind end)
      ∙ sym (drop-drop 33 (end + 5) (with_block image end body))
      ∙ ap (λ (l : List ℕ). drop 33 l) (block_body body ∙ append_assoc (1 ∷ name) bytes rest)
      ∙ drop_at (1 ∷ name) (bytes ++ rest) 33 (omega (arith, named)) in
      record {
        within = omega (arith, named, length-append name bytes);
        same = ap (λ (l : List ℕ). take (length bytes) l) behind ∙ take_at bytes rest (length bytes) refl;
      }

  there_after : (r : VolumeRecord) (name bytes : List ℕ) → IsVolumeRecord r → r ≡ ChunkRecord name bytes → HasBytesAt (with_block image end (volume_body r)) (end + 5 + length (volume_body r)) (end + 38) bytes
  there_after (ChunkRecord own held) name bytes lawful is = subst (λ (l : List ℕ). HasBytesAt (with_block image end (1 ∷ (own ++ held))) (end + 5 + length (1 ∷ (own ++ held))) (end + 38) l) (same_held own name held bytes is) (chunk_there own held lawful.0)
  there_after (FileRecord own list) name bytes lawful is = cc
  there_after (DropFileRecord own) name bytes lawful is = cc
  there_after (DropChunkRecord own) name bytes lawful is = cc

  -- each record keeps all that is kept
  pub keeps_after : (places : Places) (volume after : Volume) (r : VolumeRecord) → IsVolumeRecord r → volume_after volume r ≡ Some after → Keeps places image end volume
      → Keeps (places_after end places r) (with_block image end (volume_body r)) (end + 5 + length (volume_body r)) after
  keeps_after places volume after r lawful is keeps =
      record_keeps image (with_block image end (volume_body r)) end (end + 5 + length (volume_body r)) (block_front (volume_body r)) (omega arith) places volume after r
      (λ name bytes same. there_after r name bytes lawful same) is keeps
