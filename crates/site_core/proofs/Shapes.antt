-- A record does to the shape of a volume what it does to the volume.
use Rattle.std.proofs.Common.{◌≡◌, ℕ, List, [], length, Bool, true, false, Option, Some, None, refl, sym, ◌∙◌, ap}
use Rattle.std.specs.Prelude.{◌&&◌, not, nat_le, unwrap_or, if◌then◌else◌}
use Rattle.std.specs.List.{list_all}
use Rattle.std.specs.Option.{option_map}
use Rattle.std.specs.FinMap as map
use Rattle.site_forms.specs.Names.{is_name}
use Rattle.site_forms.specs.Sites.{shape_of}
use Rattle.site_forms.specs.VolumeRecords.{VolumeRecord}
use Rattle.site_forms.specs.VolumeRecords.VolumeRecord.{ChunkRecord, FileRecord, DropFileRecord, DropChunkRecord}
use Rattle.site_forms.specs.Volumes.{Volume, Shape, chunk_or, used, keeps_limits, may_add_file, may_drop_chunk, with_chunk, with_file, without_file, without_chunk, volume_after, shape_after}
use Rattle.volume_index.proofs.MapValues.{get-map_values, contains-map_values, insert-map_values, remove-map_values}

unwrap_length : (o : Option (List ℕ)) → unwrap_or (option_map length o) 0 ≡ length (unwrap_or o [])
unwrap_length None = refl
unwrap_length (Some bytes) = refl

-- the shape has the length of each chunk
pub same_length : (volume : Volume) (chunk : List ℕ) → chunk_or 0 (shape_of volume) chunk ≡ length (chunk_or [] volume chunk)
same_length volume chunk = ap (λ (o : Option ℕ). unwrap_or o 0) (get-map_values length volume.chunks chunk) ∙ unwrap_length (map.get volume.chunks chunk)

-- and holds the same chunks
pub same_held : (volume : Volume) (chunk : List ℕ) → map.contains_key (shape_of volume).chunks chunk ≡ map.contains_key volume.chunks chunk
same_held volume chunk = contains-map_values length volume.chunks chunk

same_file : (volume : Volume) (name : List ℕ) (list : List (List ℕ)) → may_add_file (λ n. n) 0 (shape_of volume) name list ≡ may_add_file length [] volume name list
same_file volume name list = λ i.
    is_name name
    && (not (map.contains_key volume.files name)
    && (list_all (λ chunk. same_held volume chunk i) list && (nat_le (length list) 524279 && keeps_limits (λ chunk. same_length volume chunk i) (map.insert volume.files name list))))

chosen : (b : Bool) (shape : Shape) (volume : Volume) → shape ≡ shape_of volume → (if b then Some shape else None) ≡ option_map shape_of (if b then Some volume else None)
chosen true shape volume is = ap Some is
chosen false shape volume is = refl

refused : (b : Bool) (shape : Shape) (volume : Volume) → shape ≡ shape_of volume → (if b then None else Some shape) ≡ option_map shape_of (if b then None else Some volume)
refused true shape volume is = refl
refused false shape volume is = ap Some is

put_chunk : (volume : Volume) (name bytes : List ℕ) → with_chunk (shape_of volume) name (length bytes) ≡ shape_of (with_chunk volume name bytes)
put_chunk volume name bytes = λ i. record { chunks = sym (insert-map_values length volume.chunks name bytes) i; files = volume.files }

drop_chunk : (volume : Volume) (name : List ℕ) → without_chunk (shape_of volume) name ≡ shape_of (without_chunk volume name)
drop_chunk volume name = λ i. record { chunks = sym (remove-map_values length volume.chunks name) i; files = volume.files }

same_drop : (volume : Volume) (name : List ℕ) → may_drop_chunk (shape_of volume) name ≡ may_drop_chunk volume name
same_drop volume name = λ i. same_held volume name i && not (map.contains_key (used volume.files) name)

pub shape_step : (volume : Volume) (r : VolumeRecord) → shape_after (shape_of volume) r ≡ option_map shape_of (volume_after volume r)
shape_step volume (ChunkRecord name bytes) =
    ap (λ (b : Bool). if b then None else Some (with_chunk (shape_of volume) name (length bytes))) (same_held volume name)
    ∙ refused (map.contains_key volume.chunks name) (with_chunk (shape_of volume) name (length bytes)) (with_chunk volume name bytes) (put_chunk volume name bytes)
shape_step volume (FileRecord name list) =
    ap (λ (b : Bool). if b then Some (with_file (shape_of volume) name list) else None) (same_file volume name list)
    ∙ chosen (may_add_file length [] volume name list) (with_file (shape_of volume) name list) (with_file volume name list) refl
shape_step volume (DropFileRecord name) = chosen (map.contains_key volume.files name) (without_file (shape_of volume) name) (without_file volume name) refl
shape_step volume (DropChunkRecord name) =
    ap (λ (b : Bool). if b then Some (without_chunk (shape_of volume) name) else None) (same_drop volume name)
    ∙ chosen (may_drop_chunk volume name) (without_chunk (shape_of volume) name) (without_chunk volume name) (drop_chunk volume name)
