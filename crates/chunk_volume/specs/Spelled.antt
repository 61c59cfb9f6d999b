-- What the first bytes of a record say of it.
use Rattle.std.specs.Prelude.{◌≡◌, ℕ, ◌+◌, ◌/◌, ◌^◌, ◌<◌, ◌≤◌, List, ◌∷◌, length, take, drop, slice_index, Some, None}
use Rattle.site_forms.specs.VolumeRecords.{volume_record, names_of_chunks}
use Rattle.site_forms.specs.VolumeRecords.VolumeRecord.{ChunkRecord, FileRecord}
use Rattle.file_names.specs.FileNames.{IsFileName}

-- every body of so many bytes that begins with these is the record of a chunk of this name
pub record IsChunkFront (front : List ℕ) (len : ℕ) (name : List ℕ) : Type 0 where
  pub some : 33 < len
  pub most : len ≤ 33 + 2 ^ 20
  pub record_is : (body : List ℕ) → length body ≡ len → front ≡ take 33 body → volume_record body ≡ Some (ChunkRecord name (drop 33 body))

-- no body of so many bytes and kind 1 is a record
abbrev pub IsNoChunk : ℕ → Type 0
IsNoChunk len = (body : List ℕ) → length body ≡ len → slice_index body 0 ≡ 1 → volume_record body ≡ None

-- behind kind 2, the record of a file with a lawful name and chunks of these names, one after the other
pub record IsFileSpelled (rest name chunks : List ℕ) : Type 0 where
  pub lawful : IsFileName name
  pub record_is : volume_record (2 ∷ rest) ≡ Some (FileRecord name (names_of_chunks (length chunks / 32) chunks))
