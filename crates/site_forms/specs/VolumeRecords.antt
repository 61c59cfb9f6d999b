-- The records of a volume, and the bodies that spell them.
use Rattle.std.specs.Prelude.{◌≡◌, ℕ, zero, suc, ◌+◌, ◌-◌, ◌/◌, ◌%◌, ◌^◌, ◌≤◌, ◌==◌, ◌&&◌, nat_le, List, [], ◌∷◌, ◌++◌, length, take, drop, All, Option, Some, None, if◌then◌else◌}
use Rattle.std.specs.List.{concat}

-- what is added to a volume or taken out of it. A chunk's name has 32 bytes.
pub data VolumeRecord : Type 0 where
  ChunkRecord : (name : List ℕ) → (bytes : List ℕ) → VolumeRecord
  FileRecord : (name : List ℕ) → (chunks : List (List ℕ)) → VolumeRecord
  DropFileRecord : (name : List ℕ) → VolumeRecord
  DropChunkRecord : (name : List ℕ) → VolumeRecord

-- the body of a record: its kind, and its parts
abbrev pub volume_body : VolumeRecord → List ℕ
volume_body (ChunkRecord name bytes) = 1 ∷ (name ++ bytes)
volume_body (FileRecord name chunks) = 2 ∷ length name ∷ (name ++ concat chunks)
volume_body (DropFileRecord name) = 3 ∷ name
volume_body (DropChunkRecord name) = 4 ∷ name

-- a name of a chunk
abbrev pub IsChunkName : List ℕ → Type 0
IsChunkName name = length name ≡ 32

-- bytes of a chunk
pub record IsChunk (bytes : List ℕ) : Type 0 where
  pub some : 1 ≤ length bytes
  pub most : length bytes ≤ 2 ^ 20

-- a record that a body can spell
abbrev pub IsVolumeRecord : VolumeRecord → Type 0
IsVolumeRecord (ChunkRecord name bytes) = IsChunkName name × IsChunk bytes
IsVolumeRecord (FileRecord name chunks) = All IsChunkName chunks
IsVolumeRecord (DropFileRecord name) = Unit {0}
IsVolumeRecord (DropChunkRecord name) = IsChunkName name

-- so many names of chunks, one after the other
abbrev pub names_of_chunks : ℕ → List ℕ → List (List ℕ)
names_of_chunks zero bytes = []
names_of_chunks (suc n) bytes = take 32 bytes ∷ names_of_chunks n (drop 32 bytes)

-- behind kind 1: a name and from 1 to 2^20 bytes
abbrev pub chunk_record : List ℕ → Option VolumeRecord
chunk_record rest = if nat_le 33 (length rest) && nat_le (length rest) (32 + 2 ^ 20) then Some (ChunkRecord (take 32 rest) (drop 32 rest)) else None

-- behind kind 2: the length of a name, the name, and names of chunks
abbrev pub file_record : List ℕ → Option VolumeRecord
file_record [] = None
file_record (n ∷ rest) =
    if nat_le n (length rest) && (length rest - n) % 32 == 0 then Some (FileRecord (take n rest) (names_of_chunks ((length rest - n) / 32) (drop n rest))) else None

-- behind kind 4: a name
abbrev pub drop_chunk_record : List ℕ → Option VolumeRecord
drop_chunk_record rest = if length rest == 32 then Some (DropChunkRecord rest) else None

-- the record that a body spells, where it is one
abbrev pub volume_record : List ℕ → Option VolumeRecord
volume_record [] = None
volume_record (kind ∷ rest) =
    if kind == 1
    then chunk_record rest
    else (if kind == 2 then file_record rest else (if kind == 3 then Some (DropFileRecord rest) else (if kind == 4 then drop_chunk_record rest else None)))
