-- The spare room of a volume.
use Rattle.std.specs.Prelude.{ℕ, ◌+◌, ◌*◌, ◌≤◌, length}
use Rattle.site_forms.specs.VolumeRecords.{VolumeRecord}
use Rattle.site_forms.specs.VolumeRecords.VolumeRecord.{ChunkRecord, FileRecord, DropFileRecord, DropChunkRecord}
use Rattle.chunk_volume.specs.VolumeValues.{Room}

-- how much of the room for chunks, and of that for files, a record takes
abbrev pub chunks_taken : VolumeRecord → ℕ
chunks_taken (ChunkRecord name bytes) = 1
chunks_taken (FileRecord name list) = 0
chunks_taken (DropFileRecord name) = 0
chunks_taken (DropChunkRecord name) = 0

abbrev pub files_taken : VolumeRecord → ℕ
files_taken (ChunkRecord name bytes) = 0
files_taken (FileRecord name list) = 1
files_taken (DropFileRecord name) = 0
files_taken (DropChunkRecord name) = 0

-- how long its body is, where the names of chunks have 32 bytes each
abbrev pub body_taken : VolumeRecord → ℕ
body_taken (ChunkRecord name bytes) = 33 + length bytes
body_taken (FileRecord name list) = 2 + length name + 32 * length list
body_taken (DropFileRecord name) = 1 + length name
body_taken (DropChunkRecord name) = 33

-- a record for which there is room, so that no memory is wanted
pub record HasRoomFor (room : Room) (r : VolumeRecord) : Type 0 where
  pub chunks : chunks_taken r ≤ room.chunks
  pub files : files_taken r ≤ room.files
  pub body : body_taken r ≤ room.body

-- no less room
pub record KeepsRoom (old new : Room) : Type 0 where
  pub chunks : old.chunks ≤ new.chunks
  pub files : old.files ≤ new.files
  pub body : old.body ≤ new.body

-- no less room but for what a record takes
pub record TakesRoom (r : VolumeRecord) (old new : Room) : Type 0 where
  pub chunks : old.chunks ≤ new.chunks + chunks_taken r
  pub files : old.files ≤ new.files + files_taken r
  pub body : old.body ≤ new.body
