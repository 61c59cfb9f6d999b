-- What an index keeps.
use Rattle.std.specs.Prelude.{◌≡◌, ℕ, ◌≤◌, ◌<◌, [], false, List, slice_index_or, Some}
use Rattle.std.specs.FinMap as map
use Rattle.site_forms.specs.Volumes.{Files, used, pair_count}
use Rattle.volume_index.specs.ChunkTables.{has_users}
use Rattle.volume_index.specs.declared.chunk_table.ChunkEntry.{ChunkEntry}
use Rattle.volume_index.specs.declared.index.Index.TheInside.{Inside}
use Rattle.volume_index.specs.Indexes.{IndexValue}
use Rattle.volume_index.specs.MapValues.{map_values}
use Rattle.volume_index.specs.HoldingValues.{KeepsShape, held_bytes}
use Rattle.volume_index.specs.Users.{user_count}

abbrev pub view_of : Inside → IndexValue
view_of a = record {
  shape = record { chunks = map_values (λ (e : ChunkEntry). e.len) a.chunks.entries; files = a.files.files };
  places = map_values (λ (e : ChunkEntry). e.place) a.chunks.entries;
  is_ordered = a.chunks.is_ordered;
  chunk_room = a.chunks.room;
  file_room = a.files.room;
}

-- an entry counts the files that use its chunk, and no list is in work
pub record CountsUsers (files : Files) (name : List ℕ) (e : ChunkEntry) : Type 0 where
  pub users : e.users ≡ user_count files name
  pub free : e.is_marked ≡ false

-- the numbers are those of the files and chunks; and each chunk before the place `first` of their order is used
pub record KeepsIndex (a : Inside) : Type 0 where
  pub shape : KeepsShape (view_of a).shape
  pub users : (name : List ℕ) (e : ChunkEntry) → map.get a.chunks.entries name ≡ Some e → CountsUsers a.files.files name e
  pub used : a.used ≡ map.len (used a.files.files)
  pub pairs : a.pairs ≡ pair_count a.files.files
  pub bytes : a.bytes ≡ held_bytes (view_of a).shape
  pub within : a.first ≤ map.len a.chunks.entries
  pub first : (j : ℕ) → j < a.first → has_users 0 a.chunks.entries (slice_index_or (map.keys a.chunks.entries) j []) ≡ false
