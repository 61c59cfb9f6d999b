-- Volumes: the fold of their records.
use Rattle.std.specs.Prelude.{ℕ, Bool, ◌&&◌, not, nat_le, List, [], ◌∷◌, length, map as each, sum_by, unwrap_or, Option, Some, None, if◌then◌else◌}
use Rattle.std.specs.List.{list_all, flat_map}
use Rattle.std.specs.Option.{option_and_then}
use Rattle.std.specs.Ordering.{nat_cmp}
use Rattle.std.specs.Cmp.Lexicographic.{slice_cmp}
use Rattle.std.specs.declared.cmp.Ordering.{Ordering}
use Rattle.std.specs.FinMap as map
use Rattle.seed_model.specs.declared.limits.TheConstants.{MOST_FILES, MOST_CHUNKS, MOST_PAIRS, MOST_BYTES}
use Rattle.site_forms.specs.Names.{is_name}
use Rattle.site_forms.specs.VolumeRecords.{VolumeRecord, volume_record}
use Rattle.site_forms.specs.VolumeRecords.VolumeRecord.{ChunkRecord, FileRecord, DropFileRecord, DropChunkRecord}

-- the order of names, byte by byte
abbrev pub bytes_cmp : List ℕ → List ℕ → Ordering
bytes_cmp = slice_cmp nat_cmp

-- from names of files to lists of chunk names
abbrev pub Files : Type 0
Files = map.FinMap bytes_cmp (List (List ℕ))

-- files, and what is known of each chunk by name
pub record VolumeOf (X : Type 0) : Type 0 where
  pub chunks : map.FinMap bytes_cmp X
  pub files : Files

-- a volume with the bytes of its chunks
abbrev pub Volume : Type 0
Volume = VolumeOf (List ℕ)

-- a volume with the length of each chunk in place of its bytes
abbrev pub Shape : Type 0
Shape = VolumeOf ℕ

-- a volume with nothing
abbrev pub empty_volume : {X : Type 0} → VolumeOf X
empty_volume = record { chunks = map.empty; files = map.empty }

-- the lists of all files, joined
abbrev pub all_lists : Files → List (List ℕ)
all_lists files = flat_map (λ list. list) (map.values files)

-- a set of names
abbrev pub NameSet : Type 0
NameSet = map.FinMap bytes_cmp (Unit {0})

-- the set of the names in a list
abbrev pub set_of : List (List ℕ) → NameSet
set_of names = map.from_entries (each (λ name. (name, tt)) names)

-- the chunks that files use
abbrev pub used : Files → NameSet
used files = set_of (all_lists files)

-- how many distinct chunks a list has
abbrev pub distinct_count : List (List ℕ) → ℕ
distinct_count list = map.len (set_of list)

-- the pairs of a file and a chunk that it uses
abbrev pub pair_count : Files → ℕ
pair_count files = sum_by distinct_count (map.values files)

-- the bytes of the chunks that files use, from the length of each
abbrev pub used_bytes : (List ℕ → ℕ) → Files → ℕ
used_bytes length_of files = sum_by length_of (map.keys (used files))

-- whether files, with the chunks that they use, keep the limits of a recipe
abbrev pub keeps_limits : (List ℕ → ℕ) → Files → Bool
keeps_limits length_of files =
    nat_le (map.len files) MOST_FILES && (nat_le (map.len (used files)) MOST_CHUNKS && (nat_le (pair_count files) MOST_PAIRS && nat_le (used_bytes length_of files) MOST_BYTES))

module _ {X : Type 0} where
  -- what is known of a chunk, or a value in its place where the volume lacks it
  abbrev pub chunk_or : X → VolumeOf X → List ℕ → X
  chunk_or none volume name = unwrap_or (map.get volume.chunks name) none

  -- whether a volume holds all chunks of a list
  abbrev pub holds_all : VolumeOf X → List (List ℕ) → Bool
  holds_all volume list = list_all (map.contains_key volume.chunks) list

  -- with a chunk, a file; without a file, a chunk
  abbrev pub with_chunk : VolumeOf X → List ℕ → X → VolumeOf X
  with_chunk volume name value = record { chunks = map.insert volume.chunks name value; files = volume.files }

  abbrev pub with_file : VolumeOf X → List ℕ → List (List ℕ) → VolumeOf X
  with_file volume name list = record { chunks = volume.chunks; files = map.insert volume.files name list }

  abbrev pub without_file : VolumeOf X → List ℕ → VolumeOf X
  without_file volume name = record { chunks = volume.chunks; files = map.remove volume.files name }

  abbrev pub without_chunk : VolumeOf X → List ℕ → VolumeOf X
  without_chunk volume name = record { chunks = map.remove volume.chunks name; files = volume.files }

  -- a file may be added where its name is lawful and lacking, each of its at most 524,279 chunks is held, and the files
  -- with it keep the limits
  abbrev pub may_add_file : (X → ℕ) → X → VolumeOf X → List ℕ → List (List ℕ) → Bool
  may_add_file size none volume name list =
      is_name name
      && (not (map.contains_key volume.files name)
      && (holds_all volume list && (nat_le (length list) 524279 && keeps_limits (λ chunk. size (chunk_or none volume chunk)) (map.insert volume.files name list))))

  -- a chunk may be dropped where it is held and no file uses it
  abbrev pub may_drop_chunk : VolumeOf X → List ℕ → Bool
  may_drop_chunk volume name = map.contains_key volume.chunks name && not (map.contains_key (used volume.files) name)

  -- one record; what is kept of a chunk's bytes, and their number, say which volumes these are. None where the record
  -- does not fold.
  abbrev pub after_record : (List ℕ → X) → (X → ℕ) → VolumeOf X → VolumeRecord → Option (VolumeOf X)
  after_record keep size volume (ChunkRecord name bytes) = if map.contains_key volume.chunks name then None else Some (with_chunk volume name (keep bytes))
  after_record keep size volume (FileRecord name list) = if may_add_file size (keep []) volume name list then Some (with_file volume name list) else None
  after_record keep size volume (DropFileRecord name) = if map.contains_key volume.files name then Some (without_file volume name) else None
  after_record keep size volume (DropChunkRecord name) = if may_drop_chunk volume name then Some (without_chunk volume name) else None

-- one record of a volume, and of its shape
abbrev pub volume_after : Volume → VolumeRecord → Option Volume
volume_after volume r = after_record (λ bytes. bytes) length volume r

abbrev pub shape_after : Shape → VolumeRecord → Option Shape
shape_after shape r = after_record length (λ n. n) shape r

-- one body; none where it spells no record or its record does not fold
abbrev pub volume_step : Volume → List ℕ → Option Volume
volume_step volume body = option_and_then (λ r. volume_after volume r) (volume_record body)

-- a fold of bodies that may stop
abbrev pub fold_from : {S : Type 0} → (S → List ℕ → Option S) → S → List (List ℕ) → Option S
fold_from step state [] = Some state
fold_from step state (body ∷ bodies) = option_and_then (λ next. fold_from step next bodies) (step state body)

-- the volume of records; none where some record does not fold
abbrev pub volume_of : List (List ℕ) → Option Volume
volume_of bodies = fold_from volume_step empty_volume bodies
