-- The next action of a migration, and how many actions are left.
use Rattle.std.specs.Prelude.{ℕ, ◌+◌, not, List, [], length, slice_get, Option, Some, None, unwrap_or}
use Rattle.std.specs.List.{filter, flat_map, position}
use Rattle.std.specs.FinMap as map
use Rattle.site_forms.specs.declared.phase.Phase.{Phase}
use Rattle.site_forms.specs.declared.phase.Phase.TheVariants.{Idle, Moving, Moved, Undoing}
use Rattle.site_forms.specs.Names.{is_listed}
use Rattle.site_forms.specs.Volumes.{bytes_cmp, VolumeOf, Shape, Files, used, distinct_count}
use Rattle.volume_index.specs.HoldingValues.{orphans}
use Rattle.site_core.specs.declared.action.Action.{Action}
use Rattle.site_core.specs.declared.step.Step.{Step}
use Rattle.site_core.specs.declared.step.Step.TheVariants.{Copy, Add, Drop, DropChunk, Finish}
use Rattle.site_core.specs.declared.action.Action.TheVariants.{CopyToB, AddToB, DropFromA, DropChunkA, Moved as RecordMoved, CopyToA, AddToA, DropFromB, DropChunkB, Undone}

module _ {X : Type 0} where
  -- the chunks of a file; none where the volume lacks it
  abbrev pub list_of : VolumeOf X → List ℕ → List (List ℕ)
  list_of volume name = unwrap_or (map.get volume.files name) []

  -- the names that a volume lacks, and those that it holds, in order
  abbrev pub lacking_names : VolumeOf X → List (List ℕ) → List (List ℕ)
  lacking_names volume names = filter (λ name. not (map.contains_key volume.files name)) names

  abbrev pub held_names : VolumeOf X → List (List ℕ) → List (List ℕ)
  held_names volume names = filter (map.contains_key volume.files) names

-- what is to be copied: the chunks that the target lacks, of the files that it lacks, in the order of the names and then
-- of each file's chunks
abbrev pub chunks_to_copy : Shape → Shape → List (List ℕ) → List (List ℕ)
chunks_to_copy source target names = filter (λ chunk. not (map.contains_key target.chunks chunk)) (flat_map (list_of source) (lacking_names target names))

-- the files of a volume that are not named
abbrev pub files_beside : Shape → List (List ℕ) → Files
files_beside volume names = map.retain_keys volume.files (λ name. not (is_listed names name))

-- what is to be dropped in the end: the chunks of the source that only named files use, or none
abbrev pub chunks_to_drop : Shape → List (List ℕ) → map.FinMap bytes_cmp ℕ
chunks_to_drop source names = map.retain_keys source.chunks (λ chunk. not (map.contains_key (used (files_beside source names)) chunk))

-- the first that there is of: a chunk to copy, a file to add, a file to drop, a chunk to drop; else the end
abbrev pub first_step : Option (List ℕ) → Option ℕ → Option ℕ → Option (List ℕ) → Step
first_step (Some chunk) to_add to_drop orphan = Copy chunk
first_step None (Some place) to_drop orphan = Add place
first_step None None (Some place) orphan = Drop place
first_step None None None (Some chunk) = DropChunk chunk
first_step None None None None = Finish

-- the first chunk to copy; the first name that the target lacks; the first name that the source holds; the least chunk of
-- the source that no file uses
abbrev pub next_step : Shape → Shape → List (List ℕ) → Step
next_step source target names =
    first_step (slice_get (chunks_to_copy source target names) 0) (position (λ name. not (map.contains_key target.files name)) names) (position (map.contains_key source.files) names)
    (slice_get (orphans source) 0)

-- from A to B, and back
abbrev pub forth : Step → Action
forth (Copy chunk) = CopyToB chunk
forth (Add place) = AddToB place
forth (Drop place) = DropFromA place
forth (DropChunk chunk) = DropChunkA chunk
forth Finish = RecordMoved

abbrev pub back : Step → Action
back (Copy chunk) = CopyToA chunk
back (Add place) = AddToA place
back (Drop place) = DropFromB place
back (DropChunk chunk) = DropChunkB chunk
back Finish = Undone

-- the next action; none exactly in Idle and Moved
abbrev pub next_of : Shape → Shape → Phase → Option Action
next_of a b Idle = None
next_of a b (Moving names) = Some (forth (next_step a b names))
next_of a b (Moved names) = None
next_of a b (Undoing names) = Some (back (next_step b a names))

-- how many actions are left from a source to a target: each chunk to copy, each file to add, each file to drop, each chunk
-- to drop, and the end
abbrev pub steps_left : Shape → Shape → List (List ℕ) → ℕ
steps_left source target names =
    distinct_count (chunks_to_copy source target names) + length (lacking_names target names) + length (held_names source names) + map.len (chunks_to_drop source names) + 1

abbrev pub remaining : Shape → Shape → Phase → ℕ
remaining a b Idle = 0
remaining a b (Moving names) = steps_left a b names
remaining a b (Moved names) = 0
remaining a b (Undoing names) = steps_left b a names
