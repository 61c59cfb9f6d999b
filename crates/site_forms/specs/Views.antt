-- What a reader sees: the contents of files, the view of a site, and its origin.
use Rattle.std.specs.Prelude.{ℕ, List, [], ◌++◌, Option, if◌then◌else◌}
use Rattle.std.specs.List.{flat_map}
use Rattle.std.specs.Option.{option_map}
use Rattle.std.specs.FinMap as map
use Rattle.site_forms.specs.declared.phase.Phase.{Phase}
use Rattle.site_forms.specs.Volumes.{Volume, Files, chunk_or}

-- two volumes and the phase of a migration between them
pub record State : Type 0 where
  pub a : Volume
  pub b : Volume
  pub phase : Phase

-- the bytes of chunks, joined
abbrev pub joined_bytes : Volume → List (List ℕ) → List ℕ
joined_bytes volume list = flat_map (chunk_or [] volume) list

-- what a volume has under a name
abbrev pub content : Volume → List ℕ → Option (List ℕ)
content volume name = option_map (joined_bytes volume) (map.get volume.files name)

-- what a site shows under a name: A's content where A holds the file, else B's
abbrev pub view : State → List ℕ → Option (List ℕ)
view s name = if map.contains_key s.a.files name then content s.a name else content s.b name

-- the lists of A's files joined with those of B's; under a name of both the list of A
abbrev pub joined_files : Files → Files → Files
joined_files a b = map.from_entries (map.entries a ++ map.entries b)

-- the files of both volumes, by which an undo restores A
abbrev pub origin : State → Files
origin s = joined_files s.a.files s.b.files
