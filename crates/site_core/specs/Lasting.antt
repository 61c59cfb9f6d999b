-- What lasts over the events of a site.
use Rattle.std.specs.Prelude.{◌≡◌, ◌≢◌, ℕ, ◌+◌, true, List, [], ◌∷◌, ◌++◌, Option, Some, None, unwrap_or, if◌then◌else◌}
use Rattle.std.specs.Option.{option_and_then, option_map}
use Rattle.std.specs.Str.{bytes_eq}
use Rattle.std.specs.FinMap as map
use Rattle.sha2.specs.Sha256.{sha256}
use Rattle.site_forms.specs.declared.phase.Phase.{Phase}
use Rattle.site_forms.specs.declared.phase.Phase.TheVariants.{Idle, Moving, Moved, Undoing}
use Rattle.site_forms.specs.JournalRecords.JournalRecord.{BeginRecord}
use Rattle.site_forms.specs.Names.{is_listed, is_name_list}
use Rattle.site_forms.specs.Phases.{names_of}
use Rattle.site_forms.specs.Sites.{Fits, IsFolded, IsSite, IsTidy, shape_of}
use Rattle.site_forms.specs.Views.{State, view, origin, joined_bytes}
use Rattle.site_forms.specs.VolumeRecords.VolumeRecord.{ChunkRecord, FileRecord, DropFileRecord, DropChunkRecord}
use Rattle.site_forms.specs.Volumes.{Volume, chunk_or, empty_volume}
use Rattle.volume_index.specs.HoldingValues.{KeepsShape}
use Rattle.site_core.specs.Steps.{remaining}
use Rattle.site_core.specs.Events.{Append, Event, Shapes, happens_to, after}
use Rattle.site_core.specs.Events.Append.{ToA, ToB, ToJournal}
use Rattle.site_core.specs.Events.Event.{Appends, Reads, Reopens}

-- a state that records fold to, and that is a site
pub record IsFoldedSite (s : State) : Type 0 where
  pub folds : IsFolded s
  pub site : IsSite s

-- what two volumes in memory and a phase keep, over every rack
pub record IsKept (t : Shapes) : Type 0 where
  pub a : KeepsShape t.a
  pub b : KeepsShape t.b
  pub names : is_name_list (names_of t.phase) ≡ true
  pub fits : Fits t.a t.b t.phase

-- a record more folds, and keeps that
pub record KeepsWith (t : Shapes) (x : Append) : Type 0 where
  pub next : Shapes
  pub folds : happens_to t x ≡ Some next
  pub kept : IsKept next

-- READS

-- the bytes of a chunk, where the volume holds it and they have its digest
abbrev pub judged_bytes : List ℕ → List ℕ → Option (List ℕ)
judged_bytes name bytes = if bytes_eq (sha256 bytes) name then Some bytes else None

abbrev pub read_chunk : Volume → List ℕ → Option (List ℕ)
read_chunk volume name = option_and_then (judged_bytes name) (map.get volume.chunks name)

-- the bytes of chunks, one after the other, where all can be read
abbrev pub read_list : Volume → List (List ℕ) → Option (List ℕ)
read_list volume [] = Some []
read_list volume (name ∷ names) = option_and_then (λ bytes. option_map (λ rest. bytes ++ rest) (read_list volume names)) (read_chunk volume name)

-- what a reader is given: the file of A where A holds it, else that of B
abbrev pub reading : State → List ℕ → Option (List ℕ)
reading s name = if map.contains_key s.a.files name then option_and_then (read_list s.a) (map.get s.a.files name) else option_and_then (read_list s.b) (map.get s.b.files name)

-- THE VIEW

-- what a record leaves of the view under a name, while no migration is open: a File record and a DropFile change it, under
-- their own name
abbrev pub idle_view : State → Append → List ℕ → Option (List ℕ)
idle_view s (ToA (FileRecord file list)) name = if bytes_eq name file then Some (joined_bytes s.a list) else view s name
idle_view s (ToA (DropFileRecord file)) name = if bytes_eq name file then None else view s name
idle_view s (ToB (DropFileRecord file)) name = if bytes_eq name file then None else view s name
idle_view s (ToA (ChunkRecord chunk bytes)) name = view s name
idle_view s (ToA (DropChunkRecord chunk)) name = view s name
idle_view s (ToB (ChunkRecord chunk bytes)) name = view s name
idle_view s (ToB (FileRecord file list)) name = view s name
idle_view s (ToB (DropChunkRecord chunk)) name = view s name
idle_view s (ToJournal r) name = view s name

-- and in every phase: while a migration is open, nothing changes it
abbrev pub phase_view : Phase → State → Append → List ℕ → Option (List ℕ)
phase_view Idle s x name = idle_view s x name
phase_view (Moving names) s x name = view s name
phase_view (Moved names) s x name = view s name
phase_view (Undoing names) s x name = view s name

abbrev pub view_after : State → Event → List ℕ → Option (List ℕ)
view_after s (Appends x) name = phase_view s.phase s x name
view_after s (Reads read) name = view s name
view_after s Reopens name = view s name

-- the file that an append adds or drops
abbrev pub file_of : Append → Option (List ℕ)
file_of (ToA (ChunkRecord chunk bytes)) = None
file_of (ToA (FileRecord file list)) = Some file
file_of (ToA (DropFileRecord file)) = Some file
file_of (ToA (DropChunkRecord chunk)) = None
file_of (ToB (ChunkRecord chunk bytes)) = None
file_of (ToB (FileRecord file list)) = Some file
file_of (ToB (DropFileRecord file)) = Some file
file_of (ToB (DropChunkRecord chunk)) = None
file_of (ToJournal r) = None

-- while no migration is open, an event adds or drops no file
abbrev pub IsStill : State → Event → Type 0
IsStill s (Appends x) = s.phase ≡ Idle → file_of x ≡ None
IsStill s (Reads name) = Unit {0}
IsStill s Reopens = Unit {0}

abbrev pub AreStill : State → List Event → Type 0
AreStill s [] = Unit {0}
AreStill s (e ∷ events) = IsStill s e × AreStill (after s e) events

-- nor does it add or drop this one
abbrev pub Spares : List ℕ → State → Event → Type 0
Spares file s (Appends x) = s.phase ≡ Idle → file_of x ≢ Some file
Spares file s (Reads name) = Unit {0}
Spares file s Reopens = Unit {0}

abbrev pub AllSpare : List ℕ → State → List Event → Type 0
AllSpare file s [] = Unit {0}
AllSpare file s (e ∷ events) = Spares file s e × AllSpare file (after s e) events

-- THE BYTES OF CHUNKS

-- what is so of each chunk of a volume, by its name and its bytes
abbrev pub EachChunk : (List ℕ → List ℕ → Type 0) → Volume → Type 0
EachChunk P v = (chunk bytes : List ℕ) → map.get v.chunks chunk ≡ Some bytes → P chunk bytes

-- the bytes of a chunk in either volume: A's where A holds it
abbrev pub value_in : State → List ℕ → List ℕ
value_in s chunk = unwrap_or (map.get s.a.chunks chunk) (chunk_or [] s.b chunk)

abbrev pub HasValue : (List ℕ → List ℕ) → List ℕ → List ℕ → Type 0
HasValue value chunk bytes = value chunk ≡ bytes

-- each chunk of either volume has the bytes that these values say
abbrev pub HasValues : (List ℕ → List ℕ) → State → Type 0
HasValues value s = EachChunk (HasValue value) s.a × EachChunk (HasValue value) s.b

-- THE ORIGIN

-- a site with a migration of these files begun
abbrev pub begun : State → List (List ℕ) → State
begun s names = after s (Appends (ToJournal (BeginRecord names)))

-- a migration is open whenever one of these events comes; it may end with the last
abbrev pub StaysOpen : State → List Event → Type 0
StaysOpen s [] = Unit {0}
StaysOpen s (e ∷ events) = (s.phase ≢ Idle) × StaysOpen (after s e) events

-- the files of A are the origin, with no other chunks, and B has nothing
pub record IsRestored (s : State) : Type 0 where
  pub files : s.a.files ≡ origin s
  pub tidy : IsTidy s.a
  pub nothing : s.b ≡ empty_volume

-- A has again the files that it had, and the chunks with their bytes, and B has nothing
pub record IsBack (before now : State) : Type 0 where
  pub a : now.a ≡ before.a
  pub b : now.b ≡ empty_volume

-- A has the files that the two volumes had, with no other chunks, each with the bytes that it had in either, and B has
-- nothing
pub record IsUndone (before now : State) : Type 0 where
  pub files : now.a.files ≡ origin before
  pub tidy : IsTidy now.a
  pub values : EachChunk (HasValue (value_in before)) now.a
  pub nothing : now.b ≡ empty_volume

-- the named files of the origin are those of B and the others those of A, with no other chunks in either
pub record IsSplit (s : State) (names : List (List ℕ)) : Type 0 where
  pub files_a : (name : List ℕ) → map.get s.a.files name ≡ (if is_listed names name then None else map.get (origin s) name)
  pub files_b : (name : List ℕ) → map.get s.b.files name ≡ (if is_listed names name then map.get (origin s) name else None)
  pub tidy_a : IsTidy s.a
  pub tidy_b : IsTidy s.b

-- a record of the journal changes no volume
pub record SameVolumes (s t : State) : Type 0 where
  pub a : t.a ≡ s.a
  pub b : t.b ≡ s.b

-- an append that leaves one action less
pub record LeavesOne (t : Shapes) (x : Append) : Type 0 where
  pub next : Shapes
  pub folds : happens_to t x ≡ Some next
  pub kept : IsKept next
  pub left : remaining next.a next.b next.phase + 1 ≡ remaining t.a t.b t.phase

-- the actions that are left of a state
abbrev pub remaining_of : State → ℕ
remaining_of s = remaining (shape_of s.a) (shape_of s.b) s.phase
