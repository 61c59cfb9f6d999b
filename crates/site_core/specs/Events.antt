-- The events of a site: appends that are allowed, reads, and crashes with a reopening.
use Rattle.std.specs.Prelude.{◌≡◌, ◌⊎◌, ℕ, true, false, List, [], ◌∷◌, Option, Some, slice_index_or, unwrap_or}
use Rattle.std.specs.Option.{option_map}
use Rattle.std.specs.FinMap as map
use Rattle.sha2.specs.Sha256.{sha256}
use Rattle.site_forms.specs.declared.phase.Phase.{Phase}
use Rattle.site_forms.specs.declared.phase.Phase.TheVariants.{Idle}
use Rattle.site_forms.specs.JournalRecords.{JournalRecord}
use Rattle.site_forms.specs.JournalRecords.JournalRecord.{BeginRecord, MovedRecord, UndoBeginRecord, UndoneRecord, AcceptedRecord}
use Rattle.site_forms.specs.Phases.{phase_after, names_of}
use Rattle.site_forms.specs.Sites.{HoldsFile, HoldsChunk, IsNamed, shape_of}
use Rattle.site_forms.specs.Views.{State}
use Rattle.site_forms.specs.VolumeRecords.{VolumeRecord, IsVolumeRecord, IsChunk}
use Rattle.site_forms.specs.VolumeRecords.VolumeRecord.{ChunkRecord, FileRecord, DropFileRecord, DropChunkRecord}
use Rattle.site_forms.specs.Volumes.{VolumeOf, Shape, chunk_or, used, volume_after, shape_after}
use Rattle.site_core.specs.declared.action.Action.{Action}
use Rattle.site_core.specs.declared.action.Action.TheVariants.{CopyToB, AddToB, DropFromA, DropChunkA, Moved as RecordMoved, CopyToA, AddToA, DropFromB, DropChunkB, Undone}
use Rattle.site_core.specs.Steps.{list_of, next_of}

-- one record more, of A, of B or of the journal
pub data Append : Type 0 where
  ToA : VolumeRecord → Append
  ToB : VolumeRecord → Append
  ToJournal : JournalRecord → Append

-- the state with it; none where the record does not fold
abbrev pub happens : State → Append → Option State
happens s (ToA r) = option_map (λ a. record s { a = a }) (volume_after s.a r)
happens s (ToB r) = option_map (λ b. record s { b = b }) (volume_after s.b r)
happens s (ToJournal r) = option_map (λ phase. record s { phase = phase }) (phase_after s.phase r)

-- a name of a phase, by its place
abbrev pub named : Phase → ℕ → List ℕ
named phase place = slice_index_or (names_of phase) place []

-- the append of an action, from the files, the phase and the bytes of the chunk to copy
module _ {X : Type 0} where
  abbrev pub append_with : VolumeOf X → VolumeOf X → Phase → List ℕ → Action → Append
  append_with a b phase bytes (CopyToB chunk) = ToB (ChunkRecord chunk bytes)
  append_with a b phase bytes (AddToB place) = ToB (FileRecord (named phase place) (list_of a (named phase place)))
  append_with a b phase bytes (DropFromA place) = ToA (DropFileRecord (named phase place))
  append_with a b phase bytes (DropChunkA chunk) = ToA (DropChunkRecord chunk)
  append_with a b phase bytes RecordMoved = ToJournal MovedRecord
  append_with a b phase bytes (CopyToA chunk) = ToA (ChunkRecord chunk bytes)
  append_with a b phase bytes (AddToA place) = ToA (FileRecord (named phase place) (list_of b (named phase place)))
  append_with a b phase bytes (DropFromB place) = ToB (DropFileRecord (named phase place))
  append_with a b phase bytes (DropChunkB chunk) = ToB (DropChunkRecord chunk)
  append_with a b phase bytes Undone = ToJournal UndoneRecord

-- the bytes of the chunk that an action copies
abbrev pub copied_bytes : State → Action → List ℕ
copied_bytes s (CopyToB chunk) = chunk_or [] s.a chunk
copied_bytes s (CopyToA chunk) = chunk_or [] s.b chunk
copied_bytes s _ = []

abbrev pub append_of : State → Action → Append
append_of s action = append_with s.a s.b s.phase (copied_bytes s action) action

-- the next action of a state
abbrev pub next_action_of : State → Option Action
next_action_of s = next_of (shape_of s.a) (shape_of s.b) s.phase

-- two volumes in memory, with the lengths of their chunks, and a phase
pub record Shapes : Type 0 where
  pub a : Shape
  pub b : Shape
  pub phase : Phase

abbrev pub shapes_of : State → Shapes
shapes_of s = record { a = shape_of s.a; b = shape_of s.b; phase = s.phase }

-- the same with one record more
abbrev pub happens_to : Shapes → Append → Option Shapes
happens_to t (ToA r) = option_map (λ a. record t { a = a }) (shape_after t.a r)
happens_to t (ToB r) = option_map (λ b. record t { b = b }) (shape_after t.b r)
happens_to t (ToJournal r) = option_map (λ phase. record t { phase = phase }) (phase_after t.phase r)

-- every chunk of a volume is used by a file
abbrev pub AllChunksUsed : {X : Type 0} → VolumeOf X → Type 0
AllChunksUsed volume = (chunk : List ℕ) → HoldsChunk volume chunk → map.contains_key (used volume.files) chunk ≡ true

-- a migration of these files may begin: no volume holds a chunk that no file uses, B holds no file, and A holds them all
pub record MayBegin {X : Type 0} (a b : VolumeOf X) (names : List (List ℕ)) : Type 0 where
  pub used_a : AllChunksUsed a
  pub used_b : AllChunksUsed b
  pub empty : (name : List ℕ) → map.contains_key b.files name ≡ false
  pub held : (name : List ℕ) → IsNamed names name → HoldsFile a name

-- what may be appended while no migration is open: a chunk, and a file that neither volume holds, to A; files and chunks
-- may be dropped from both
abbrev pub MayBeIdle : {X : Type 0} → VolumeOf X → VolumeOf X → Append → Type 0
MayBeIdle a b (ToA (ChunkRecord name bytes)) = Unit {0}
MayBeIdle a b (ToA (FileRecord name list)) = map.contains_key b.files name ≡ false
MayBeIdle a b (ToA (DropFileRecord name)) = Unit {0}
MayBeIdle a b (ToA (DropChunkRecord name)) = Unit {0}
MayBeIdle a b (ToB (ChunkRecord name bytes)) = ⊥
MayBeIdle a b (ToB (FileRecord name list)) = ⊥
MayBeIdle a b (ToB (DropFileRecord name)) = Unit {0}
MayBeIdle a b (ToB (DropChunkRecord name)) = Unit {0}
MayBeIdle a b (ToJournal (BeginRecord names)) = MayBegin a b names
MayBeIdle a b (ToJournal MovedRecord) = ⊥
MayBeIdle a b (ToJournal UndoBeginRecord) = ⊥
MayBeIdle a b (ToJournal UndoneRecord) = ⊥
MayBeIdle a b (ToJournal AcceptedRecord) = ⊥

-- a body can spell the record
abbrev pub IsSpelled : Append → Type 0
IsSpelled (ToA r) = IsVolumeRecord r
IsSpelled (ToB r) = IsVolumeRecord r
IsSpelled (ToJournal r) = Unit {0}

-- a migration turns back, or its end is accepted
abbrev pub IsTurn : Append → Type 0
IsTurn x = (x ≡ ToJournal UndoBeginRecord) ⊎ (x ≡ ToJournal AcceptedRecord)

-- the chunk of a Chunk record is named by its digest
abbrev pub IsDigest : VolumeRecord → Type 0
IsDigest (ChunkRecord name bytes) = sha256 bytes ≡ name
IsDigest (FileRecord name list) = Unit {0}
IsDigest (DropFileRecord name) = Unit {0}
IsDigest (DropChunkRecord name) = Unit {0}

abbrev pub IsNamedByDigest : Append → Type 0
IsNamedByDigest (ToA r) = IsDigest r
IsNamedByDigest (ToB r) = IsDigest r
IsNamedByDigest (ToJournal r) = Unit {0}

-- an append while no migration is open, whose record folds
pub record IsIdleAppend (s : State) (x : Append) : Type 0 where
  pub idle : s.phase ≡ Idle
  pub kind : MayBeIdle s.a s.b x
  pub spelled : IsSpelled x
  pub digest : IsNamedByDigest x
  pub next : State
  pub folds : happens s x ≡ Some next

-- the append of the next action
pub record IsNextAppend (s : State) (x : Append) : Type 0 where
  pub action : Action
  pub is : next_action_of s ≡ Some action
  pub appends : x ≡ append_of s action

-- a turn whose record folds
pub record IsMark (s : State) (x : Append) : Type 0 where
  pub turn : IsTurn x
  pub next : State
  pub folds : happens s x ≡ Some next

-- what may be appended to a site
abbrev pub MayAppend : State → Append → Type 0
MayAppend s x = IsNextAppend s x ⊎ (IsIdleAppend s x ⊎ IsMark s x)

-- THE SAME IN MEMORY, where the bytes of chunks are not known

-- the bytes that an action copies are those of a chunk
abbrev pub CopiesChunk : Action → List ℕ → Type 0
CopiesChunk (CopyToB chunk) bytes = IsChunk bytes
CopiesChunk (CopyToA chunk) bytes = IsChunk bytes
CopiesChunk _ bytes = Unit {0}

pub record IsNextOf (t : Shapes) (x : Append) : Type 0 where
  pub action : Action
  pub is : next_of t.a t.b t.phase ≡ Some action
  pub bytes : List ℕ
  pub copies : CopiesChunk action bytes
  pub appends : x ≡ append_with t.a t.b t.phase bytes action

pub record IsIdleOf (t : Shapes) (x : Append) : Type 0 where
  pub idle : t.phase ≡ Idle
  pub kind : MayBeIdle t.a t.b x
  pub spelled : IsSpelled x
  pub next : Shapes
  pub folds : happens_to t x ≡ Some next

pub record IsMarkOf (t : Shapes) (x : Append) : Type 0 where
  pub turn : IsTurn x
  pub next : Shapes
  pub folds : happens_to t x ≡ Some next

abbrev pub MayAppendTo : Shapes → Append → Type 0
MayAppendTo t x = IsNextOf t x ⊎ (IsIdleOf t x ⊎ IsMarkOf t x)

-- EVENTS

-- an append, a read of a name, or a crash with a reopening
pub data Event : Type 0 where
  Appends : Append → Event
  Reads : (name : List ℕ) → Event
  Reopens : Event

abbrev pub Allowed : State → Event → Type 0
Allowed s (Appends x) = MayAppend s x
Allowed s (Reads name) = Unit {0}
Allowed s Reopens = Unit {0}

-- the state after an event that is allowed, and after many of them
abbrev pub after : State → Event → State
after s (Appends x) = unwrap_or (happens s x) s
after s (Reads name) = s
after s Reopens = s

abbrev pub after_all : State → List Event → State
after_all s [] = s
after_all s (e ∷ events) = after_all (after s e) events

-- each event is allowed when it comes
abbrev pub AreAllowed : State → List Event → Type 0
AreAllowed s [] = Unit {0}
AreAllowed s (e ∷ events) = Allowed s e × AreAllowed (after s e) events
