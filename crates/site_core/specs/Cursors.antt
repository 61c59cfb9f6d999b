-- How far the search for the next action has come, by places that only go on.
use Rattle.std.specs.Prelude.{◌≡◌, ◌⊎◌, ℕ, ◌<◌, ◌≤◌, true, false, List, [], length, slice_get, slice_index_or, Option, Some, None}
use Rattle.std.specs.FinMap as map
use Rattle.site_forms.specs.declared.phase.Phase.{Phase}
use Rattle.site_forms.specs.declared.phase.Phase.TheVariants.{Idle, Moving, Moved, Undoing}
use Rattle.site_forms.specs.Names.{is_listed}
use Rattle.site_forms.specs.Sites.{HoldsFile, HoldsChunk}
use Rattle.site_forms.specs.Volumes.{Shape}
use Rattle.site_core.specs.declared.cursor.Cursor.{Cursor}
use Rattle.site_core.specs.declared.search.Lacking.{Lacking}
use Rattle.site_core.specs.declared.step.Step.{Step}
use Rattle.site_core.specs.declared.step.Step.TheVariants.{Copy, Add, Drop, DropChunk, Finish}
use Rattle.site_core.specs.Steps.{list_of, next_step}

-- nothing of a file is to be copied: the target holds it, or all its chunks
abbrev pub IsCopied : Shape → Shape → List ℕ → Type 0
IsCopied source target name = HoldsFile target name ⊎ ((chunk : List ℕ) → is_listed (list_of source name) chunk ≡ true → HoldsChunk target chunk)

-- the target holds the chunks before a place of a list
abbrev pub HoldsBefore : Shape → List (List ℕ) → ℕ → Type 0
HoldsBefore target list place = (j : ℕ) → j < place → j < length list → HoldsChunk target (slice_index_or list j [])

-- nothing is to be copied of the files before a name, and of its own chunks before a place
pub record CopiedBefore (source target : Shape) (names : List (List ℕ)) (name chunk : ℕ) : Type 0 where
  pub within : name ≤ length names
  pub files : (i : ℕ) → i < name → IsCopied source target (slice_index_or names i [])
  pub chunks : HoldsBefore target (list_of source (slice_index_or names name [])) chunk

-- a volume holds the names before a place, or lacks them
abbrev pub HeldBefore : Shape → List (List ℕ) → ℕ → Type 0
HeldBefore volume names place = (i : ℕ) → i < place → HoldsFile volume (slice_index_or names i [])

abbrev pub LackedBefore : Shape → List (List ℕ) → ℕ → Type 0
LackedBefore volume names place = (i : ℕ) → i < place → map.contains_key volume.files (slice_index_or names i []) ≡ false

-- the places of a search from a source to a target
pub record IsCursor (source target : Shape) (names : List (List ℕ)) (c : Cursor) : Type 0 where
  pub copied : CopiedBefore source target names c.name c.chunk
  pub added_within : c.added ≤ length names
  pub added : HeldBefore target names c.added
  pub dropped_within : c.dropped ≤ length names
  pub dropped : LackedBefore source names c.dropped

abbrev pub IsCursorOf : Shape → Shape → Phase → Cursor → Type 0
IsCursorOf a b Idle c = Unit {0}
IsCursorOf a b (Moving names) c = IsCursor a b names c
IsCursorOf a b (Moved names) c = Unit {0}
IsCursorOf a b (Undoing names) c = IsCursor b a names c

-- a place in the list of the name at a place stands at or past another
abbrev pub IsPast : ℕ → ℕ → ℕ → ℕ → Type 0
IsPast name place other_name other_place = (name < other_name) ⊎ ((name ≡ other_name) × (place ≤ other_place))

-- where a chunk to copy stands; past all names where there is none
abbrev pub StandsThere : Shape → List (List ℕ) → ℕ → ℕ → Option (List ℕ) → Type 0
StandsThere source names name place (Some chunk) = (name < length names) × (slice_get (list_of source (slice_index_or names name [])) place ≡ Some chunk)
StandsThere source names name place None = name ≡ length names

-- the places of a search stand where its step was found, past all names that came before
abbrev pub StandsAt : Shape → List (List ℕ) → Cursor → Step → Type 0
StandsAt source names c (Copy chunk) = StandsThere source names c.name c.chunk (Some chunk)
StandsAt source names c (Add place) = (c.name ≡ length names) × (c.added ≡ place)
StandsAt source names c (Drop place) = (c.name ≡ length names) × (c.added ≡ length names) × (c.dropped ≡ place)
StandsAt source names c (DropChunk chunk) = (c.name ≡ length names) × (c.added ≡ length names) × (c.dropped ≡ length names)
StandsAt source names c Finish = (c.name ≡ length names) × (c.added ≡ length names) × (c.dropped ≡ length names)

-- a search goes on: none of its places goes back, and they come to where the step was found
pub record GoesOn (source : Shape) (names : List (List ℕ)) (old new : Cursor) (step : Step) : Type 0 where
  pub copied : IsPast old.name old.chunk new.name new.chunk
  pub added : old.added ≤ new.added
  pub dropped : old.dropped ≤ new.dropped
  pub there : StandsAt source names new step

-- the same of the search for the next action; where there is none, the cursor stays
abbrev pub MovesCursor : Shape → Shape → Phase → Cursor → Cursor → Type 0
MovesCursor a b Idle old new = new ≡ old
MovesCursor a b (Moving names) old new = GoesOn a names old new (next_step a b names)
MovesCursor a b (Moved names) old new = new ≡ old
MovesCursor a b (Undoing names) old new = GoesOn b names old new (next_step b a names)

-- the first chunk of a file that is to be copied; none where nothing is
abbrev pub FindsLacking : Shape → Shape → List ℕ → Option Lacking → Type 0
FindsLacking source target name None = IsCopied source target name
FindsLacking source target name (Some l) =
    (map.contains_key target.files name ≡ false) × (slice_get (list_of source name) l.place ≡ Some l.chunk) × (map.contains_key target.chunks l.chunk ≡ false) × HoldsBefore target (list_of source name) l.place
