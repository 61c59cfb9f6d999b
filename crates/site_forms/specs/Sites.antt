-- Sites: volumes and a journal that fit.
use Rattle.std.specs.Prelude.{◌≡◌, ◌≢◌, ℕ, ◌⊎◌, true, false, ◌&&◌, List, length, map as each, Option, Some, unwrap_or}
use Rattle.std.specs.Option.{option_and_then, option_map}
use Rattle.std.specs.FinMap as map
use Rattle.sha2.specs.Sha256.{sha256}
use Rattle.site_forms.specs.declared.phase.Phase.{Phase}
use Rattle.site_forms.specs.declared.phase.Phase.TheVariants.{Idle, Moving, Moved, Undoing}
use Rattle.site_forms.specs.Halves.{records_at}
use Rattle.site_forms.specs.Names.{is_listed}
use Rattle.site_forms.specs.Phases.{phase_of}
use Rattle.site_forms.specs.Views.{State, joined_files}
use Rattle.site_forms.specs.Volumes.{VolumeOf, Volume, Shape, Files, used, chunk_or, keeps_limits, volume_of}

module _ {X : Type 0} where
  -- a file, a chunk that a volume holds
  abbrev pub HoldsFile : VolumeOf X → List ℕ → Type 0
  HoldsFile volume name = map.contains_key volume.files name ≡ true

  abbrev pub HoldsChunk : VolumeOf X → List ℕ → Type 0
  HoldsChunk volume chunk = map.contains_key volume.chunks chunk ≡ true

  -- a volume whose chunks are exactly those that its files use
  abbrev pub IsTidy : VolumeOf X → Type 0
  IsTidy volume = (chunk : List ℕ) → map.contains_key volume.chunks chunk ≡ map.contains_key (used volume.files) chunk

-- a file of these uses a chunk
abbrev pub UsesChunk : Files → List ℕ → List ℕ → Type 0
UsesChunk files name chunk = (list : List (List ℕ)) × (map.get files name ≡ Some list) × (is_listed list chunk ≡ true)

-- the length of a chunk in either volume: A's where A holds it
abbrev pub length_in : Shape → Shape → List ℕ → ℕ
length_in a b chunk = unwrap_or (map.get a.chunks chunk) (chunk_or 0 b chunk)

-- the files of both volumes, with the chunks that they use, keep the limits of a recipe
abbrev pub KeepsLimits : Shape → Shape → Type 0
KeepsLimits a b = keeps_limits (length_in a b) (joined_files a.files b.files) ≡ true

-- a name of the plan
abbrev pub IsNamed : List (List ℕ) → List ℕ → Type 0
IsNamed names name = is_listed names name ≡ true

-- all names of the plan are files of a volume
abbrev pub HoldsAllNames : Shape → List (List ℕ) → Type 0
HoldsAllNames volume names = (name : List ℕ) → IsNamed names name → HoldsFile volume name

-- with files on the way, forth or back
pub record IsUnderway (a b : Shape) (names : List (List ℕ)) : Type 0 where
  -- each name is in A or B
  pub somewhere : (name : List ℕ) → IsNamed names name → HoldsFile a name ⊎ HoldsFile b name
  -- each file of B is named
  pub planned : (name : List ℕ) → HoldsFile b name → IsNamed names name
  -- a name in both has one list
  pub one_list : (name : List ℕ) → HoldsFile a name → HoldsFile b name → map.get a.files name ≡ map.get b.files name
  -- each chunk of B is used by a named file
  pub copied : (chunk : List ℕ) → HoldsChunk b chunk → (name : List ℕ) × IsNamed names name × UsesChunk (joined_files a.files b.files) name chunk
  -- each chunk of A is used by a file
  pub needed : (chunk : List ℕ) → HoldsChunk a chunk → (name : List ℕ) × UsesChunk (joined_files a.files b.files) name chunk
  pub limits : KeepsLimits a b

-- before all named files have moved
pub record FitsMoving (a b : Shape) (names : List (List ℕ)) : Type 0 where
  pub underway : IsUnderway a b names
  -- where A lacks a name, B holds all of them
  pub copied_first : (name : List ℕ) → IsNamed names name → HoldsFile a name ⊎ HoldsAllNames b names
  -- where B lacks a name, A is tidy
  pub tidied_last : (name : List ℕ) → IsNamed names name → HoldsFile b name ⊎ IsTidy a

-- after all named files have moved
pub record FitsMoved (a b : Shape) (names : List (List ℕ)) : Type 0 where
  pub left : (name : List ℕ) → IsNamed names name → map.contains_key a.files name ≡ false
  pub arrived : (name : List ℕ) → map.contains_key b.files name ≡ is_listed names name
  pub tidy_a : IsTidy a
  pub tidy_b : IsTidy b
  pub limits : KeepsLimits a b

-- the journal's phase fits the volumes
abbrev pub Fits : Shape → Shape → Phase → Type 0
Fits a b Idle = (name : List ℕ) → (map.contains_key a.files name && map.contains_key b.files name) ≡ false
Fits a b (Moving names) = FitsMoving a b names
Fits a b (Moved names) = FitsMoved a b names
Fits a b (Undoing names) = IsUnderway a b names

-- a volume with the length of each chunk in place of its bytes
abbrev pub shape_of : Volume → Shape
shape_of volume = record { chunks = map.from_entries (each (λ e. (e.0, length e.1)) (map.entries volume.chunks)); files = volume.files }

-- the name of each chunk is the digest of its bytes
abbrev pub IsNamedByDigests : Volume → Type 0
IsNamedByDigests volume = (name bytes : List ℕ) → map.get volume.chunks name ≡ Some bytes → sha256 bytes ≡ name

-- a chunk in both volumes has one value
abbrev pub AgreeOnChunks : Volume → Volume → Type 0
AgreeOnChunks a b = (name x y : List ℕ) → map.get a.chunks name ≡ Some x → map.get b.chunks name ≡ Some y → x ≡ y

-- volumes and a phase that are a site
pub record IsSite (s : State) : Type 0 where
  pub fits : Fits (shape_of s.a) (shape_of s.b) s.phase
  pub named_a : IsNamedByDigests s.a
  pub named_b : IsNamedByDigests s.b
  pub agree : s.phase ≢ Idle → AgreeOnChunks s.a s.b

-- the volume and the phase that a place says, of an image for each device
abbrev pub volume_at : (ℕ → List ℕ) → ℕ → Option Volume
volume_at c place = option_and_then volume_of (records_at c place)

abbrev pub phase_at : (ℕ → List ℕ) → Option Phase
phase_at c = option_and_then phase_of (records_at c 2)

-- what six images say; none where some place says nothing or its records do not fold
abbrev pub state_of : (ℕ → List ℕ) → Option State
state_of c = option_and_then (λ a. option_and_then (λ b. option_map (λ phase. record { a = a; b = b; phase = phase }) (phase_at c)) (volume_at c 1)) (volume_at c 0)

-- six images that are a site
abbrev pub IsSiteAt : (ℕ → List ℕ) → Type 0
IsSiteAt c = (s : State) × (state_of c ≡ Some s) × IsSite s

-- records fold to a state
pub record IsFolded (s : State) : Type 0 where
  pub records_a : List (List ℕ)
  pub records_b : List (List ℕ)
  pub records_j : List (List ℕ)
  pub a : volume_of records_a ≡ Some s.a
  pub b : volume_of records_b ≡ Some s.b
  pub phase : phase_of records_j ≡ Some s.phase
