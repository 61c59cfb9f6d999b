-- What a walk over a log folds to.
use Rattle.std.specs.Prelude.{◌≡◌, ℕ, ◌+◌, ◌<◌, ⊤, Bool, true, false, ◌==◌, ◌&&◌, nat_le, List, length, take, Some, None, Result, Ok, Err}
use Rattle.site_forms.specs.Halves.{half_number, without_half}
use Rattle.site_forms.specs.Logs.{parse}
use Rattle.site_forms.specs.Logs.Parsed.{Good}
use Rattle.site_forms.specs.Sites.{shape_of}
use Rattle.site_forms.specs.VolumeRecords.{VolumeRecord, volume_record}
use Rattle.site_forms.specs.Volumes.{Volume, volume_of, shape_after}
use Rattle.chunk_log.specs.declared.errors.LogError.{LogError}
use Rattle.chunk_log.specs.declared.errors.LogError.TheVariants.{RackFault as LogFault, Damage as LogDamage}
use Rattle.chunk_volume.specs.declared.errors.VolError.{VolError}
use Rattle.chunk_volume.specs.declared.errors.VolError.TheVariants.{RackFault, Damage, BadChunk, Collision, Exists, NoSuchFile, DeviceFull, Spent, Memory}
use Rattle.volume_index.specs.Indexes.{IndexValue}
use Rattle.chunk_volume.specs.Adding.{places_after}
use Rattle.chunk_volume.specs.OpeningVolumes.{IsFirstUnfolded}
use Rattle.chunk_volume.specs.Pieces.{bytes_at}
use Rattle.chunk_volume.specs.Standing.{Keeps}

-- an index has what a volume has, and the bytes of its chunks stand in an image
pub record Indexes (image : List ℕ) (end : ℕ) (index : IndexValue) (volume : Volume) : Type 0 where
  pub shape : index.shape ≡ shape_of volume
  pub bytes : Keeps index.places image end volume

-- what is answered on every rack
abbrev pub GathersLog : {T : Type 0} → ℕ → Result T VolError → Type 0
GathersLog device (Ok value) = ⊤
GathersLog device (Err (Damage dev at)) = dev ≡ device
GathersLog device (Err RackFault) = ⊤
GathersLog device (Err Memory) = ⊤
GathersLog device (Err (BadChunk name found)) = ⊥
GathersLog device (Err (Collision name)) = ⊥
GathersLog device (Err Exists) = ⊥
GathersLog device (Err NoSuchFile) = ⊥
GathersLog device (Err (DeviceFull dev at len)) = ⊥
GathersLog device (Err Spent) = ⊥

-- the volume of the bodies of an image, or the gate of the first that does not fold
abbrev pub Folds : List ℕ → ℕ → List (List ℕ) → Result IndexValue VolError → Type 0
Folds image end bodies (Ok index) = (volume : Volume) × (volume_of (without_half bodies) ≡ Some volume) × Indexes image end index volume
Folds image end bodies (Err (Damage dev at)) = IsFirstUnfolded bodies at
Folds image end bodies (Err RackFault) = ⊤
Folds image end bodies (Err Memory) = ⊤
Folds image end bodies (Err (BadChunk name found)) = ⊤
Folds image end bodies (Err (Collision name)) = ⊤
Folds image end bodies (Err Exists) = ⊤
Folds image end bodies (Err NoSuchFile) = ⊤
Folds image end bodies (Err (DeviceFull dev at len)) = ⊤
Folds image end bodies (Err Spent) = ⊤

abbrev pub FoldsLog : List ℕ → ℕ → Result IndexValue VolError → Type 0
FoldsLog image end result = (bodies : List (List ℕ)) → parse image ≡ Good bodies end → Folds image end bodies result

-- ONE BODY

-- the first 33 bytes of a body, or all of a shorter one
abbrev pub IsFrontOf : List ℕ → List ℕ → Type 0
IsFrontOf front body = take (length body) front ≡ take 33 body

-- the first bytes of a body are read, or the image ends before the body does
abbrev pub ReadsFront : List ℕ → ℕ → ℕ → Result (List ℕ) LogError → Type 0
ReadsFront image at len (Ok front) = take len front ≡ take 33 (bytes_at image at len)
ReadsFront image at len (Err (LogDamage device place)) = length image < at + len
ReadsFront image at len (Err LogFault) = ⊤

-- damage names the device of the log
abbrev pub NamesDevice : {T : Type 0} → ℕ → Result T LogError → Type 0
NamesDevice device (Ok value) = ⊤
NamesDevice device (Err (LogDamage dev at)) = dev ≡ device
NamesDevice device (Err LogFault) = ⊤

-- no damage is found
abbrev pub IsUndamaged : {T : Type 0} → Result T VolError → Type 0
IsUndamaged (Ok value) = ⊤
IsUndamaged (Err (Damage device at)) = ⊥
IsUndamaged (Err RackFault) = ⊤
IsUndamaged (Err Memory) = ⊤
IsUndamaged (Err (BadChunk name found)) = ⊤
IsUndamaged (Err (Collision name)) = ⊤
IsUndamaged (Err Exists) = ⊤
IsUndamaged (Err NoSuchFile) = ⊤
IsUndamaged (Err (DeviceFull device at len)) = ⊤
IsUndamaged (Err Spent) = ⊤

-- an index once the record of a body behind a gate is folded onto it
pub record IsFolded (gate : ℕ) (old new : IndexValue) (body : List ℕ) : Type 0 where
  pub r : VolumeRecord
  pub spelled : volume_record body ≡ Some r
  pub shape : shape_after old.shape r ≡ Some new.shape
  pub places : new.places ≡ places_after gate old.places r

-- a body that is no record, or whose record does not fold
abbrev pub IsUnfoldable : IndexValue → List ℕ → Type 0
IsUnfoldable index body = (r : VolumeRecord) → volume_record body ≡ Some r → shape_after index.shape r ≡ None

-- a body is folded onto an index exactly where it is a record that folds
abbrev pub FoldsBody : ℕ → IndexValue → IndexValue → List ℕ → Bool → Type 0
FoldsBody gate old new body true = IsFolded gate old new body
FoldsBody gate old new body false = IsUnfoldable old body

-- the Half record in front of a log
abbrev pub is_front_half : ℕ → List ℕ → Bool
is_front_half gate body = (gate == 0) && nat_le 1 (half_number body)

-- the same of a body of a log, whose Half record in front is no record
pub record FoldsNext (gate : ℕ) (old new : IndexValue) (body : List ℕ) (is : Bool) : Type 0 where
  pub half : is_front_half gate body ≡ true → (is ≡ true) × (new ≡ old)
  pub record_is : is_front_half gate body ≡ false → FoldsBody gate old new body is
