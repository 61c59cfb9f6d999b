-- What the calls do that add one record.
use Rattle.std.specs.Prelude.{◌≡◌, ◌≢◌, ℕ, ◌+◌, ⊤, Bool, true, false, List, length, Some, Result, Ok, Err, OnOk, IfOk}
use Rattle.std.specs.FinMap as map
use Rattle.sha2.specs.Sha256.{sha256}
use Rattle.volume_disk.specs.Disk.{Disk, Images, Crash, SameElsewhere}
use Rattle.volume_disk.specs.Time.{Passes}
use Rattle.device_pieces.specs.Quiet.{Quiet}
use Rattle.site_forms.specs.Halves.{OneMoreAt}
use Rattle.site_forms.specs.Sites.{HoldsFile, HoldsChunk}
use Rattle.site_forms.specs.VolumeRecords.{VolumeRecord, volume_body}
use Rattle.site_forms.specs.VolumeRecords.VolumeRecord.{ChunkRecord, FileRecord, DropFileRecord, DropChunkRecord}
use Rattle.site_forms.specs.Volumes.{Volume, shape_after, volume_after}
use Rattle.chunk_log.specs.Appending.{after_append, after_fault, IsFull}
use Rattle.chunk_volume.specs.declared.errors.VolError.{VolError}
use Rattle.chunk_volume.specs.declared.errors.VolError.TheVariants.{RackFault, Damage, BadChunk, Collision, Exists, NoSuchFile, DeviceFull, Spent, Memory}
use Rattle.chunk_volume.specs.Room.{HasRoomFor, KeepsRoom, TakesRoom}
use Rattle.chunk_volume.specs.Standing.{VolumeStands}
use Rattle.chunk_volume.specs.VolumeValues.{VolumeValue}
use Rattle.volume_index.specs.HoldingValues.{Places}

-- the places once a record is added behind the gate at an end: a chunk's bytes stand behind the gate, the length, the
-- kind and the name
abbrev pub places_after : ℕ → Places → VolumeRecord → Places
places_after end places (ChunkRecord name bytes) = map.insert places name (end + 38)
places_after end places (FileRecord name list) = places
places_after end places (DropFileRecord name) = places
places_after end places (DropChunkRecord name) = map.remove places name

-- the same volume, with no less room
pub record IsSame (v w : VolumeValue) : Type 0 where
  pub shape : w.shape ≡ v.shape
  pub places : w.places ≡ v.places
  pub log : w.log ≡ v.log
  pub room : KeepsRoom v.room w.room

-- the volume once a call of the rack has failed: spent, and else the same
pub record IsSpent (v w : VolumeValue) : Type 0 where
  pub shape : w.shape ≡ v.shape
  pub places : w.places ≡ v.places
  pub log : w.log ≡ after_fault v.log
  pub room : KeepsRoom v.room w.room

-- the volume once a record is added
pub record IsAdded (v w : VolumeValue) (r : VolumeRecord) : Type 0 where
  pub shape : shape_after v.shape r ≡ Some w.shape
  pub places : w.places ≡ places_after v.log.end v.places r
  pub log : w.log ≡ after_append v.log (length (volume_body r))
  pub room : TakesRoom r v.room w.room

-- the device is too full for a record
abbrev pub IsTooFull : VolumeValue → VolumeRecord → Type 0
IsTooFull v r = IsFull v.log (length (volume_body r))

-- a record is added to a volume that is not spent; each refusal has its cause, in this order, and leaves the volume as
-- it was. Within the room no memory is wanted.
abbrev pub Adds : {T : Type 0} → VolumeValue → VolumeValue → VolumeRecord → Result T VolError → Type 0
Adds v w r (Ok done) = (¬ IsTooFull v r) × IsAdded v w r
Adds v w r (Err (DeviceFull device at len)) = IsTooFull v r × (device ≡ v.log.device) × (at ≡ v.log.end) × (len ≡ length (volume_body r)) × IsSame v w
Adds v w r (Err Memory) = (¬ HasRoomFor v.room r) × IsSame v w
Adds v w r (Err RackFault) = (¬ IsTooFull v r) × IsSpent v w
Adds v w r (Err (Damage device at)) = ⊥
Adds v w r (Err (BadChunk name found)) = ⊥
Adds v w r (Err (Collision name)) = ⊥
Adds v w r (Err Exists) = ⊥
Adds v w r (Err NoSuchFile) = ⊥
Adds v w r (Err Spent) = ⊥

-- a spent volume refuses, and stays as it is
abbrev pub RefusesSpent : {T : Type 0} → VolumeValue → VolumeValue → Result T VolError → Type 0
RefusesSpent v w result = v.log.spent ≡ true → (result ≡ Err Spent) × (w ≡ v)

-- bytes are compared with those that are held under their name. On Ok they have the same length; they are equal where
-- the rack is honest.
abbrev pub Compares : {T : Type 0} → VolumeValue → VolumeValue → List ℕ → List ℕ → Result T VolError → Type 0
Compares v w name bytes (Ok done) = (map.get v.shape.chunks name ≡ Some (length bytes)) × (w ≡ v)
Compares v w name bytes (Err (Damage device at)) = (device ≡ v.log.device) × (map.get v.places name ≡ Some at) × (w ≡ v)
Compares v w name bytes (Err (BadChunk chunk found)) = (chunk ≡ name) × (found ≢ name) × (w ≡ v)
Compares v w name bytes (Err (Collision chunk)) = (chunk ≡ name) × (w ≡ v)
Compares v w name bytes (Err RackFault) = IsSpent v w
Compares v w name bytes (Err Exists) = ⊥
Compares v w name bytes (Err NoSuchFile) = ⊥
Compares v w name bytes (Err (DeviceFull device at len)) = ⊥
Compares v w name bytes (Err Spent) = ⊥
Compares v w name bytes (Err Memory) = ⊥

-- what a volume is after bytes are compared with those that it holds, on every rack
pub record ComparesChunk (v w : VolumeValue) (name bytes : List ℕ) (result : Result (Unit {0}) VolError) : Type 0 where
  pub spent : RefusesSpent v w result
  pub fresh : v.log.spent ≡ false → Compares v w name bytes result

-- what a volume is after each of the calls that write, on every rack
pub record PutsChunk (v w : VolumeValue) (name bytes : List ℕ) (result : Result Bool VolError) : Type 0 where
  pub spent : RefusesSpent v w result
  pub held : v.log.spent ≡ false → HoldsChunk v.shape name → Compares v w name bytes result × IfOk result (λ added. added ≡ false)
  pub lacking : v.log.spent ≡ false → ¬ HoldsChunk v.shape name → Adds v w (ChunkRecord name bytes) result × IfOk result (λ added. added ≡ true)

pub record PutsFile (v w : VolumeValue) (name : List ℕ) (list : List (List ℕ)) (result : Result (Unit {0}) VolError) : Type 0 where
  pub spent : RefusesSpent v w result
  pub held : v.log.spent ≡ false → HoldsFile v.shape name → (result ≡ Err Exists) × (w ≡ v)
  pub lacking : v.log.spent ≡ false → ¬ HoldsFile v.shape name → Adds v w (FileRecord name list) result

pub record DropsFile (v w : VolumeValue) (name : List ℕ) (result : Result (Unit {0}) VolError) : Type 0 where
  pub spent : RefusesSpent v w result
  pub held : v.log.spent ≡ false → HoldsFile v.shape name → Adds v w (DropFileRecord name) result
  pub lacking : v.log.spent ≡ false → ¬ HoldsFile v.shape name → (result ≡ Err NoSuchFile) × (w ≡ v)

pub record DropsChunk (v w : VolumeValue) (name : List ℕ) (result : Result (Unit {0}) VolError) : Type 0 where
  pub spent : RefusesSpent v w result
  pub held : v.log.spent ≡ false → Adds v w (DropChunkRecord name) result

-- a refusal that is no fault
abbrev pub IsRefused : {T : Type 0} → Result T VolError → Type 0
IsRefused (Ok done) = ⊥
IsRefused (Err RackFault) = ⊥
IsRefused (Err (Damage device at)) = ⊤
IsRefused (Err (BadChunk name found)) = ⊤
IsRefused (Err (Collision name)) = ⊤
IsRefused (Err Exists) = ⊤
IsRefused (Err NoSuchFile) = ⊤
IsRefused (Err (DeviceFull device at len)) = ⊤
IsRefused (Err Spent) = ⊤
IsRefused (Err Memory) = ⊤

-- what the bytes that are held under a name say to a comparison
abbrev pub FindsHeld : {T : Type 0} → Volume → List ℕ → List ℕ → Result T VolError → Type 0
FindsHeld volume name bytes (Ok done) = map.get volume.chunks name ≡ Some bytes
FindsHeld volume name bytes (Err (Damage device at)) = ⊥
FindsHeld volume name bytes (Err (BadChunk chunk found)) = (held : List ℕ) × (map.get volume.chunks name ≡ Some held) × (sha256 held ≡ found)
FindsHeld volume name bytes (Err (Collision chunk)) = (held : List ℕ) × (map.get volume.chunks name ≡ Some held) × (sha256 held ≡ name) × (held ≢ bytes)
FindsHeld volume name bytes (Err RackFault) = ⊤
FindsHeld volume name bytes (Err Exists) = ⊤
FindsHeld volume name bytes (Err NoSuchFile) = ⊤
FindsHeld volume name bytes (Err (DeviceFull device at len)) = ⊤
FindsHeld volume name bytes (Err Spent) = ⊤
FindsHeld volume name bytes (Err Memory) = ⊤

-- the volume of a place once a record is added
abbrev pub StandsAfter : ℕ → VolumeValue → Disk → Volume → VolumeRecord → Type 0
StandsAfter place w e volume r = (after : Volume) × (volume_after volume r ≡ Some after) × VolumeStands place w e after

module _ {D : Type 0} (moment : D → ℕ) (left_since : D → ℕ → Images → Type 0) (old new : D) (d e : Disk) (v w : VolumeValue) where
  -- what adding a record does to the disk, for a volume that stands for a place: no other device changes; once done the
  -- volume has the record more; a refusal that is no fault leaves it standing, and the rack alone; and a crash at any
  -- moment leaves at this place the same records or one more, and the same at the others
  pub record AddsRecord {T : Type 0} (r : VolumeRecord) (result : Result T VolError) : Type 0 where
    pub others : SameElsewhere v.log.device d e
    pub added : (place : ℕ) (volume : Volume) → VolumeStands place v d volume → OnOk result (StandsAfter place w e volume r)
    pub kept : (place : ℕ) (volume : Volume) → VolumeStands place v d volume → IsRefused result → VolumeStands place w e volume
    pub alone : IsRefused result → new ≡ old
    pub moments : (place : ℕ) (volume : Volume) → VolumeStands place v d volume → Passes moment left_since old new (λ c. (b : Images) × Crash d b × OneMoreAt place (volume_body r) b c)

  -- the same of a chunk. One that is held is compared with the bytes on the disk: nothing is written, and at no moment does
  -- a crash leave anything new.
  pub record PutsChunkOn (name bytes : List ℕ) (result : Result Bool VolError) : Type 0 where
    pub others : SameElsewhere v.log.device d e
    pub quiet : HoldsChunk v.shape name → Quiet moment left_since old new d e
    pub added : (place : ℕ) (volume : Volume) → VolumeStands place v d volume → ¬ HoldsChunk volume name → OnOk result (StandsAfter place w e volume (ChunkRecord name bytes))
    pub held : (place : ℕ) (volume : Volume) → VolumeStands place v d volume → HoldsChunk volume name → v.log.spent ≡ false → FindsHeld volume name bytes result × OnOk result (VolumeStands place w e volume)
    pub kept : (place : ℕ) (volume : Volume) → VolumeStands place v d volume → IsRefused result → VolumeStands place w e volume
    pub alone : ¬ HoldsChunk v.shape name → IsRefused result → new ≡ old
    pub moments : (place : ℕ) (volume : Volume) → VolumeStands place v d volume → ¬ HoldsChunk volume name
        → Passes moment left_since old new (λ c. (b : Images) × Crash d b × OneMoreAt place (volume_body (ChunkRecord name bytes)) b c)
