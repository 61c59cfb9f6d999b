-- What opening a volume does.
use Rattle.std.specs.Prelude.{◌≡◌, ◌⊎◌, ℕ, suc, ◌+◌, ◌<◌, ⊤, false, List, length, take, Some, None, IsSome, Result, Ok, Err, OnOk}
use Rattle.volume_disk.specs.Disk.{Disk, Images, Crash}
use Rattle.volume_disk.specs.Time.{Passes}
use Rattle.site_forms.specs.Logs.{parse, log_size}
use Rattle.site_forms.specs.Logs.Parsed.{Good}
use Rattle.site_forms.specs.Halves.{Half, device as half_device, in_force as half_in_force, without_half, SameRecords}
use Rattle.site_forms.specs.Sites.{volume_at}
use Rattle.site_forms.specs.Volumes.{Volume, volume_of}
use Rattle.chunk_log.specs.PlaceHalves.{SameOutside, RestsAt, images_of, half_image, IsOfPlace, IsDamaged}
use Rattle.chunk_volume.specs.declared.errors.VolError.{VolError}
use Rattle.chunk_volume.specs.declared.errors.VolError.TheVariants.{RackFault, Damage, BadChunk, Collision, Exists, NoSuchFile, DeviceFull, Spent, Memory}
use Rattle.chunk_volume.specs.Standing.{VolumeStands}
use Rattle.chunk_volume.specs.VolumeValues.{VolumeValue}

-- the first body of a log that is no record, or whose record does not fold, stands behind this gate
pub record IsFirstUnfolded (bodies : List (List ℕ)) (at : ℕ) : Type 0 where
  pub number : ℕ
  pub inside : number < length bodies
  pub front : IsSome (volume_of (without_half (take number bodies)))
  pub fails : volume_of (without_half (take (suc number) bodies)) ≡ None
  pub gate : at ≡ log_size (take number bodies)

-- the half in force is a log, and the first of its bodies that does not fold stands behind this gate of this device
pub record IsUnfolded (x y : List ℕ) (place device at : ℕ) : Type 0 where
  pub half : Half
  pub here : device ≡ half_device place half
  pub is : half_in_force x y ≡ Some half
  pub bodies : List (List ℕ)
  pub gate : ℕ
  pub log : parse (half_image half x y) ≡ Good bodies gate
  pub first : IsFirstUnfolded bodies at

-- what is answered, on every rack
abbrev pub AnswersVolume : ℕ → ℕ → Result VolumeValue VolError → Type 0
AnswersVolume place limit (Ok v) = IsOfPlace place v.log.device × (v.log.limit ≡ limit) × (v.log.spent ≡ false)
AnswersVolume place limit (Err (Damage device at)) = IsOfPlace place device
AnswersVolume place limit (Err RackFault) = ⊤
AnswersVolume place limit (Err Memory) = ⊤
AnswersVolume place limit (Err (BadChunk name found)) = ⊥
AnswersVolume place limit (Err (Collision name)) = ⊥
AnswersVolume place limit (Err Exists) = ⊥
AnswersVolume place limit (Err NoSuchFile) = ⊥
AnswersVolume place limit (Err (DeviceFull device at len)) = ⊥
AnswersVolume place limit (Err Spent) = ⊥

-- a volume that stands for a place, exactly where the records of the place fold: damage names the whole form first, then
-- the first body that does not fold
abbrev pub IsPlaceVolume : Disk → Disk → ℕ → Result VolumeValue VolError → Type 0
IsPlaceVolume d e place (Ok v) = (volume : Volume) × (volume_at (images_of d) place ≡ Some volume) × VolumeStands place v e volume
IsPlaceVolume d e place (Err (Damage device at)) =
    (volume_at (images_of d) place ≡ None) × (IsDamaged (d place).image (d (place + 3)).image place device at ⊎ IsUnfolded (d place).image (d (place + 3)).image place device at)
IsPlaceVolume d e place (Err RackFault) = ⊤
IsPlaceVolume d e place (Err Memory) = ⊤
IsPlaceVolume d e place (Err (BadChunk name found)) = ⊥
IsPlaceVolume d e place (Err (Collision name)) = ⊥
IsPlaceVolume d e place (Err Exists) = ⊥
IsPlaceVolume d e place (Err NoSuchFile) = ⊥
IsPlaceVolume d e place (Err (DeviceFull device at len)) = ⊥
IsPlaceVolume d e place (Err Spent) = ⊥

-- opening the volume of a place: no other device changes; once it is open nothing is pending at the two halves of the
-- place; and a crash at any moment leaves the same records at every place
pub record OpensVolume {D : Type 0} (moment : D → ℕ) (left_since : D → ℕ → Images → Type 0) (old new : D) (d e : Disk) (place : ℕ) (result : Result VolumeValue VolError) : Type 0 where
  pub others : SameOutside place d e
  pub volume : IsPlaceVolume d e place result
  pub rest : OnOk result (RestsAt place e)
  pub moments : Passes moment left_since old new (λ c. (b : Images) × Crash d b × SameRecords b c)
