-- Where the bytes of chunks are, and what a volume stands for.
use Rattle.std.specs.Prelude.{◌≡◌, ℕ, ◌+◌, ◌≤◌, List, length, take, drop, Some}
use Rattle.std.specs.FinMap as map
use Rattle.volume_disk.specs.Disk.{Disk}
use Rattle.site_forms.specs.Volumes.{Volume, volume_of}
use Rattle.site_forms.specs.Sites.{shape_of}
use Rattle.chunk_log.specs.Standing.{LogStands}
use Rattle.chunk_volume.specs.VolumeValues.{VolumeValue}
use Rattle.volume_index.specs.HoldingValues.{Places}

-- bytes stand in an image from a place on, before an end
pub record HasBytesAt (image : List ℕ) (end place : ℕ) (bytes : List ℕ) : Type 0 where
  pub within : place + length bytes ≤ end
  pub same : take (length bytes) (drop place image) ≡ bytes

-- the bytes of each chunk of a volume stand in an image before an end, where the places say. This is the only word on
-- where they are.
abbrev pub Keeps : Places → List ℕ → ℕ → Volume → Type 0
Keeps places image end volume =
    (name bytes : List ℕ) → map.get volume.chunks name ≡ Some bytes → (place : ℕ) × (map.get places name ≡ Some place) × HasBytesAt image end place bytes

-- a volume in memory stands for the one that a place of the disk says
pub record VolumeStands (place : ℕ) (v : VolumeValue) (d : Disk) (volume : Volume) : Type 0 where
  pub records : List (List ℕ)
  pub log : LogStands place records v.log d
  pub folds : volume_of records ≡ Some volume
  pub shape : v.shape ≡ shape_of volume
  pub bytes : Keeps v.places (d v.log.device).image v.log.end volume
