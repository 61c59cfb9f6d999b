-- One write that is made to last.
use Rattle.std.specs.Prelude.{◌≡◌, ℕ, ◌≤◌, List, length, Result, OnOk}
use Rattle.volume_disk.specs.Medium.{at_rest, written}
use Rattle.volume_disk.specs.Disk.{Disk, Images, Crash, SameElsewhere}
use Rattle.volume_disk.specs.Left.{OneWriteAt}
use Rattle.volume_disk.specs.Time.{Passes}
use Rattle.chunk_log.specs.Shutting.{IsShut, SameOrShut}

module _ {D : Type 0} (moment : D → ℕ) (left_since : D → ℕ → Images → Type 0) (old new : D) (d e : Disk) where
  -- a write and a sync: no other device changes, and once done the device is at rest with the bytes; where it began at
  -- rest, inside its image, a crash at any moment leaves all outside the range as it was; and behind a first gate that
  -- is closed it leaves that gate closed
  pub record PutDown {E : Type 0} (device at : ℕ) (bytes : List ℕ) (result : Result (Unit {0}) E) : Type 0 where
    pub others : SameElsewhere device d e
    pub rest : (image : List ℕ) → d device ≡ at_rest image → OnOk result (e device ≡ at_rest (written image at bytes))
    pub moments : (image : List ℕ) → d device ≡ at_rest image → at ≤ length image → Passes moment left_since old new (λ c. (b : Images) × Crash d b × OneWriteAt device at bytes b c)
    pub lasts : OnOk result (e device ≡ at_rest (written (d device).image at bytes))
    pub behind : 1 ≤ at → IsShut (d device) → Passes moment left_since old new (λ c. (b : Images) × Crash d b × SameOrShut device b c)
