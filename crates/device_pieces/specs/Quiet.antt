-- Calls that change no device.
use Rattle.std.specs.Prelude.{ℕ}
use Rattle.volume_disk.specs.Disk.{Disk, Images, Crash, SameDisk}
use Rattle.volume_disk.specs.Time.{Passes}

-- no device has changed, and a crash at any moment leaves what it might have left before
pub record Quiet {D : Type 0} (moment : D → ℕ) (left_since : D → ℕ → Images → Type 0) (old new : D) (d e : Disk) : Type 0 where
  pub same : SameDisk d e
  pub moments : Passes moment left_since old new (Crash d)
