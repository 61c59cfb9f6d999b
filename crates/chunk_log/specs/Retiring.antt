-- Retiring the half of a place that is not in force.
use Rattle.std.specs.Prelude.{◌≡◌, ◌⊎◌, ℕ, ◌+◌, ◌≤◌, List, length, Result, OnOk}
use Rattle.volume_disk.specs.Medium.{at_rest}
use Rattle.volume_disk.specs.Disk.{Disk, Images, Crash, SameDisk, SameElsewhere}
use Rattle.volume_disk.specs.Time.{Passes}
use Rattle.site_forms.specs.Halves.{SameRecords}
use Rattle.chunk_log.specs.LogValues.{LogValue}
use Rattle.chunk_log.specs.Standing.{LogStands}
use Rattle.chunk_log.specs.Shutting.{IsBlankAtRest, closed_front}

-- the two devices of a place
abbrev pub IsBeside : ℕ → ℕ → Type 0
IsBeside device other = (device ≡ other + 3) ⊎ (other ≡ device + 3)

-- the half beside the one in force is retired: no other device changes, nor this one where it is blank; once done the
-- device has its first byte and nothing else, a closed gate where an open one was there, the log stands as it did, and the
-- device is blank; and a crash at any moment leaves the same records at every place
pub record Retired {D E : Type 0} (moment : D → ℕ) (left_since : D → ℕ → Images → Type 0) (old new : D) (d e : Disk) (device : ℕ) (result : Result (Unit {0}) E) : Type 0 where
  pub others : SameElsewhere device d e
  pub left : length (d device).image ≤ 1 → SameDisk d e
  pub image : 2 ≤ length (d device).image → OnOk result (e device ≡ at_rest (closed_front (d device).image))
  pub kept : (place : ℕ) (records : List (List ℕ)) (log : LogValue) → IsBeside device log.device → LogStands place records log d → OnOk result (LogStands place records log e)
  pub blank : (place : ℕ) (records : List (List ℕ)) (log : LogValue) → IsBeside device log.device → LogStands place records log d → OnOk result (IsBlankAtRest (e device))
  pub moments : (place : ℕ) (records : List (List ℕ)) (log : LogValue) → IsBeside device log.device → LogStands place records log d
      → Passes moment left_since old new (λ c. (b : Images) × Crash d b × SameRecords b c)
