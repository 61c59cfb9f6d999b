-- A log that stands for a place of the disk.
use Rattle.std.specs.Prelude.{◌≡◌, ℕ, ◌+◌, ◌≤◌, List, IsSome, false}
use Rattle.volume_disk.specs.Medium.{Medium, MayLeave, at_rest}
use Rattle.volume_disk.specs.Disk.{Disk}
use Rattle.site_forms.specs.Logs.{IsLog}
use Rattle.site_forms.specs.Halves.{Half, device, generation, without_half, IsBelow}
use Rattle.site_forms.specs.Halves.Half.{First, Second}
use Rattle.chunk_log.specs.LogValues.{LogValue}
use Rattle.chunk_log.specs.Shutting.{IsGuarded}

-- a half among the two of its place, and the one beside it
abbrev pub half_of : Half → Medium → Medium → Medium
half_of First first second = first
half_of Second first second = second

abbrev pub beside : Half → Medium → Medium → Medium
beside First first second = second
beside Second first second = first

-- a half that no crash brings into force beside one with this image: whatever a crash leaves of it has no generation, or
-- a lower one; and what is pending there lies behind a closed gate
pub record IsDormant (image : List ℕ) (m : Medium) : Type 0 where
  pub lower : (y : List ℕ) → MayLeave m y → IsBelow (generation y) (generation image)
  pub guarded : IsGuarded m

-- of the two devices of a place this half is at rest, with these records and a closed gate at the end, and the other
-- half is dormant; the second half is in force only with a generation
pub record Stands (half : Half) (records : List (List ℕ)) (gate : ℕ) (first second : Medium) : Type 0 where
  pub image : List ℕ
  pub rest : half_of half first second ≡ at_rest image
  pub bodies : List (List ℕ)
  pub log : IsLog image bodies gate
  pub told : without_half bodies ≡ records
  pub dormant : IsDormant image (beside half first second)
  pub begun : half ≡ Second → IsSome (generation image)

-- the same of a place of the disk
abbrev pub StandsAt : ℕ → Half → List (List ℕ) → ℕ → Disk → Type 0
StandsAt place half records gate d = Stands half records gate (d place) (d (place + 3))

-- a log stands for a place with these records
pub record LogStands (place : ℕ) (records : List (List ℕ)) (log : LogValue) (d : Disk) : Type 0 where
  pub is_place : place ≤ 2
  pub half : Half
  pub here : log.device ≡ device place half
  pub stands : StandsAt place half records log.end d
  pub fresh : log.spent ≡ false
