-- Sites as contracts see them, and the state of a disk that they stand for.
use Rattle.std.specs.Prelude.{◌≡◌, ℕ, ◌≤◌, Bool}
use Rattle.volume_disk.specs.Disk.{Disk}
use Rattle.volume_disk.specs.Medium.{IsAtRest}
use Rattle.site_forms.specs.Views.{State}
use Rattle.chunk_volume.specs.Standing.{VolumeStands}
use Rattle.chunk_volume.specs.VolumeValues.{VolumeValue}
use Rattle.move_journal.specs.JournalValues.{JournalValue}
use Rattle.move_journal.specs.Standing.{JournalStands}
use Rattle.site_core.specs.Events.{Shapes}

-- a site in memory: two volumes, the journal, and whether a call of the rack has failed in a call that writes
pub record SiteValue : Type 0 where
  pub a : VolumeValue
  pub b : VolumeValue
  pub journal : JournalValue
  pub spent : Bool

-- what its volumes hold, and its phase
abbrev pub shapes_in : SiteValue → Shapes
shapes_in t = record { a = t.a.shape; b = t.b.shape; phase = t.journal.phase }

-- it stands for a state of the disk: its volumes for the places 0 and 1, its journal for place 2
pub record SiteStands (t : SiteValue) (d : Disk) (s : State) : Type 0 where
  pub a : VolumeStands 0 t.a d s.a
  pub b : VolumeStands 1 t.b d s.b
  pub journal : JournalStands t.journal d
  pub phase : t.journal.phase ≡ s.phase

-- nothing is pending on the six devices
abbrev pub AllAtRest : Disk → Type 0
AllAtRest d = (device : ℕ) → device ≤ 5 → IsAtRest (d device)
