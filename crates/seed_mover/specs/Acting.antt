-- Actions, whichever way a migration goes.
use Rattle.std.specs.Prelude.{◌≡◌, ℕ, List, Some, Result, Ok, Err}
use Rattle.volume_disk.specs.Disk.{Disk, Images}
use Rattle.site_forms.specs.Views.{State}
use Rattle.site_core.specs.declared.action.Action.{Action}
use Rattle.site_core.specs.declared.action.Action.TheVariants.{CopyToB, AddToB, DropFromA, DropChunkA, Moved, CopyToA, AddToA, DropFromB, DropChunkB, Undone}
use Rattle.site_core.specs.Steps.{next_of}
use Rattle.chunk_volume.specs.VolumeValues.{VolumeValue}
use Rattle.seed_mover.specs.declared.entries.Side.{Side}
use Rattle.seed_mover.specs.declared.entries.Side.TheVariants.{A, B}
use Rattle.seed_mover.specs.declared.errors.SiteError.{SiteError}
use Rattle.seed_mover.specs.Moving.{Acts, ActsOn}
use Rattle.site_runs.specs.SiteValues.{SiteValue}

-- the actions on a side
abbrev pub copy_to : Side → List ℕ → Action
copy_to A chunk = CopyToA chunk
copy_to B chunk = CopyToB chunk

abbrev pub add_to : Side → ℕ → Action
add_to A place = AddToA place
add_to B place = AddToB place

abbrev pub drop_from : Side → ℕ → Action
drop_from A place = DropFromA place
drop_from B place = DropFromB place

abbrev pub drop_chunk_from : Side → List ℕ → Action
drop_chunk_from A chunk = DropChunkA chunk
drop_chunk_from B chunk = DropChunkB chunk

-- the end, once all files are there
abbrev pub end_at : Side → Action
end_at A = Undone
end_at B = Moved

-- the volume that a side gets files from
abbrev pub source_of : Side → SiteValue → VolumeValue
source_of A v = v.b
source_of B v = v.a

-- an action is the next one
abbrev pub IsNext : SiteValue → Action → Type 0
IsNext v action = next_of v.a.shape v.b.shape v.journal.phase ≡ Some action

-- what is answered once an action is carried out
abbrev pub with_action : Action → Result (Unit {0}) SiteError → Result Action SiteError
with_action action (Ok done) = Ok action
with_action action (Err error) = Err error

abbrev pub Carries : SiteValue → SiteValue → Action → Result (Unit {0}) SiteError → Type 0
Carries v w action result = Acts v w (with_action action result)

abbrev pub CarriesOn : {D : Type 0} → (D → Disk) → (D → ℕ) → (D → ℕ → Images → Type 0) → D → D → SiteValue → SiteValue → State → Action → Result (Unit {0}) SiteError → Type 0
CarriesOn disk moment left_since old new v w s action result = ActsOn disk moment left_since old new v w s (with_action action result)
