-- What a volume keeps.
use Rattle.std.specs.Prelude.{◌≡◌, ℕ, ◌+◌, ◌≤◌, List, Some}
use Rattle.std.specs.FinMap as map
use Rattle.site_forms.specs.Volumes.{bytes_cmp}
use Rattle.chunk_volume.specs.declared.volume.Volume.TheInside.{Inside}
use Rattle.chunk_volume.specs.VolumeValues.{VolumeValue}
use Rattle.volume_index.specs.HoldingValues.{Places}

abbrev pub view_of : Inside → VolumeValue
view_of a = record {
  shape = a.holding.shape;
  places = a.holding.places;
  log = a.log;
  room = record { chunks = a.holding.chunk_room; files = a.holding.file_room; body = a.frame.room };
}

-- the bytes of each chunk stand before an end, from the places and the lengths
abbrev pub StandBefore : ℕ → Places → map.FinMap bytes_cmp ℕ → Type 0
StandBefore end places lengths = (name : List ℕ) (place len : ℕ) → map.get places name ≡ Some place → map.get lengths name ≡ Some len → place + len ≤ end

-- the bytes of each chunk stand before the end of the log, whatever the rack says
abbrev pub KeepsVolume : Inside → Type 0
KeepsVolume a = StandBefore a.log.end a.holding.places a.holding.shape.chunks
