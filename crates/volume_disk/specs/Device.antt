-- One device in memory, and the medium that it stands for.
use Rattle.std.specs.Prelude.{◌≡◌, ℕ, ◌<◌, ◌≤◌, Bool, false, List, length, slice_index, slice_index_or, Vec, vec_capacity}
use Rattle.std.specs.declared.alloc.Global.{Global}
use Rattle.volume_disk.specs.Medium.{Medium, is_touched}
use Rattle.volume_disk.specs.Picks.{newest_at}

-- what a device in memory holds: the image that it began with, what a read gives, what the last sync left, the least and
-- the greatest size since then, which places a write or a cut covered since then, and the newest byte written to each
pub record DeviceState : Type 0 where
  pub base : List ℕ
  pub image : List ℕ
  pub synced : List ℕ
  pub least : ℕ
  pub greatest : ℕ
  pub touched : List Bool
  pub newest : List ℕ

-- how many bytes it has room for
abbrev pub room_of : DeviceState → ℕ
room_of device = length device.touched

-- the device stands for a medium
pub record Mirrors (device : DeviceState) (m : Medium) : Type 0 where
  pub image : device.image ≡ m.image
  pub synced : device.synced ≡ m.synced
  pub least : device.least ≡ m.least
  pub greatest : device.greatest ≡ m.greatest
  pub touched : (i : ℕ) → i < room_of device → slice_index_or device.touched i false ≡ is_touched m.touches i
  pub newest : (i : ℕ) → i < room_of device → slice_index device.newest i ≡ newest_at m.touches i

-- bytes that fit a room, which is there
pub record FitsCapacity (room : ℕ) (bytes : Vec ℕ Global) : Type 0 where
  pub within : length bytes.items ≤ room
  pub capacity : room ≤ vec_capacity bytes

-- all that a device keeps fits its room
pub record FitsRoom (room : ℕ) (begun now last newest : Vec ℕ Global) (low high : ℕ) : Type 0 where
  pub base : FitsCapacity room begun
  pub image : FitsCapacity room now
  pub synced : FitsCapacity room last
  pub newest_room : length newest.items ≡ room
  pub least : low ≤ room
  pub greatest : high ≤ room
