-- Devices in memory, and the record of what was done to them.
use Rattle.std.specs.Prelude.{◌≡◌, ℕ, ◌+◌, ◌<◌, ◌≤◌, ◌==◌, Bool, List, [], ◌∷◌, length, map, take, drop, reverse, filter, not, slice_index_or, slice_set, replicate, All, Vec, vec_capacity, if◌then◌else◌}
use Rattle.std.specs.declared.alloc.Global.{Global}
use Rattle.volume_disk.specs.Medium.{Medium, at_rest, wrote, trimmed, flushed}
use Rattle.volume_disk.specs.Disk.{Disk, Images, Crash}
use Rattle.volume_disk.specs.Device.{DeviceState, Mirrors, room_of}
use Rattle.volume_disk.specs.Picks.{IsPicked}
use Rattle.volume_disk.specs.declared.pick.Pick.{Pick}
use Rattle.volume_disk.specs.declared.recorded.Entry.{Entry}
use Rattle.volume_disk.specs.declared.recorded.Entry.TheVariants.{Write, Cut, Sync}

-- what was done to a device
pub data Step : Type 0 where
  Writing : (device : ℕ) → (at : ℕ) → (bytes : List ℕ) → Step
  Cutting : (device : ℕ) → (len : ℕ) → Step
  Syncing : (device : ℕ) → Step

-- the device of a step
abbrev pub device_of : Step → ℕ
device_of (Writing device at bytes) = device
device_of (Cutting device len) = device
device_of (Syncing device) = device

-- what a step does to its device
abbrev pub after_step : Step → Medium → Medium
after_step (Writing device at bytes) m = wrote at bytes m
after_step (Cutting device len) m = trimmed len m
after_step (Syncing device) m = flushed m

-- a device after steps, the newest of them first
abbrev pub medium_after : List Step → List ℕ → ℕ → Medium
medium_after [] base device = at_rest base
medium_after (step ∷ past) base device = if device_of step == device then after_step step (medium_after past base device) else medium_after past base device

-- the devices after steps, from images at rest
abbrev pub disk_after : List Step → List (List ℕ) → Disk
disk_after past bases device = medium_after past (slice_index_or bases device []) device

-- devices in memory: their images when the record began, what was done since then, the newest first, how many moments
-- the clock has counted, the calls and the written bytes of the record, and the three numbers that bound them
pub record Recorded : Type 0 where
  pub bases : List (List ℕ)
  pub past : List Step
  pub moment : ℕ
  pub counted : ℕ
  pub taken : ℕ
  pub room : ℕ
  pub calls : ℕ
  pub written : ℕ

-- the devices as they are
abbrev pub disk_of : Recorded → Disk
disk_of r = disk_after r.past r.bases

-- what a crash at one of the moments since t might have left
abbrev pub LeftSince : Recorded → ℕ → Images → Type 0
LeftSince r t c = (k : ℕ) × (k + t ≤ r.moment) × Crash (disk_after (drop k r.past) r.bases) c

-- one call more fits the record
abbrev pub FitsCall : Recorded → Type 0
FitsCall r = r.counted < r.calls

-- a write fits the record and its device
pub record FitsWrite (r : Recorded) (at n : ℕ) : Type 0 where
  pub call : FitsCall r
  pub room : at + n ≤ r.room
  pub bytes : r.taken + n ≤ r.written

-- one step more
abbrev pub with_step : Recorded → Step → ℕ → Recorded
with_step r step n = record r { past = step ∷ r.past; moment = r.moment + 1; counted = r.counted + 1; taken = r.taken + n }

-- what an entry of the record says, whose bytes stand apart
abbrev pub step_of : List ℕ → Entry → Step
step_of bytes (Write device at start len) = Writing device at (take len (drop start bytes))
step_of bytes (Cut device len) = Cutting device len
step_of bytes (Sync device) = Syncing device

-- where the bytes of an entry end
abbrev pub end_of : Entry → ℕ
end_of (Write device at start len) = start + len
end_of (Cut device len) = 0
end_of (Sync device) = 0

-- what the entries say, the newest first
abbrev pub past_of : List ℕ → List Entry → List Step
past_of bytes entries = reverse (map (step_of bytes) entries)

-- the images when the record began
abbrev pub bases_of : List DeviceState → List (List ℕ)
bases_of devices = map (λ d. d.base) devices

-- a device with nothing and no room
abbrev pub no_device : DeviceState
no_device = record { base = []; image = []; synced = []; least = 0; greatest = 0; touched = []; newest = [] }

-- the devices stand for those after the steps
pub record Stands (devices : List DeviceState) (past : List Step) (space : ℕ) : Type 0 where
  pub six : length devices ≡ 6
  pub space_of : (device : ℕ) → device < 6 → room_of (slice_index_or devices device no_device) ≡ space
  pub mirrors : (device : ℕ) → device < 6 → Mirrors (slice_index_or devices device no_device) (disk_after past (bases_of devices) device)

-- the record fits its bounds, for which there is memory
pub record FitsBounds (entries : Vec Entry Global) (bytes : Vec ℕ Global) (moments count most_calls most_bytes : ℕ) : Type 0 where
  pub ends : All (λ e. end_of e ≤ length bytes.items) entries.items
  pub fewer : length entries.items ≤ count
  pub calls_in : count ≤ most_calls
  pub moments_in : moments ≤ length entries.items
  pub bytes_in : length bytes.items ≤ most_bytes
  pub entries_room : most_calls ≤ vec_capacity entries
  pub bytes_room : most_bytes ≤ vec_capacity bytes

-- empty devices and an empty record
abbrev pub blank_record : ℕ → ℕ → ℕ → Recorded
blank_record room calls written = record { bases = replicate 6 []; past = []; moment = 0; counted = 0; taken = 0; room = room; calls = calls; written = written }

-- an empty device with so much room
pub record IsBlank (space : ℕ) (device : DeviceState) : Type 0 where
  pub base : device.base ≡ []
  pub room : room_of device ≡ space
  pub rest : Mirrors device (at_rest [])

-- a device has become the crash image of a pick, with nothing pending
pub record Crashed (pick : Pick) (before now : DeviceState) : Type 0 where
  pub room : room_of now ≡ room_of before
  pub picked : (m : Medium) → Mirrors before m → IsPicked pick m now.base
  pub rest : Mirrors now (at_rest now.base)

-- each device has become the crash image of a pick, with nothing pending, and a clean record has begun
pub record Crashes (pick : Pick) (r s : Recorded) : Type 0 where
  pub picked : (device : ℕ) → device ≤ 5 → IsPicked pick (disk_of r device) (disk_of s device).image
  pub past : s.past ≡ []
  pub moment : s.moment ≡ 0
  pub counted : s.counted ≡ 0
  pub taken : s.taken ≡ 0
  pub room : s.room ≡ r.room
  pub calls : s.calls ≡ r.calls
  pub written : s.written ≡ r.written

-- whether a step is on another device
abbrev pub is_elsewhere : ℕ → Step → Bool
is_elsewhere device step = not (device_of step == device)

-- a device begins with another image and nothing pending, the others keep what they are, and the clock begins anew
abbrev pub with_image : Recorded → ℕ → List ℕ → Recorded
with_image r device image = record r { bases = slice_set r.bases device image; past = filter (is_elsewhere device) r.past; moment = 0 }

-- the device of an entry
abbrev pub entry_device : Entry → ℕ
entry_device (Write device at start len) = device
entry_device (Cut device len) = device
entry_device (Sync device) = device

-- whether an entry is on another device
abbrev pub is_entry_elsewhere : ℕ → Entry → Bool
is_entry_elsewhere device e = not (entry_device e == device)
