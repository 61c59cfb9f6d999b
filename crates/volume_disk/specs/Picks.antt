-- Which of a device's crash images a crash leaves.
use Rattle.std.specs.Prelude.{◌≡◌, ℕ, ◌-◌, ◌<◌, List, [], ◌∷◌, length, slice_index, if◌then◌else◌}
use Rattle.volume_disk.specs.Medium.{Touch, Medium, is_within, is_touched}
use Rattle.volume_disk.specs.Medium.Touch.{Wrote, Dropped}
use Rattle.volume_disk.specs.declared.pick.Pick.{Pick}
use Rattle.volume_disk.specs.declared.pick.Pick.TheVariants.{Old, New, Junk}

-- the newest byte that was written at a place, or 0
abbrev pub newest_at : List Touch → ℕ → ℕ
newest_at [] i = 0
newest_at (Wrote at bytes ∷ touches) i = if is_within at (length bytes) i then slice_index bytes (i - at) else newest_at touches i
newest_at (Dropped len ∷ touches) i = newest_at touches i

-- how long the crash image is, from the least and the greatest size
abbrev pub size_picked : Pick → ℕ → ℕ → ℕ
size_picked Old least greatest = least
size_picked New least greatest = greatest
size_picked (Junk byte) least greatest = greatest

-- the byte at a place that a touch covers, from the synced one and the newest written one
abbrev pub free_byte : Pick → ℕ → ℕ → ℕ
free_byte Old synced newest = synced
free_byte New synced newest = newest
free_byte (Junk byte) synced newest = byte

-- the byte at a place; past its end the synced image has 0
abbrev pub byte_picked : Pick → Medium → ℕ → ℕ
byte_picked pick m i = if is_touched m.touches i then free_byte pick (slice_index m.synced i) (newest_at m.touches i) else slice_index m.synced i

-- the crash image of a pick
pub record IsPicked (pick : Pick) (m : Medium) (c : List ℕ) : Type 0 where
  pub size : length c ≡ size_picked pick m.least m.greatest
  pub bytes : (i : ℕ) → i < length c → slice_index c i ≡ byte_picked pick m i
