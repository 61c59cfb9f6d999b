-- What a crash leaves after one write or one cut, beside what it might have left before.
use Rattle.std.specs.Prelude.{◌≡◌, ◌≢◌, ℕ, ◌+◌, ◌≤◌, min, max, List, length, take, drop}
use Rattle.volume_disk.specs.Disk.{Images}

-- of one device, after a write that began inside its image: outside the range nothing is changed
pub record OneWrite (image : List ℕ) (at : ℕ) (bytes c : List ℕ) : Type 0 where
  pub no_shorter : length image ≤ length c
  pub no_longer : length c ≤ max (length image) (at + length bytes)
  pub front : take at c ≡ take at image
  pub back : drop (at + length bytes) c ≡ drop (at + length bytes) image

-- of one device, after a cut: some size on the way to the new one, and below the length nothing is changed
pub record OneCut (image : List ℕ) (len : ℕ) (c : List ℕ) : Type 0 where
  pub no_shorter : min len (length image) ≤ length c
  pub no_longer : length c ≤ length image
  pub front : take len c ≡ take len image

-- of all devices, after a write to one
pub record OneWriteAt (device at : ℕ) (bytes : List ℕ) (b c : Images) : Type 0 where
  pub elsewhere : (other : ℕ) → other ≢ device → c other ≡ b other
  pub here : OneWrite (b device) at bytes (c device)

-- of all devices, after a cut of one
pub record OneCutAt (device len : ℕ) (b c : Images) : Type 0 where
  pub elsewhere : (other : ℕ) → other ≢ device → c other ≡ b other
  pub here : OneCut (b device) len (c device)
