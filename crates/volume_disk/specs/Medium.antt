-- One device: what a read gives, and what a crash may leave of it.
use Rattle.std.specs.Prelude.{◌≡◌, ◌⊎◌, ℕ, ◌+◌, ◌-◌, ◌<◌, ◌≤◌, min, max, Bool, false, ◌&&◌, ◌||◌, nat_le, nat_lt, List, [], ◌∷◌, ◌++◌, length, take, drop, replicate, slice_index}

-- a write or a cut since the last sync that succeeded, also one that failed
pub data Touch : Type 0 where
  -- from a place on these bytes, those of a gap of zeros among them
  Wrote : (at : ℕ) → (bytes : List ℕ) → Touch
  -- all from a length on was dropped
  Dropped : (len : ℕ) → Touch

-- the place lies in a range of so many bytes
abbrev pub is_within : ℕ → ℕ → ℕ → Bool
is_within at n i = nat_le at i && nat_lt i (at + n)

-- one of the touches covers the place
abbrev pub is_touched : List Touch → ℕ → Bool
is_touched [] i = false
is_touched (Wrote at bytes ∷ touches) i = is_within at (length bytes) i || is_touched touches i
is_touched (Dropped len ∷ touches) i = nat_le len i || is_touched touches i

-- a device: what a read gives, what its last sync that succeeded left, and since then the least and the greatest
-- size and the touches, the newest first
pub record Medium : Type 0 where
  pub image : List ℕ
  pub synced : List ℕ
  pub least : ℕ
  pub greatest : ℕ
  pub touches : List Touch

-- what a crash may leave of a device: its size lies between the least and the greatest, and each place inside this
-- image and the synced one that no touch covers is as it was synced; any byte may stand elsewhere
pub record MayLeave (medium : Medium) (c : List ℕ) : Type 0 where
  pub no_shorter : medium.least ≤ length c
  pub no_longer : length c ≤ medium.greatest
  pub same : (i : ℕ) → i < length c → i < length medium.synced → is_touched medium.touches i ≡ false → slice_index c i ≡ slice_index medium.synced i

-- a device on which nothing is pending
abbrev pub at_rest : List ℕ → Medium
at_rest image = record { image = image; synced = image; least = length image; greatest = length image; touches = [] }

-- nothing is pending
abbrev pub IsAtRest : Medium → Type 0
IsAtRest medium = medium ≡ at_rest medium.image

-- where the range of a write begins: at its place, or at the end where that comes first
abbrev pub range_start : ℕ → List ℕ → ℕ
range_start at image = min at (length image)

-- the bytes of that range: zeros for the gap, and then those that are written
abbrev pub with_gap : ℕ → List ℕ → List ℕ → List ℕ
with_gap at image bytes = replicate (at - length image) 0 ++ bytes

-- a list with other elements from a place on
abbrev pub overwritten : {X : Type 0} → List X → ℕ → List X → List X
overwritten list at others = take at list ++ (others ++ drop (at + length others) list)

-- an image after a write
abbrev pub written : List ℕ → ℕ → List ℕ → List ℕ
written image at bytes = overwritten image (range_start at image) (with_gap at image bytes)

-- the touch of a write
abbrev pub touch_of_write : ℕ → List ℕ → List ℕ → Touch
touch_of_write at image bytes = Wrote (range_start at image) (with_gap at image bytes)

-- a device after a write
abbrev pub wrote : ℕ → List ℕ → Medium → Medium
wrote at bytes m = record {
  image = written m.image at bytes;
  synced = m.synced;
  least = m.least;
  greatest = max m.greatest (length (written m.image at bytes));
  touches = touch_of_write at m.image bytes ∷ m.touches;
}

-- a device after a write that failed: in its range any bytes, some size on the way to the new one, all else as before
pub record TornWrite (at : ℕ) (bytes : List ℕ) (m n : Medium) : Type 0 where
  pub synced : n.synced ≡ m.synced
  pub least : n.least ≡ m.least
  pub greatest : n.greatest ≡ max m.greatest (length n.image)
  pub touches : n.touches ≡ touch_of_write at m.image bytes ∷ m.touches
  pub no_shorter : length m.image ≤ length n.image
  pub no_longer : length n.image ≤ max (length m.image) (at + length bytes)
  pub same : (i : ℕ) → i < length m.image → (i < at) ⊎ (at + length bytes ≤ i) → slice_index n.image i ≡ slice_index m.image i

-- a write that failed may also have done nothing
abbrev pub FailedWrite : ℕ → List ℕ → Medium → Medium → Type 0
FailedWrite at bytes m n = (n ≡ m) ⊎ TornWrite at bytes m n

-- a device after a cut, which never lengthens it
abbrev pub trimmed : ℕ → Medium → Medium
trimmed len m = record {
  image = take len m.image;
  synced = m.synced;
  least = min m.least (length (take len m.image));
  greatest = m.greatest;
  touches = Dropped len ∷ m.touches;
}

-- a device after a cut that failed: some size on the way to the new one, and the bytes that are left as before
pub record TornCut (len : ℕ) (m n : Medium) : Type 0 where
  pub synced : n.synced ≡ m.synced
  pub least : n.least ≡ min m.least (length n.image)
  pub greatest : n.greatest ≡ m.greatest
  pub touches : n.touches ≡ Dropped len ∷ m.touches
  pub no_shorter : min len (length m.image) ≤ length n.image
  pub no_longer : length n.image ≤ length m.image
  pub front : n.image ≡ take (length n.image) m.image

-- a cut that failed may also have done nothing
abbrev pub FailedCut : ℕ → Medium → Medium → Type 0
FailedCut len m n = (n ≡ m) ⊎ TornCut len m n

-- a device after a sync
abbrev pub flushed : Medium → Medium
flushed m = at_rest m.image
