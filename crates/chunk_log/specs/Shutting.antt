-- A device whose first gate no crash opens.
use Rattle.std.specs.Prelude.{◌≡◌, ◌≢◌, ◌⊎◌, ℕ, ◌≤◌, ◌==◌, false, List, [], ◌∷◌, take, length, slice_index, Result, OnOk, if◌then◌else◌}
use Rattle.volume_disk.specs.Medium.{Medium, IsAtRest, is_touched, at_rest}
use Rattle.volume_disk.specs.Disk.{Disk, Images, Crash, SameDisk, SameElsewhere}
use Rattle.volume_disk.specs.Time.{Passes}
use Rattle.site_forms.specs.Halves.{IsClosed}

-- the first gate was synced closed, and nothing has covered it since
pub record IsShut (m : Medium) : Type 0 where
  pub here : 1 ≤ length m.image
  pub there : 1 ≤ length m.synced
  pub closed : slice_index m.synced 0 ≢ 1
  pub free : is_touched m.touches 0 ≡ false

-- nothing is pending, or what is pending lies behind a closed gate
abbrev pub IsGuarded : Medium → Type 0
IsGuarded m = IsAtRest m ⊎ (IsShut m × 2 ≤ length m.image)

-- nothing is pending, and there is a gate at most
pub record IsBlankAtRest (m : Medium) : Type 0 where
  pub rest : IsAtRest m
  pub short : length m.image ≤ 1

-- the first byte of an image, closed where it was an open gate
abbrev pub closed_front : List ℕ → List ℕ
closed_front image = (if slice_index image 0 == 1 then 0 else slice_index image 0) ∷ []

-- elsewhere as they are; at the device the same, or a first gate that is not open
pub record SameOrShut (device : ℕ) (b c : Images) : Type 0 where
  pub elsewhere : (other : ℕ) → other ≢ device → c other ≡ b other
  pub here : (c device ≡ b device) ⊎ IsClosed (c device)

module _ {D E : Type 0} (moment : D → ℕ) (left_since : D → ℕ → Images → Type 0) (old new : D) (d e : Disk) (device : ℕ) (result : Result (Unit {0}) E) where
  -- whatever a crash at any moment leaves is what it might have left before, but for a device whose first gate is closed
  abbrev pub PassesShut : Type 0
  PassesShut = Passes moment left_since old new (λ c. (b : Images) × Crash d b × SameOrShut device b c)

  -- the first gate of a device is closed
  pub record ShutsGate : Type 0 where
    pub others : SameElsewhere device d e
    pub shut : IsGuarded (d device) → 2 ≤ length (d device).image → OnOk result (IsShut (e device))
    pub front : 2 ≤ length (d device).image → OnOk result (take 1 (e device).image ≡ closed_front (d device).image)
    pub moments : IsGuarded (d device) → 2 ≤ length (d device).image → PassesShut

  -- a device is cut to its first gate
  pub record CutsToGate : Type 0 where
    pub others : SameElsewhere device d e
    pub rest : OnOk result (e device ≡ at_rest (take 1 (d device).image))
    pub moments : IsShut (d device) → PassesShut

  -- a device is emptied but for its first gate, which is closed; a blank one is left as it is
  pub record Empties : Type 0 where
    pub others : SameElsewhere device d e
    pub left : length (d device).image ≤ 1 → SameDisk d e
    pub image : 2 ≤ length (d device).image → OnOk result (e device ≡ at_rest (closed_front (d device).image))
    pub blank : IsGuarded (d device) → OnOk result (IsBlankAtRest (e device))
    pub moments : IsGuarded (d device) → PassesShut
