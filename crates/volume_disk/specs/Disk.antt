-- Six devices, and what each call of a rack does to them.
use Rattle.std.specs.Prelude.{◌≡◌, ◌≢◌, ℕ, ◌-◌, ◌≤◌, ◌==◌, min, List, length, take, drop, Result, OnOk, OnErr, if◌then◌else◌}
use Rattle.volume_disk.specs.Medium.{Medium, MayLeave, wrote, FailedWrite, trimmed, FailedCut, flushed}

-- a device for each number; 0 to 5 count
abbrev pub Disk : Type 0
Disk = ℕ → Medium

-- an image for each number
abbrev pub Images : Type 0
Images = ℕ → List ℕ

-- another image at one number, and the same at all others
abbrev pub put_image : ℕ → List ℕ → Images → Images
put_image device image c other = if other == device then image else c other

-- what a crash now may leave: of each device one of its crash images, whatever is left of the others
abbrev pub Crash : Disk → Images → Type 0
Crash d c = (device : ℕ) → device ≤ 5 → MayLeave (d device) (c device)

-- no device has changed
abbrev pub SameDisk : Disk → Disk → Type 0
SameDisk d e = (device : ℕ) → e device ≡ d device

-- no other device has changed, nor what is pending there
abbrev pub SameElsewhere : ℕ → Disk → Disk → Type 0
SameElsewhere device d e = (other : ℕ) → other ≢ device → e other ≡ d other

-- the bytes of an image from a place on, as many as there is room for; fewer only at its end
pub record Gives (image : List ℕ) (at : ℕ) (into : List ℕ) (n : ℕ) : Type 0 where
  pub count : n ≡ min (length into) (length image - at)
  pub bytes : take n into ≡ take n (drop at image)

-- what a write does
pub record Writes {E : Type 0} (device at : ℕ) (bytes : List ℕ) (d e : Disk) (result : Result (Unit {0}) E) : Type 0 where
  pub others : SameElsewhere device d e
  pub ok : OnOk result (e device ≡ wrote at bytes (d device))
  pub fault : OnErr result (FailedWrite at bytes (d device) (e device))

-- what a cut does
pub record Cuts {E : Type 0} (device len : ℕ) (d e : Disk) (result : Result (Unit {0}) E) : Type 0 where
  pub others : SameElsewhere device d e
  pub ok : OnOk result (e device ≡ trimmed len (d device))
  pub fault : OnErr result (FailedCut len (d device) (e device))

-- what a sync does
pub record Syncs {E : Type 0} (device : ℕ) (d e : Disk) (result : Result (Unit {0}) E) : Type 0 where
  pub others : SameElsewhere device d e
  pub ok : OnOk result (e device ≡ flushed (d device))
  pub fault : OnErr result (e device ≡ d device)
