-- Which half of a place is in force, and opening a place.
use Rattle.std.specs.Prelude.{◌≡◌, ◌≢◌, ◌⊎◌, ℕ, ◌+◌, nat_lt, false, List, Option, Some, None, Result, Ok, Err, OnOk, IfOk, unwrap_or, if◌then◌else◌}
use Rattle.volume_disk.specs.Medium.{IsAtRest, at_rest}
use Rattle.volume_disk.specs.Disk.{Disk, Images, Crash}
use Rattle.volume_disk.specs.Time.{Passes}
use Rattle.site_forms.specs.Logs.{parse}
use Rattle.site_forms.specs.Logs.Parsed.{Good, Bad}
use Rattle.site_forms.specs.Halves.{Half, device as half_device, generation, in_force as half_in_force, records_at, without_half, SameRecords}
use Rattle.site_forms.specs.Halves.Half.{First, Second}
use Rattle.chunk_log.specs.declared.errors.LogError.{LogError}
use Rattle.chunk_log.specs.declared.errors.LogError.TheVariants.{RackFault, Damage}
use Rattle.chunk_log.specs.declared.forces.Generations.{Generations}
use Rattle.chunk_log.specs.LogValues.{LogValue}
use Rattle.chunk_log.specs.Standing.{LogStands}

-- the answer to two generations
abbrev pub chosen : ℕ → Option ℕ → Option ℕ → Result (ℕ × ℕ) LogError
chosen first None None = Ok (first, 0)
chosen first (Some n) None = Ok (first, n)
chosen first None (Some m) = Ok (first + 3, m)
chosen first (Some n) (Some m) = if nat_lt n m then Ok (first + 3, m) else (if nat_lt m n then Ok (first, n) else Err (Damage (first + 3) 0))

-- no device but the two halves of a place has changed
abbrev pub SameOutside : ℕ → Disk → Disk → Type 0
SameOutside place d e = (other : ℕ) → other ≢ place → other ≢ place + 3 → e other ≡ d other

-- nothing is pending at the two halves of a place
abbrev pub RestsAt : ℕ → Disk → Type 0
RestsAt place d = IsAtRest (d place) × IsAtRest (d (place + 3))

-- what each device reads
abbrev pub images_of : Disk → Images
images_of d k = (d k).image

-- both halves of a place are at rest as they read; a crash at any moment leaves what it might have left before
pub record SyncsBoth {D E : Type 0} (moment : D → ℕ) (left_since : D → ℕ → Images → Type 0) (old new : D) (d e : Disk) (place : ℕ) (result : Result (Unit {0}) E) : Type 0 where
  pub others : SameOutside place d e
  pub first : OnOk result (e place ≡ at_rest (d place).image)
  pub second : OnOk result (e (place + 3) ≡ at_rest (d (place + 3)).image)
  pub moments : Passes moment left_since old new (Crash d)

-- the generations of the two halves of a place
abbrev pub ReadsBoth : Disk → ℕ → Generations → Type 0
ReadsBoth d place both = (both.first ≡ generation (d place).image) × (both.second ≡ generation (d (place + 3)).image)

-- both halves of a place are at rest as they read, with these generations; a crash at any moment leaves what it might
-- have left before
pub record SettlesBoth {D E : Type 0} (moment : D → ℕ) (left_since : D → ℕ → Images → Type 0) (old new : D) (d e : Disk) (place : ℕ) (result : Result Generations E) : Type 0 where
  pub others : SameOutside place d e
  pub first : OnOk result (e place ≡ at_rest (d place).image)
  pub second : OnOk result (e (place + 3) ≡ at_rest (d (place + 3)).image)
  pub numbers : IfOk result (ReadsBoth d place)
  pub moments : Passes moment left_since old new (Crash d)

-- the image of a half
abbrev pub half_image : Half → List ℕ → List ℕ → List ℕ
half_image First x y = x
half_image Second x y = y

-- the half of a device, of two images, is in force with a generation
pub record IsInForce (x y : List ℕ) (place device number : ℕ) : Type 0 where
  pub half : Half
  pub here : device ≡ half_device place half
  pub is : half_in_force x y ≡ Some half
  pub counted : number ≡ unwrap_or (generation (half_image half x y)) 0

-- the device of the half in force, or none
abbrev pub IsHalf : List ℕ → List ℕ → ℕ → Result (ℕ × ℕ) LogError → Type 0
IsHalf x y place (Ok answer) = IsInForce x y place answer.0 answer.1
IsHalf x y place (Err (Damage device at)) = half_in_force x y ≡ None
IsHalf x y place (Err RackFault) = Unit {0}

-- where a log stands for the place, its half is found, with its generation, and the log still stands
abbrev pub FindsLog : ℕ → List (List ℕ) → LogValue → Disk → Result (ℕ × ℕ) LogError → Type 0
FindsLog place records log e (Ok answer) = (answer.0 ≡ log.device) × (answer.1 ≡ unwrap_or (generation (e log.device).image) 0) × LogStands place records log e
FindsLog place records log e (Err (Damage device at)) = ⊥
FindsLog place records log e (Err RackFault) = Unit {0}

-- the halves of a place at rest, and the one in force
pub record FindsHalf {D : Type 0} (moment : D → ℕ) (left_since : D → ℕ → Images → Type 0) (old new : D) (d e : Disk) (place : ℕ) (result : Result (ℕ × ℕ) LogError) : Type 0 where
  pub others : SameOutside place d e
  pub first : OnOk result (e place ≡ at_rest (d place).image)
  pub second : OnOk result (e (place + 3) ≡ at_rest (d (place + 3)).image)
  pub is : IsHalf (d place).image (d (place + 3)).image place result
  pub stands : (records : List (List ℕ)) (log : LogValue) → LogStands place records log d → FindsLog place records log e result
  pub moments : Passes moment left_since old new (Crash d)

-- what is answered, on every rack
abbrev pub NamesHalf : ℕ → Result (ℕ × ℕ) LogError → Type 0
NamesHalf place (Ok answer) = (half : Half) × (answer.0 ≡ half_device place half)
NamesHalf place (Err (Damage device at)) = (device ≡ place + 3) × (at ≡ 0)
NamesHalf place (Err RackFault) = Unit {0}

-- a device is one of the two of a place
abbrev pub IsOfPlace : ℕ → ℕ → Type 0
IsOfPlace place device = (half : Half) × (device ≡ half_device place half)

-- what is answered, on every rack
abbrev pub AnswersPlace : ℕ → ℕ → Result LogValue LogError → Type 0
AnswersPlace place limit (Ok log) = IsOfPlace place log.device × (log.limit ≡ limit) × (log.spent ≡ false)
AnswersPlace place limit (Err (Damage device at)) = IsOfPlace place device
AnswersPlace place limit (Err RackFault) = Unit {0}

-- the two halves have the same generation, which the second one is blamed for; or the half in force is no log, for the
-- gate at this place
abbrev pub IsDamaged : List ℕ → List ℕ → ℕ → ℕ → ℕ → Type 0
IsDamaged x y place device at =
    (half_in_force x y ≡ None) × (device ≡ place + 3) × (at ≡ 0)
    ⊎ ((half : Half) × (half_in_force x y ≡ Some half) × (device ≡ half_device place half) × (parse (half_image half x y) ≡ Bad at))

-- a log that stands for a place, exactly where the place has records
abbrev pub IsPlaceLog : Disk → Disk → ℕ → Result LogValue LogError → Type 0
IsPlaceLog d e place (Ok log) = (records : List (List ℕ)) × (records_at (images_of d) place ≡ Some records) × LogStands place records log e
IsPlaceLog d e place (Err (Damage device at)) = (records_at (images_of d) place ≡ None) × IsDamaged (d place).image (d (place + 3)).image place device at
IsPlaceLog d e place (Err RackFault) = Unit {0}

-- a log that stands for a place: that of the half in force, which said the same before it was opened
pub record IsHalfLog (d e : Disk) (place : ℕ) (log : LogValue) : Type 0 where
  pub half : Half
  pub here : log.device ≡ half_device place half
  pub is : half_in_force (d place).image (d (place + 3)).image ≡ Some half
  pub bodies : List (List ℕ)
  pub was : parse (half_image half (d place).image (d (place + 3)).image) ≡ Good bodies log.end
  pub now : parse (e log.device).image ≡ Good bodies log.end
  pub stands : LogStands place (without_half bodies) log e

-- the same, exactly where the place has records
abbrev pub IsHalfOf : Disk → Disk → ℕ → Result LogValue LogError → Type 0
IsHalfOf d e place (Ok log) = IsHalfLog d e place log
IsHalfOf d e place (Err (Damage device at)) = (records_at (images_of d) place ≡ None) × IsDamaged (d place).image (d (place + 3)).image place device at
IsHalfOf d e place (Err RackFault) = Unit {0}

-- opening a place: no other device changes; once it is open nothing is pending at its two halves; and a crash at any moment
-- leaves the same records at every place
pub record OpensPlace {D : Type 0} (moment : D → ℕ) (left_since : D → ℕ → Images → Type 0) (old new : D) (d e : Disk) (place : ℕ) (result : Result LogValue LogError) : Type 0 where
  pub others : SameOutside place d e
  pub log : IsPlaceLog d e place result
  pub rest : OnOk result (RestsAt place e)
  pub moments : Passes moment left_since old new (λ c. (b : Images) × Crash d b × SameRecords b c)
