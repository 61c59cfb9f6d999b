-- What opening a device does.
use Rattle.std.specs.Prelude.{◌≡◌, ℕ, ◌^◌, ◌<◌, false, nat_le, List, [], ◌∷◌, length, Result, IfOk, Ok, Err, if◌then◌else◌}
use Rattle.volume_disk.specs.Medium.{Medium, at_rest}
use Rattle.volume_disk.specs.Disk.{Disk, Images, Crash, SameElsewhere}
use Rattle.volume_disk.specs.Time.{Passes}
use Rattle.site_forms.specs.Logs.{parse, IsLog}
use Rattle.site_forms.specs.Logs.Parsed.{Good, Bad}
use Rattle.site_forms.specs.Halves.{generation, SameRecords}
use Rattle.chunk_log.specs.declared.errors.LogError.{LogError}
use Rattle.chunk_log.specs.declared.errors.LogError.TheVariants.{RackFault, Damage}
use Rattle.chunk_log.specs.declared.opening.Found.{Found}
use Rattle.chunk_log.specs.declared.opening.Found.TheVariants.{End, Bad as BadGate}
use Rattle.chunk_log.specs.LogValues.{LogValue}

-- an end stands below the place 2^40
abbrev pub EndBelow : Found → Type 0
EndBelow (End gate) = gate < 2 ^ 40
EndBelow (BadGate gate) = Unit {0}

-- an image with some bodies and a closed gate at their end
abbrev pub IsLogTo : List ℕ → ℕ → Type 0
IsLogTo image gate = (bodies : List (List ℕ)) × IsLog image bodies gate

-- the gate behind the bodies of an image, where it is a log; else the one at fault
abbrev pub Finds : List ℕ → Found → Type 0
Finds image (End gate) = IsLogTo image gate
Finds image (BadGate gate) = parse image ≡ Bad gate

-- an image, or a closed gate where it is blank
abbrev pub with_gate : List ℕ → List ℕ
with_gate image = if nat_le (length image) 1 then 0 ∷ [] else image

-- a device at rest with an image, or with a gate where that is blank: it says the same, with a closed gate at the end
pub record OpenedAs (image : List ℕ) (m : Medium) (gate : ℕ) : Type 0 where
  pub now : List ℕ
  pub is : now ≡ with_gate image
  pub rest : m ≡ at_rest now
  pub bodies : List (List ℕ)
  pub told : parse image ≡ Good bodies gate
  pub log : IsLog now bodies gate
  pub kept : generation now ≡ generation image

-- a device of an image is opened exactly where the image is a log
abbrev pub Opens : List ℕ → Medium → Found → Type 0
Opens image m (End gate) = OpenedAs image m gate
Opens image m (BadGate gate) = parse image ≡ Bad gate

-- a device is settled: no other device changes, and a crash at any moment leaves the same records at every place
pub record Settled {D E : Type 0} (moment : D → ℕ) (left_since : D → ℕ → Images → Type 0) (old new : D) (d e : Disk) (device : ℕ) (result : Result Found E) : Type 0 where
  pub others : SameElsewhere device d e
  pub opens : IfOk result (Opens (d device).image (e device))
  pub moments : Passes moment left_since old new (λ c. (b : Images) × Crash d b × SameRecords b c)

-- the log that is answered, on every rack
abbrev pub Answers : ℕ → ℕ → Result LogValue LogError → Type 0
Answers device limit (Ok log) = (log.device ≡ device) × (log.limit ≡ limit) × (log.spent ≡ false)
Answers device limit (Err (Damage dev at)) = dev ≡ device
Answers device limit (Err RackFault) = Unit {0}

-- a log is opened exactly where the image of its device is one
abbrev pub OpensLog : List ℕ → Medium → Result LogValue LogError → Type 0
OpensLog image m (Ok log) = OpenedAs image m log.end
OpensLog image m (Err (Damage dev at)) = parse image ≡ Bad at
OpensLog image m (Err RackFault) = Unit {0}

-- opening a log: no other device changes, and a crash at any moment leaves the same records at every place
pub record Opened {D : Type 0} (moment : D → ℕ) (left_since : D → ℕ → Images → Type 0) (old new : D) (d e : Disk) (device : ℕ) (result : Result LogValue LogError) : Type 0 where
  pub others : SameElsewhere device d e
  pub opens : OpensLog (d device).image (e device) result
  pub moments : Passes moment left_since old new (λ c. (b : Images) × Crash d b × SameRecords b c)
