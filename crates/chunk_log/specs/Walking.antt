-- What a walk over a log and a read of it answer.
use Rattle.std.specs.Prelude.{◌≡◌, ℕ, ◌+◌, ◌^◌, ◌<◌, ◌≤◌, List, length, take, drop, slice_index, Option, Some, None, Result, Ok, Err}
use Rattle.std.specs.Int.{w32, from_be_bytes}
use Rattle.chunk_log.specs.declared.errors.LogError.{LogError}
use Rattle.chunk_log.specs.declared.errors.LogError.TheVariants.{RackFault, Damage}
use Rattle.site_forms.specs.declared.gates.Gate.{Gate}
use Rattle.site_forms.specs.declared.gates.Gate.TheVariants.{Shut, Broken, Open}
use Rattle.chunk_log.specs.declared.place.Place.{Place}
use Rattle.chunk_log.specs.LogValues.{LogValue}

-- a body behind a gate of a log, and the next gate not past its end
pub record IsStep (log : LogValue) (at : ℕ) (place : Place) : Type 0 where
  pub begins : place.at ≡ at + 5
  pub some : 1 ≤ place.len
  pub most : place.len ≤ 2 ^ 24
  pub next : place.next ≡ place.at + place.len
  pub inside : place.next ≤ log.end

-- what a walk answers, on every rack: none exactly at the end, and damage at this gate of this device
abbrev pub Walks : LogValue → ℕ → Result (Option Place) LogError → Type 0
Walks log at (Ok None) = at ≡ log.end
Walks log at (Ok (Some place)) = (at < log.end) × IsStep log at place
Walks log at (Err (Damage device gate)) = (at < log.end) × (device ≡ log.device) × (gate ≡ at)
Walks log at (Err RackFault) = at < log.end

-- an open gate at a place of an image, and behind it the length of a body of n bytes, where the gate behind that body
-- stands at or before an end
pub record HasBlock (image : List ℕ) (at end n : ℕ) : Type 0 where
  pub is_open : slice_index image at ≡ 1
  pub whole : at + 5 ≤ length image
  pub size : from_be_bytes w32 (take 4 (drop (at + 1) image)) ≡ n
  pub some : 1 ≤ n
  pub most : n ≤ 2 ^ 24
  pub inside : at + 5 + n ≤ end

-- a body is answered where there is a block, and damage where there is none
abbrev pub FindsBlock : List ℕ → ℕ → ℕ → Result (Option Place) LogError → Type 0
FindsBlock image at end (Ok None) = Unit {0}
FindsBlock image at end (Ok (Some place)) = HasBlock image at end place.len
FindsBlock image at end (Err (Damage device gate)) = (n : ℕ) → ¬ HasBlock image at end n
FindsBlock image at end (Err RackFault) = Unit {0}

-- the place of a body behind a gate
abbrev pub place_behind : ℕ → ℕ → Place
place_behind at n = record { at = at + 5; len = n; next = at + 5 + n }

-- the answer to what stands at a gate
abbrev pub placed : LogValue → ℕ → Gate → Result (Option Place) LogError
placed log at (Open n) = Ok (Some (place_behind at n))
placed log at Shut = Err (Damage log.device at)
placed log at Broken = Err (Damage log.device at)

-- at a gate of a log the body behind it is answered, and never damage
abbrev pub WalksTo : Place → Result (Option Place) LogError → Type 0
WalksTo place (Ok o) = o ≡ Some place
WalksTo place (Err (Damage device gate)) = ⊥
WalksTo place (Err RackFault) = Unit {0}

-- bytes of an image, or damage where the image ends before them
abbrev pub ReadsBytes : List ℕ → ℕ → List ℕ → Result (Unit {0}) LogError → Type 0
ReadsBytes image at into (Ok done) = into ≡ take (length into) (drop at image)
ReadsBytes image at into (Err (Damage device place)) = length image < at + length into
ReadsBytes image at into (Err RackFault) = Unit {0}

-- the device and the place that damage names
abbrev pub NamesPlace : ℕ → ℕ → Result (Unit {0}) LogError → Type 0
NamesPlace device at (Ok done) = Unit {0}
NamesPlace device at (Err (Damage dev place)) = (dev ≡ device) × (place ≡ at)
NamesPlace device at (Err RackFault) = Unit {0}
