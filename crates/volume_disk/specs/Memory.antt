-- A rack in memory: when its calls fail, and what they do.
use Rattle.std.specs.Prelude.{◌≡◌, ◌⊎◌, ℕ, ◌+◌, ◌<◌, ◌≤◌, ◌==◌, Bool, true, false, Contains, if◌then◌else◌}
use Rattle.std.specs.declared.option.Option.{Option}
use Rattle.std.specs.declared.option.Option.TheVariants.{Some, None}
use Rattle.fault_count.specs.Counts.{last_count, counted_up}
use Rattle.fault_count.specs.Plans.{Plan}
use Rattle.volume_disk.specs.Record.{Recorded}
use Rattle.volume_disk.specs.declared.turn.Turn.{Turn}
use Rattle.volume_disk.specs.declared.turn.Turn.TheVariants.{Refused, Fails, Runs}

-- a rack in memory: its devices with their record, the calls and faults, and from which call on all fail
pub record MemState : Type 0 where
  pub devices : Recorded
  pub plan : Plan
  pub stop : Option ℕ

-- the calls from this number on are to fail
abbrev pub IsStopped : Option ℕ → ℕ → Type 0
IsStopped None number = ⊥
IsStopped (Some call) number = call ≤ number

-- the next call is to fail: its number is listed, or the rack was stopped at it or before
abbrev pub IsDue : Plan → Option ℕ → Type 0
IsDue plan stop = Contains plan.fails (counted_up plan.calls) ⊎ IsStopped stop (counted_up plan.calls)

-- the calls and faults after one call more; once the faults stand at their last value nothing is counted
abbrev pub plan_after : Plan → Bool → Plan
plan_after plan failed = if plan.faults == last_count then plan else
    record plan { calls = counted_up plan.calls; faults = if failed then counted_up plan.faults else plan.faults }

-- whether a turn is a failure
abbrev pub is_failure : Turn → Bool
is_failure Refused = true
is_failure Fails = true
is_failure Runs = false

-- why a call has this turn
abbrev pub TurnMeans : Plan → Option ℕ → Bool → Turn → Type 0
TurnMeans plan stop fits Refused = (plan.faults ≡ last_count) ⊎ ((plan.faults < last_count) × (fits ≡ false))
TurnMeans plan stop fits Fails = (plan.faults < last_count) × (fits ≡ true) × IsDue plan stop
TurnMeans plan stop fits Runs = (plan.faults < last_count) × (fits ≡ true) × (IsDue plan stop → ⊥)

-- one call more in the record, that changes no device
abbrev pub with_look : Recorded → Recorded
with_look r = record r { counted = r.counted + 1 }

-- one call of a rack in memory, which fits its three numbers or doesn't, and does a step where it fits
pub record Calls (old new : MemState) (fits : Type 0) (step : Recorded → Recorded) (failed : Bool) : Type 0 where
  pub bounded : old.plan.faults ≤ last_count
  -- once the faults stand at their last value nothing changes
  pub over : old.plan.faults ≡ last_count → (failed ≡ true) × (new ≡ old)
  -- it fails exactly where it doesn't fit, or is to fail
  pub cause : old.plan.faults < last_count → failed ≡ true → (fits → ⊥) ⊎ IsDue old.plan old.stop
  pub due : old.plan.faults < last_count → (fits → ⊥) ⊎ IsDue old.plan old.stop → failed ≡ true
  pub plan : new.plan ≡ plan_after old.plan failed
  pub stop : new.stop ≡ old.stop
  -- where it doesn't fit it changes no device and isn't recorded; else it is done, whether it fails or not
  pub refused : (fits → ⊥) → new.devices ≡ old.devices
  pub done : old.plan.faults < last_count → fits → new.devices ≡ step old.devices
