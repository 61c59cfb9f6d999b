-- Faults at calls of given numbers.
use Rattle.std.specs.Prelude.{◌≡◌, ◌<◌, ◌≤◌, ℕ, List, Contains, Bool, false, ◌↔◌, IsTrue}
use Rattle.fault_count.specs.Counts.{last_count, IsOver, counted_up}

-- the numbers of the calls that are to fail, and the calls and faults so far
pub record Plan : Type 0 where
  pub fails : List ℕ
  pub calls : ℕ
  pub faults : ℕ

-- one call more: it fails where the faults stand at their last value, and then counts nothing, and else exactly where
-- its number is listed; a failing call counts one fault
pub record NextCall (old new : Plan) (fails : Bool) : Type 0 where
  pub listed : new.fails ≡ old.fails
  pub over : IsOver old.faults → (IsTrue fails × (new ≡ old))
  pub exact : old.faults < last_count → (IsTrue fails ↔ Contains old.fails (counted_up old.calls))
  pub calls : old.faults < last_count → new.calls ≡ counted_up old.calls
  pub failed : IsTrue fails → new.faults ≡ counted_up old.faults
  pub passed : fails ≡ false → new.faults ≡ old.faults
  pub bounded : old.faults ≤ last_count
