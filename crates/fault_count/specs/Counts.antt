-- Counts of faults, of shelves, sinks and racks alike.
use Rattle.std.specs.Prelude.{◌≡◌, ◌≢◌, ℕ, ◌+◌, ◌-◌, ◌^◌, ◌<◌, ◌≤◌, min, Result, Err, IsErrOf}

-- the last value of a count, at which it stands still
abbrev pub last_count : ℕ
last_count = 2 ^ 64 - 1

-- the count stands at its last value: from then on each call of its object answers a fault, as `HasCause` says, and
-- changes nothing, for which each call has the clause `over { IsOver (faults self.old) → self.new ≡ self.old }`
abbrev pub IsOver : ℕ → Type 0
IsOver count = count ≡ last_count

-- one more, or the last value again
abbrev pub counted_up : ℕ → ℕ
counted_up count = min (count + 1) last_count

-- the cause of a fault: the count rose in the call, or stands at its last value
abbrev pub Rose : ℕ → ℕ → Type 0
Rose before now = counted_up before ≤ now

-- no fault came, and the object still answers: the premise of what a call promises
pub record IsStill (before now : ℕ) : Type 0 where
  pub same : now ≡ before
  pub answers : before < last_count

-- a fault is answered exactly where the count rose
pub record HasCause {T E : Type 0} (fault : E) (before now : ℕ) (result : Result T E) : Type 0 where
  pub later : before ≤ now
  pub failed : IsErrOf result fault → Rose before now
  pub kept : result ≢ Err fault → now ≡ before
  -- an object that is over answers nothing else
  pub ended : IsOver before → IsErrOf result fault

-- a call that hands on the faults of an object: it answers a fault only where that object's count rose, and always
-- where it truly rose
pub record HandsOn {T E : Type 0} (fault : E) (before now : ℕ) (result : Result T E) : Type 0 where
  pub later : before ≤ now
  pub failed : IsErrOf result fault → Rose before now
  pub kept : result ≢ Err fault → now ≡ before
