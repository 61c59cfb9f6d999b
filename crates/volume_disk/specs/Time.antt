-- Moments of one call and of several.
use Rattle.std.specs.Prelude.{◌⊎◌, ℕ, ◌≤◌}
use Rattle.volume_disk.specs.Disk.{Images}

-- Time goes on over one call: a crash since t might have left what it might have left before, or what it may leave now.
pub record Elapses (before now : ℕ) (past since : ℕ → Images → Type 0) (may_leave : Images → Type 0) : Type 0 where
  pub later : before ≤ now
  pub nothing_else : (t : ℕ) (c : Images) → t ≤ before → since t c → past t c ⊎ may_leave c
  pub keeps : (t : ℕ) (c : Images) → t ≤ before → past t c → since t c

-- A crash at any moment since the old rack leaves only images that have P, over any number of calls.
pub record Passes {D : Type 0} (moment : D → ℕ) (left_since : D → ℕ → Images → Type 0) (old new : D) (P : Images → Type 0) : Type 0 where
  pub later : moment old ≤ moment new
  pub each : (c : Images) → left_since new (moment old) c → P c
  -- for a run of calls that began earlier
  pub before : (t : ℕ) (c : Images) → t ≤ moment old → left_since new t c → left_since old t c ⊎ P c
