-- The faults of a shelf and of a rack, handed on.
use Rattle.std.specs.Prelude.{◌≡◌, ◌≢◌, ◌⊎◌, ℕ, ◌≤◌, Result, Err, IsErrOf}
use Rattle.fault_count.specs.Counts.{Rose}
use Rattle.command_texts.specs.declared.report.Halt.{Halt}
use Rattle.command_texts.specs.declared.report.Halt.TheVariants.{Outside}

-- how many calls of a shelf and of a rack have failed
pub record Faults : Type 0 where
  pub shelf : ℕ
  pub rack : ℕ

abbrev pub faults : ℕ → ℕ → Faults
faults shelf rack = record { shelf = shelf; rack = rack }

-- a call that hands on the faults of both: no count falls, it answers a fault only where a count rose, that of the rack only where
-- it uses the site, and always where one truly rose
pub record HandsOnBoth {T : Type 0} (uses_site : Type 0) (before now : Faults) (result : Result T Halt) : Type 0 where
  pub shelf_later : before.shelf ≤ now.shelf
  pub rack_later : before.rack ≤ now.rack
  pub failed : IsErrOf result Outside → Rose before.shelf now.shelf ⊎ (uses_site × Rose before.rack now.rack)
  pub kept : result ≢ Err Outside → now ≡ before
