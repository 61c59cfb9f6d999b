-- The migrated bytes that are asked for.
use Rattle.std.specs.Prelude.{ℕ, ◌+◌, ◌-◌, ◌<◌, ◌≤◌, ◌^◌, Bool}
use Rattle.seed_model.specs.declared.range.Range.{Range}
use Rattle.seed_model.specs.Tables.{TableValue}
use Rattle.seed_model.specs.Sums.{migrated_of}

-- within a slack of a target, and not below nothing
abbrev pub range_around : ℕ → ℕ → Range
range_around target slack = record { low = target - slack; high = target + slack }

-- every call that takes a range takes one of these
pub record IsRange (range : Range) : Type 0 where
  pub ordered : range.low ≤ range.high
  pub small : range.high < 2 ^ 51

-- the set's migrated bytes are in the range, both ends included
pub record InRange (table : TableValue) (range : Range) (set : ℕ → Bool) : Type 0 where
  pub enough : range.low ≤ migrated_of set table
  pub no_more : migrated_of set table ≤ range.high
