-- The best sets of files, among all sets.
use Rattle.std.specs.Prelude.{ℕ, ◌≤◌, Bool}
use Rattle.seed_model.specs.declared.range.Range.{Range}
use Rattle.seed_model.specs.Files.{rank}
use Rattle.seed_model.specs.Tables.{TableValue}
use Rattle.seed_model.specs.Sums.{replicated_of}
use Rattle.seed_model.specs.Ranges.{InRange}

-- in range, and no set in range replicates less
pub record IsBest (table : TableValue) (range : Range) (set : ℕ → Bool) : Type 0 where
  pub in_range : InRange table range set
  pub least : (other : ℕ → Bool) → InRange table range other → replicated_of set table ≤ replicated_of other table

-- no set is in range
abbrev pub NoneInRange : TableValue → Range → Type 0
NoneInRange table range = (set : ℕ → Bool) → ¬ InRange table range set

-- among the best sets, the one with the least sum of 2 ^ file
pub record IsFirstBest (table : TableValue) (range : Range) (set : ℕ → Bool) : Type 0 where
  pub best : IsBest table range set
  pub first : (other : ℕ → Bool) → IsBest table range other → rank table.files set ≤ rank table.files other
