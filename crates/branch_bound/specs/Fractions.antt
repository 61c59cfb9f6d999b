-- Fractions, and the values of mixes as fractions.
use Rattle.std.specs.Prelude.{ℕ, ◌*◌, ◌<◌, ◌≤◌}
use Rattle.std.specs.declared.cmp.Ordering.{Ordering}
use Rattle.std.specs.Ordering.{nat_cmp}
use Rattle.seed_model.specs.declared.node.Mix.{Mix}
use Rattle.seed_model.specs.Nodes.{mixed_replicated, weight_of}
use Rattle.seed_model.specs.Tables.{TableValue}

pub record Fraction : Type 0 where
  pub over : ℕ
  pub under : ℕ

abbrev pub AtMost : Fraction → Fraction → Type 0
AtMost one other = one.over * other.under ≤ other.over * one.under

-- the value of a mix: the bytes that it replicates, in the weighted mean
abbrev pub value_of_mix : TableValue → Mix → Fraction
value_of_mix table mix = record { over = mixed_replicated table mix; under = weight_of mix }

-- one that has a value
pub record Positive : Type 0 where
  pub over : ℕ
  pub under : ℕ
  pub positive : 0 < under

abbrev pub positive_cmp : Positive → Positive → Ordering
positive_cmp one other = nat_cmp (one.over * other.under) (other.over * one.under)
