-- Fractions: the ceiling, and lowest terms.
use Rattle.std.specs.Prelude.{◌≡◌, ℕ, ◌+◌, ◌*◌, ◌<◌, ◌≤◌}
use Rattle.std.specs.Int.{IsGcd}

-- the whole number at or above a / b, and less than one above it
pub record IsCeiling (a b whole : ℕ) : Type 0 where
  pub above : a ≤ whole * b
  pub near : whole * b < a + b

-- the same fraction as a / b, whose terms have no common divisor but 1
pub record IsLowest (a b over under : ℕ) : Type 0 where
  pub same : over * b ≡ a * under
  pub some : 1 ≤ under
  pub lowest : IsGcd over under 1
