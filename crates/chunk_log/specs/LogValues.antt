-- Logs as contracts see them.
use Rattle.std.specs.Prelude.{ℕ, ◌^◌, ◌<◌, ◌≤◌, Bool, refl}
use Rattle.std.specs.Coded.{Coded, code_by, coded×, coded_ℕ, coded_bool}

-- the device of a log, the greatest size that it may grow to, the place of the gate at its end, and whether an append
-- has failed
pub record LogValue : Type 0 where
  pub device : ℕ
  pub limit : ℕ
  pub end : ℕ
  pub spent : Bool

-- a log as a tuple
abbrev pub log_code : Coded LogValue
log_code = code_by (ℕ × (ℕ × (ℕ × Bool))) (coded× coded_ℕ (coded× coded_ℕ (coded× coded_ℕ coded_bool))) (λ l. (l.device, (l.limit, (l.end, l.spent)))) (λ t. record { device = t.0; limit = t.1.0; end = t.1.1.0; spent = t.1.1.1 }) (λ _. refl)

-- what every log keeps
pub record KeepsLog (log : LogValue) : Type 0 where
  pub device : log.device ≤ 5
  pub limit : log.limit ≤ 2 ^ 40
  pub below : log.end < 2 ^ 40
