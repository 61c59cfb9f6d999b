-- What an append does to the disk, whatever type its refusals have.
use Rattle.std.proofs.Common.{◌≡◌, Bool, ℕ, List, Result, Ok, Err, subst}
use Rattle.volume_disk.specs.Disk.{Disk, Images}
use Rattle.chunk_log.specs.Appending.{Appended}
use Rattle.chunk_log.specs.LogValues.{LogValue}

-- a log that is spent or not as another says
pub alike : (log : LogValue) (spent : Bool) → log.spent ≡ spent → log ≡ record { device = log.device; limit = log.limit; end = log.end; spent = spent }
alike log spent is = λ i. record { device = log.device; limit = log.limit; end = log.end; spent = is i }

module _ {D : Type 0} (disk : D → Disk) (moment : D → ℕ) (left_since : D → ℕ → Images → Type 0) (old new : D) (d e : Disk) where
  -- the same log, and the same body
  pub moved : {E : Type 0} (log own after own_after : LogValue) (body own_body : List ℕ) (result : Result ℕ E) → log ≡ own → after ≡ own_after → body ≡ own_body → Appended disk moment left_since old new d e log after body result
      → Appended disk moment left_since old new d e own own_after own_body result
  moved {E} log own after own_after body own_body result same_log same_after same_body appended =
      subst (λ (l : LogValue). Appended {E = E} disk moment left_since old new d e l own_after own_body result) same_log
      (subst (λ (l : LogValue). Appended {E = E} disk moment left_since old new d e log l own_body result) same_after
      (subst (λ (b : List ℕ). Appended {E = E} disk moment left_since old new d e log after b result) same_body appended))

  module _ {E F : Type 0} (log after : LogValue) (body : List ℕ) where
    pub appended_ok : (at : ℕ) → Appended {E = E} disk moment left_since old new d e log after body (Ok at) → Appended {E = F} disk moment left_since old new d e log after body (Ok at)
    appended_ok at done = record { others = done.others; image = done.image; kept = done.kept; moments = done.moments; until = done.until }

    pub appended_err : (error : E) (other : F) → Appended {E = E} disk moment left_since old new d e log after body (Err error) → Appended {E = F} disk moment left_since old new d e log after body (Err other)
    appended_err error other done = record { others = done.others; image = done.image; kept = done.kept; moments = done.moments; until = done.until }
