-- From the half in force to the one that was written beside it.
use Rattle.std.proofs.Common.{◌≡◌, ◌≢◌, ◌⊎◌, inl, inr, ℕ, ◌≤◌, List, ◌∙◌, arith}
use Rattle.std.specs.Prelude.{Some}
use Rattle.volume_disk.specs.Disk.{Disk, Images, Crash}
use Rattle.volume_disk.specs.Time.{Passes}
use Rattle.volume_disk.proofs.Moments.{leads_on}
use Rattle.site_forms.specs.Halves.{records_at, SameRecords}
use Rattle.chunk_log.specs.Retiring.{IsBeside}
use Rattle.chunk_log.specs.HalfWriting.{IsSameOrNew}

-- the old half is beside the new one
pub beside_old : (new old device now : ℕ) → IsBeside new device → old ≡ device → now ≡ new → IsBeside old now
beside_old new old device now (inl above) is same = inr (omega (arith, above, is, same))
beside_old new old device now (inr below) is same = inl (omega (arith, below, is, same))

-- and another device
pub beside_apart : (new old : ℕ) → IsBeside new old → new ≢ old
beside_apart new old (inl above) = λ same. absurd (omega (arith, above, same))
beside_apart new old (inr below) = λ same. absurd (omega (arith, below, same))

-- the same records or the new ones, and then the same
still_new : (place : ℕ) (live : List (List ℕ)) (b z x : Images) → place ≤ 2 → IsSameOrNew place live b z → SameRecords z x → IsSameOrNew place live b x
still_new place live b z x is_place was next = record {
  others = λ other is out. next other is ∙ was.others other is out;
  here = elim was.here as (λ _. (records_at x place ≡ records_at b place) ⊎ (records_at x place ≡ Some live)) [ inl same ↦ inl (next place is_place ∙ same) | inr new ↦ inr (next place is_place ∙ new) ];
}

-- calls that keep the records behind those that brought the new ones
pub passes_new : {D : Type 0} (moment : D → ℕ) (left_since : D → ℕ → Images → Type 0) (place : ℕ) (live : List (List ℕ)) (old mid new : D) (d m : Disk) → ((t : ℕ) (c : Images) → t ≤ moment mid → Crash m c → left_since mid t c) → place ≤ 2
    → Passes moment left_since old mid (λ c. (b : Images) × Crash d b × IsSameOrNew place live b c) → Passes moment left_since mid new (λ c. (b : Images) × Crash m b × SameRecords b c)
    → Passes moment left_since old new (λ c. (b : Images) × Crash d b × IsSameOrNew place live b c)
passes_new moment left_since place live old mid new d m counts is_place first second =
    leads_on moment left_since old mid new (Crash d) (Crash m) (IsSameOrNew place live) SameRecords counts first second (λ b z x crash was next. still_new place live b z x is_place was next)
