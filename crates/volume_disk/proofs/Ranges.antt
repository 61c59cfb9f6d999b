-- Places inside and outside a range.
use Rattle.std.proofs.Common.{◌≡◌, ◌⊎◌, inl, inr, ℕ, ◌+◌, ◌<◌, ◌≤◌, Bool, true, false, lt-ltb, le-ltb, le-leb}
use Rattle.std.specs.Prelude.{nat_le, nat_lt, ◌||◌}
use Rattle.std.proofs.lemmas.Bool.{and_from, and_left, and_right, or_from, lt-leb, cases_lt}
use Rattle.volume_disk.specs.Medium.{is_within}

-- before, inside or behind
pub cases_range : (at n i : ℕ) → ((i < at) ⊎ (at + n ≤ i)) ⊎ ((at ≤ i) × (i < at + n))
cases_range at n i =
    elim (cases_lt i at) as (λ _. ((i < at) ⊎ (at + n ≤ i)) ⊎ ((at ≤ i) × (i < at + n))) [
      | inl below ↦ inl (inl below)
      | inr above ↦ elim (cases_lt i (at + n)) as (λ _. ((i < at) ⊎ (at + n ≤ i)) ⊎ ((at ≤ i) × (i < at + n))) [ inl inside ↦ inr (above, inside) | inr behind ↦ inl (inr behind) ]
    ]

pub within_inside : (at n i : ℕ) → at ≤ i → i < at + n → is_within at n i ≡ true
within_inside at n i above below = and_from (nat_le at i) (nat_lt i (at + n)) (le-leb at i above) (lt-ltb i (at + n) below)

pub within_outside : (at n i : ℕ) → (i < at) ⊎ (at + n ≤ i) → is_within at n i ≡ false
within_outside at n i (inl below) = and_left (nat_le at i) (nat_lt i (at + n)) (lt-leb at i below)
within_outside at n i (inr behind) = and_right (nat_le at i) (nat_lt i (at + n)) (le-ltb i (at + n) behind)

pub neither : (at n i : ℕ) (rest : Bool) → (i < at) ⊎ (at + n ≤ i) → rest ≡ false → (is_within at n i || rest) ≡ false
neither at n i rest out free = or_from (is_within at n i) rest (within_outside at n i out) free
