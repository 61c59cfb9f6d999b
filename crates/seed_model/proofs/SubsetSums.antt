-- One pass over the masks: each mask with a file gets the sum of the mask without it.
use Rattle.std.specs.Prelude.{bit_and}
use Rattle.std.proofs.Common.{◌≡◌, ◌≢◌, ◌∙◌, ◌+◌, ◌*◌, ◌/◌, ◌%◌, ◌^◌, ◌<◌, ◌≤◌, ℕ, List, true, false, refl, sym, ap, arith, inl, inr, length, get_or, w64, if◌then◌else◌}
use Rattle.std.specs.Int.{bit_at, bit_not}
use Rattle.std.proofs.Math.ListN.{set}
use Rattle.std.proofs.lemmas.Bool.{cases_lt, cases_eq, false_from_ne_true}
use Rattle.std.proofs.lemmas.List.{get_or-set_same, get_or-set_other}
use Rattle.std.proofs.lemmas.Nat.{and_le_l}
use Rattle.std.proofs.lemmas.Nat.Bits.{shr_and_one}
use Rattle.seed_model.specs.Masks.{in_mask, without}
use Rattle.seed_model.proofs.MaskBits.{in_mask-true, in_mask-from, in_mask-none, without_same}

-- what a mask gets
abbrev pub gained : ℕ → List ℕ → ℕ → ℕ
gained file old k = if in_mask k file then get_or old (without k file) 0 else 0

-- the masks below a mask have got theirs, and the others are as before
pub record HalfAdded (file mask : ℕ) (old now : List ℕ) : Type 0 where
  pub done : (k : ℕ) → k < mask → get_or now k 0 ≡ get_or old k 0 + gained file old k
  pub rest : (k : ℕ) → mask ≤ k → get_or now k 0 ≡ get_or old k 0

below_by : (x k a b : ℕ) → x ≤ k → a ≡ 0 → b ≡ 1 → (x ≡ k → a ≡ b) → x < k
below_by x k a b le none one same = elim (cases_lt x k) [
  | inl lt ↦ lt
  | inr ge ↦ let e : x ≡ k = omega arith in absurd (omega (arith, same e))
]

pub without_lt : (k file : ℕ) → file < 64 → in_mask k file ≡ true → without k file < k
without_lt k file lt present =
    let le : without k file ≤ k = and_le_l k (bit_not w64 (1 * 2 ^ file % 2 ^ 64)) in
    below_by (without k file) k (bit_at (without k file) file) (bit_at k file) le (without_same k file lt) (in_mask-true k file present) (ap (λ (n : ℕ). bit_at n file))

-- the sum of a mask without the file is as before
pub old_without : (file mask : ℕ) (old now : List ℕ) → file < 64 → HalfAdded file mask old now → (k : ℕ) → get_or now (without k file) 0 ≡ get_or old (without k file) 0
old_without file mask old now lt half k = elim (cases_lt (without k file) mask) [
  | inl below ↦
      let none : gained file old (without k file) ≡ 0 = rw (in_mask-none (without k file) file (without_same k file lt)) refl in
      let h = half.done (without k file) below in
      omega (arith, h, none)
  | inr above ↦ half.rest (without k file) above
]

pub tested_true : (k file : ℕ) → bit_and (k / 2 ^ file) 1 ≡ 1 → in_mask k file ≡ true
tested_true k file h = in_mask-from k file (sym (shr_and_one k file) ∙ h)

pub tested_false : (k file : ℕ) → (bit_and (k / 2 ^ file) 1 ≡ 1 → ⊥) → in_mask k file ≡ false
tested_false k file h = false_from_ne_true (in_mask k file) (λ t. h (shr_and_one k file ∙ in_mask-true k file t))

-- a mask with the file
pub half-more : (file mask : ℕ) (old now : List ℕ) → file < 64 → mask < length now → in_mask mask file ≡ true → HalfAdded file mask old now
    → HalfAdded file (mask + 1) old (set now mask (get_or now mask 0 + get_or now (without mask file) 0))
half-more file mask old now lt inside present half = record {
  done = λ k below. elim (cases_eq k mask) [
    | inl e ↦
        let own = half.rest mask (omega arith) in
        let part = old_without file mask old now lt half mask in
        let gain : gained file old mask ≡ get_or old (without mask file) 0 = rw present refl in
        rw (e, get_or-set_same now mask (get_or now mask 0 + get_or now (without mask file) 0) 0 inside) (omega (arith, own, part, gain))
    | inr ne ↦ get_or-set_other now mask k (get_or now mask 0 + get_or now (without mask file) 0) 0 ne ∙ half.done k (omega arith)
  ];
  rest = λ k above.
      let ne : k ≢ mask = omega arith in
      get_or-set_other now mask k (get_or now mask 0 + get_or now (without mask file) 0) 0 ne ∙ half.rest k (omega arith);
}

-- a mask without it
pub half-same : (file mask : ℕ) (old now : List ℕ) → in_mask mask file ≡ false → HalfAdded file mask old now → HalfAdded file (mask + 1) old now
half-same file mask old now absent half = record {
  done = λ k below. elim (cases_eq k mask) [
    | inl e ↦
        let own = half.rest mask (omega arith) in
        let gain : gained file old mask ≡ 0 = rw absent refl in
        rw e (omega (arith, own, gain))
    | inr ne ↦ half.done k (omega arith)
  ];
  rest = λ k above. half.rest k (omega arith);
}
