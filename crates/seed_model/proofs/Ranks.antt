-- Ranks of sets and masks: each set of the files below n is that of one mask below 2 ^ n.
use Rattle.std.specs.Prelude.{◌==◌}
use Rattle.std.proofs.Common.{◌≡◌, ◌∙◌, ◌+◌, ◌-◌, ◌*◌, ◌^◌, ◌<◌, ℕ, zero, suc, Bool, refl, sym, ap, arith, inl, inr, if◌then◌else◌}
use Rattle.std.specs.Int.{bit_at}
use Rattle.std.proofs.Math.Nat.{pow-suc}
use Rattle.std.proofs.lemmas.Bool.{cases_Bool, cases_lt}
use Rattle.std.proofs.lemmas.Nat.Bits.{bit_at_cat_low, bit_at_cat_high, bit_at_above, same_from_bits_below}
use Rattle.seed_model.specs.Files.{rank}
use Rattle.seed_model.specs.SumLaws.{AgreesBelow}
use Rattle.seed_model.specs.Masks.{in_mask}
use Rattle.seed_model.proofs.MaskBits.{bit_cases, in_mask-true, in_mask-from, in_mask-none}

pub rank_lt : (n : ℕ) (set : ℕ → Bool) → rank n set < 2 ^ n
rank_lt zero set = omega arith
rank_lt (suc n) set = elim (cases_Bool (set n)) [
  | inl t ↦ rw t (omega (arith, rank_lt n set, pow-suc 2 n))
  | inr f ↦ rw f (omega (arith, rank_lt n set, pow-suc 2 n))
]

turned : (r p : ℕ) → r + p ≡ 1 * p + r
turned r p = omega arith

-- a file below the top one
bit_below : (n f : ℕ) (set : ℕ → Bool) → f < n → bit_at (rank n set + (if set n then 2 ^ n else 0)) f ≡ bit_at (rank n set) f
bit_below n f set lt = elim (cases_Bool (set n)) [
  | inl t ↦ rw t (ap (λ (x : ℕ). bit_at x f) (turned (rank n set) (2 ^ n)) ∙ bit_at_cat_low 1 n (rank n set) f lt)
  | inr e ↦ rw e (ap (λ (x : ℕ). bit_at x f) (let none : rank n set + 0 ≡ rank n set = omega arith in none))
]

-- the top file
bit_top : (n : ℕ) (set : ℕ → Bool) → in_mask (rank n set + (if set n then 2 ^ n else 0)) n ≡ set n
bit_top n set = elim (cases_Bool (set n)) [
  | inl t ↦
      let none : n - n ≡ 0 = omega arith in
      let one : bit_at (1 * 2 ^ n + rank n set) n ≡ 1 = bit_at_cat_high 1 n (rank n set) n (rank_lt n set) (omega arith) ∙ ap (bit_at 1) none in
      rw t (in_mask-from (rank n set + 2 ^ n) n (ap (λ (x : ℕ). bit_at x n) (turned (rank n set) (2 ^ n)) ∙ one))
  | inr e ↦
      let same : rank n set + 0 ≡ rank n set = omega arith in
      rw e (in_mask-none (rank n set + 0) n (ap (λ (x : ℕ). bit_at x n) same ∙ bit_at_above (rank n set) n n (rank_lt n set) (omega arith)))
]

pub in_mask-rank : (n : ℕ) (set : ℕ → Bool) → AgreesBelow n (in_mask (rank n set)) set
in_mask-rank zero set f lt = absurd (omega arith)
in_mask-rank (suc n) set f lt = elim (cases_lt f n) [
  | inl below ↦ ap (λ (b : ℕ). b == 1) (bit_below n f set below) ∙ in_mask-rank n set f below
  | inr above ↦
      let e : f ≡ n = omega arith in
      rw e (bit_top n set)
]

same_bit : (a b f : ℕ) → in_mask a f ≡ in_mask b f → bit_at a f ≡ bit_at b f
same_bit a b f h = elim (bit_cases b f) [
  | inl none ↦ elim (bit_cases a f) [
    | inl zero_too ↦ zero_too ∙ sym none
    | inr one ↦ cc (sym (in_mask-from a f one) ∙ (h ∙ in_mask-none b f none))
  ]
  | inr one ↦ in_mask-true a f (h ∙ in_mask-from b f one) ∙ sym one
]

pub rank-in_mask : (n k : ℕ) → k < 2 ^ n → rank n (in_mask k) ≡ k
rank-in_mask n k lt = same_from_bits_below n (rank n (in_mask k)) k (rank_lt n (in_mask k)) lt
    (λ i below. same_bit (rank n (in_mask k)) k i (in_mask-rank n (in_mask k) i below))

pub rank-agrees : (n : ℕ) (one other : ℕ → Bool) → AgreesBelow n one other → rank n one ≡ rank n other
rank-agrees zero one other agrees = refl
rank-agrees (suc n) one other agrees =
    let lower : rank n one ≡ rank n other = rank-agrees n one other (λ f lt. agrees f (omega arith)) in
    let top : one n ≡ other n = agrees n (omega arith) in
    rw (lower, top) refl
