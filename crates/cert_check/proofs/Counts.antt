-- Sums over the numbers below one.
use Rattle.std.proofs.Common.{◌≡◌, ◌≢◌, ℕ, zero, suc, ◌+◌, ◌<◌, ◌≤◌, refl, ap, arith, inl, inr}
use Rattle.std.proofs.lemmas.Bool.{cases_eq}
use Rattle.seed_model.specs.Keys.{sum_below}
use Rattle.seed_model.proofs.KeySums.{sum_below_same}

-- sums that differ at one number alone
pub sum_but_one : (f g : ℕ → ℕ) (n k : ℕ) → k < n → ((i : ℕ) → i < n → i ≢ k → f i ≡ g i) → sum_below f n + g k ≡ sum_below g n + f k
sum_but_one f g zero k lt same = absurd (omega arith)
sum_but_one f g (suc n) k lt same = elim (cases_eq n k) [
  | inl e ↦
      let below : sum_below f n ≡ sum_below g n = sum_below_same f g n (λ i l. same i (omega (arith, l)) (omega (arith, l, e))) in
      let at_f : f n ≡ f k = ap f e in
      let at_g : g n ≡ g k = ap g e in
      omega (arith, below, at_f, at_g)
  | inr ne ↦
      let rest : sum_below f n + g k ≡ sum_below g n + f k = sum_but_one f g n k (omega (arith, ne, lt)) (λ i l. same i (omega (arith, l))) in
      let here : f n ≡ g n = same n (omega arith) ne in
      omega (arith, rest, here)
]

pub sum_has : (f : ℕ → ℕ) (n k : ℕ) → k < n → f k ≤ sum_below f n
sum_has f zero k lt = absurd (omega arith)
sum_has f (suc n) k lt = elim (cases_eq n k) [
  | inl e ↦ let at : f n ≡ f k = ap f e in omega (arith, at)
  | inr ne ↦ let rest : f k ≤ sum_below f n = sum_has f n k (omega (arith, ne, lt)) in omega (arith, rest)
]

pub sum_ones : (n : ℕ) → sum_below (λ k. 1) n ≡ n
sum_ones zero = refl
sum_ones (suc n) = omega (arith, sum_ones n)

-- a part of a sum is no more than the whole
pub sum_part : (f : ℕ → ℕ) (n m : ℕ) → n ≤ m → sum_below f n ≤ sum_below f m
sum_part f n zero le = let e : n ≡ 0 = omega (arith, le) in rw e (omega arith)
sum_part f n (suc m) le = elim (cases_eq n (suc m)) [
  | inl e ↦ rw e (omega arith)
  | inr ne ↦ let rest : sum_below f n ≤ sum_below f m = sum_part f n m (omega (arith, le, ne)) in omega (arith, rest)
]
