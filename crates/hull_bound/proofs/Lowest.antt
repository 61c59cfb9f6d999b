-- The terms of a fraction in lowest terms are at most those of its other forms.
use Rattle.std.proofs.Common.{inl, inr, ◌≡◌, ℕ, zero, suc, ◌+◌, ◌-◌, ◌*◌, ◌≤◌, ap, sym, subst, arith}
use Rattle.std.specs.Int.{◌∣◌}
use Rattle.std.proofs.lemmas.Bool.{cases_lt}
use Rattle.std.proofs.lemmas.Nat.{mul-le}
use Rattle.std.proofs.Math.Nat.{dvd-mul_right}
use Rattle.std.proofs.lemmas.Nat.Gcd.{le_of_dvd}
use Rattle.seed_ratio.specs.Fractions.{IsLowest}
use Rattle.hull_bound.proofs.Exchange.{cancel}

-- one fraction, of which both are multiples
record Common (a b p q : ℕ) : Type 0 where
  over : ℕ
  under : ℕ
  first : ℕ
  second : ℕ
  a_is : a ≡ first * over
  b_is : b ≡ first * under
  p_is : p ≡ second * over
  q_is : q ≡ second * under

-- the larger fraction of two that are equal has the larger terms
larger : (a b p q : ℕ) → 1 ≤ b → p * b ≡ a * q → b ≤ q → a ≤ p
larger a b p q one e l =
    let more : a * b ≤ a * q = mul-le a b a q (omega arith) l in
    cancel b a p one (omega (arith, more, e))

-- and what is left of it is the same fraction
rest : (a b p q d e : ℕ) → p ≡ a + d → q ≡ b + e → p * b ≡ a * q → d * b ≡ a * e
rest a b p q d e e_p e_q same =
    let e1 = ap (λ (n : ℕ). n * b) e_p in
    let e2 = ap (λ (n : ℕ). a * n) e_q in
    omega (arith, same, e1, e2)

grown : (a b p q d e : ℕ) → p ≡ a + d → q ≡ b + e → Common a b d e → Common a b p q
grown a b p q d e e_p e_q c = record {
  over = c.over;
  under = c.under;
  first = c.first;
  second = c.first + c.second;
  a_is = c.a_is;
  b_is = c.b_is;
  p_is = omega (arith, e_p, c.a_is, c.p_is);
  q_is = omega (arith, e_q, c.b_is, c.q_is);
}

turned : (a b p q : ℕ) → Common a b p q → Common p q a b
turned a b p q c = record {
  over = c.over;
  under = c.under;
  first = c.second;
  second = c.first;
  a_is = c.p_is;
  b_is = c.q_is;
  p_is = c.a_is;
  q_is = c.b_is;
}

-- Euclid's steps on both fractions
common : (fuel a b p q : ℕ) → b + q ≤ fuel → 1 ≤ b → 1 ≤ q → p * b ≡ a * q → Common a b p q
common zero a b p q few one two e = absurd (omega (arith, few, one))
common (suc fuel) a b p q few one two e = elim (cases_lt b q) as (λ _. Common a b p q) [
  | inl l ↦
      let h : a ≤ p = larger a b p q one e (omega (arith, l)) in
      let e_p : p ≡ a + (p - a) = omega (arith, h) in
      let e_q : q ≡ b + (q - b) = omega (arith, l) in
      grown a b p q (p - a) (q - b) e_p e_q (common fuel a b (p - a) (q - b) (omega (arith, few, one, l)) one (omega (arith, l)) (rest a b p q (p - a) (q - b) e_p e_q e))
  | inr g ↦
      elim (cases_lt q b) as (λ _. Common a b p q) [
        | inl l ↦
            let h : p ≤ a = larger p q a b two (sym e) (omega (arith, l)) in
            let e_a : a ≡ p + (a - p) = omega (arith, h) in
            let e_b : b ≡ q + (b - q) = omega (arith, l) in
            turned p q a b
            (grown p q a b (a - p) (b - q) e_a e_b (common fuel p q (a - p) (b - q) (omega (arith, few, two, l)) two (omega (arith, l)) (rest p q a b (a - p) (b - q) e_a e_b (sym e))))
        | inr k ↦
            let l1 : a ≤ p = larger a b p q one e (omega (arith, k)) in
            let l2 : p ≤ a = larger p q a b two (sym e) (omega (arith, g)) in
            record {
              over = a;
              under = b;
              first = 1;
              second = 1;
              a_is = omega arith;
              b_is = omega arith;
              p_is = omega (arith, l1, l2);
              q_is = omega (arith, g, k);
            }
      ]
]

bounded : (second over under first a b p q : ℕ) → second ≤ 1 → 1 ≤ q → 1 ≤ b → a ≡ first * over → b ≡ first * under → p ≡ second * over → q ≡ second * under → (p ≤ a) × (q ≤ b)
bounded second over under zero a b p q few some one e_a e_b e_p e_q = absurd (omega (arith, one, e_b))
bounded zero over under (suc first) a b p q few some one e_a e_b e_p e_q = absurd (omega (arith, some, e_q))
bounded (suc zero) over under (suc first) a b p q few some one e_a e_b e_p e_q = (omega (arith, e_a, e_p), omega (arith, e_b, e_q))
bounded (suc (suc second)) over under (suc first) a b p q few some one e_a e_b e_p e_q = absurd (omega (arith, few))

pub lowest_small : (a b p q : ℕ) → 1 ≤ b → IsLowest a b p q → (p ≤ a) × (q ≤ b)
lowest_small a b p q one h =
    let c = common (b + q) a b p q (omega arith) one h.some h.same in
    let d1 : c.second ∣ p = subst (λ (n : ℕ). c.second ∣ n) (sym c.p_is) (dvd-mul_right c.second c.over) in
    let d2 : c.second ∣ q = subst (λ (n : ℕ). c.second ∣ n) (sym c.q_is) (dvd-mul_right c.second c.under) in
    let few : c.second ≤ 1 = le_of_dvd (omega arith) (h.lowest.2 c.second d1 d2) in
    bounded c.second c.over c.under c.first a b p q few h.some one c.a_is c.b_is c.p_is c.q_is
