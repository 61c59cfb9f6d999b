-- Fractions: whole parts, parts left over, and common divisors.
use Rattle.std.proofs.Common.{◌≡◌, ◌≢◌, ℕ, ◌+◌, ◌*◌, ◌/◌, ◌%◌, ◌<◌, ◌≤◌, sym, ◌∙◌, ap, refl, subst, arith, inl, inr, Ordering, ◌⊎◌}
use Rattle.std.specs.declared.cmp.Ordering.TheVariants.{Less, Equal, Greater}
use Rattle.std.specs.Ordering.{MatchOrdering, nat_cmp}
use Rattle.std.specs.Int.{IsGcd, ◌∣◌}
use Rattle.std.proofs.lemmas.Cmp.{ranked}
use Rattle.std.proofs.lemmas.Bool.{cases_lt, lt-ltb, le-ltb, eq-eqb, ne_eqb}
use Rattle.std.proofs.lemmas.Nat.{div-add-mod', mul-le}
use Rattle.std.proofs.Math.Nat.{div-mul_cancel, one-dvd, dvd_of_mul-dvd-mul_right, mul-dvd-mul_right, pos_of_dvd_of_pos}
use Rattle.seed_ratio.specs.Fractions.{IsLowest}

-- numbers compare as they are ordered
pub compares : (m n : ℕ) (o : Ordering) → MatchOrdering o (m < n) (m ≡ n) (n < m) → o ≡ nat_cmp m n
compares m n Less h = rw (lt-ltb m n h) refl
compares m n Equal h = rw (le-ltb m n (omega arith), eq-eqb m n h) refl
compares m n Greater h = rw (le-ltb m n (omega arith), ne_eqb m n (λ e. omega (arith, e, h))) refl

-- what is added on both sides does not tell numbers apart
pub nat_cmp-add : (k m n : ℕ) → nat_cmp (k + m) (k + n) ≡ nat_cmp m n
nat_cmp-add k m n = sym (compares (k + m) (k + n) (nat_cmp m n) (grow (nat_cmp m n) (ranked m n (nat_cmp m n) refl)))
  where
    grow : (o : Ordering) → MatchOrdering o (m < n) (m ≡ n) (n < m) → MatchOrdering o (k + m < k + n) (k + m ≡ k + n) (k + n < k + m)
    grow Less h = omega arith
    grow Equal h = omega arith
    grow Greater h = omega arith

-- where the whole parts are equal, the parts left over decide
pub nat_cmp-left : (a b c d : ℕ) → a / b ≡ c / d → nat_cmp (a * d) (c * b) ≡ nat_cmp (a % b * d) (c % d * b)
nat_cmp-left a b c d e =
    let whole : ℕ = a / b in
    let first : a * d ≡ whole * b * d + a % b * d = omega (arith, ap (λ n. n * d) (sym (div-add-mod' a b))) in
    let second : c * b ≡ whole * b * d + c % d * b = omega (arith, ap (λ n. n * b) (sym (div-add-mod' c d)), ap (λ n. n * d * b) e) in
    ap (λ n. nat_cmp n (c * b)) first ∙ (ap (λ n. nat_cmp (whole * b * d + a % b * d) n) second ∙ nat_cmp-add (whole * b * d) (a % b * d) (c % d * b))

-- the smaller whole part is that of the smaller fraction
pub below_whole : (a b c d : ℕ) → 1 ≤ b → 1 ≤ d → a / b < c / d → a * d < c * b
below_whole a b c d hb hd h =
    let low : a < (a / b + 1) * b = omega (arith, div-add-mod' a b) in
    let high : c / d * d ≤ c = omega (arith, div-add-mod' c d) in
    let next : (a / b + 1) * (b * d) ≤ c / d * (b * d) = mul-le (a / b + 1) (b * d) (c / d) (b * d) (omega (arith, h)) (omega arith) in
    let one : (a + 1) * d ≤ (a / b + 1) * b * d = mul-le (a + 1) d ((a / b + 1) * b) d (omega (arith, low)) (omega arith) in
    let two : c / d * d * b ≤ c * b = mul-le (c / d * d) b c b high (omega arith) in
    omega (arith, next, one, two, hd)

-- so the whole parts decide where they are not equal
pub nat_cmp-whole : (a b c d : ℕ) → 1 ≤ b → 1 ≤ d → a / b ≢ c / d → nat_cmp (a / b) (c / d) ≡ nat_cmp (a * d) (c * b)
nat_cmp-whole a b c d hb hd ne = compares (a * d) (c * b) (nat_cmp (a / b) (c / d)) (decide (nat_cmp (a / b) (c / d)) (ranked (a / b) (c / d) (nat_cmp (a / b) (c / d)) refl))
  where
    decide : (o : Ordering) → MatchOrdering o (a / b < c / d) (a / b ≡ c / d) (c / d < a / b) → MatchOrdering o (a * d < c * b) (a * d ≡ c * b) (c * b < a * d)
    decide Less h = below_whole a b c d hb hd h
    decide Equal h = absurd (ne h)
    decide Greater h = below_whole c d a b hd hb h

-- what is left over decides by itself where one side has nothing
pub nat_cmp-none : (a b c d : ℕ) → 1 ≤ b → 1 ≤ d → (a ≡ 0) ⊎ (c ≡ 0) → nat_cmp a c ≡ nat_cmp (a * d) (c * b)
nat_cmp-none a b c d hb hd z = compares (a * d) (c * b) (nat_cmp a c) (scale (nat_cmp a c) z (ranked a c (nat_cmp a c) refl))
  where
    scale : (o : Ordering) → (a ≡ 0) ⊎ (c ≡ 0) → MatchOrdering o (a < c) (a ≡ c) (c < a) → MatchOrdering o (a * d < c * b) (a * d ≡ c * b) (c * b < a * d)
    scale Less (inl e) h = omega (arith, ap (λ n. n * d) e, mul-le 1 1 c b (omega (arith, h)) hb)
    scale Less (inr e) h = absurd (omega (arith, e, h))
    scale Equal (inl e) h = omega (arith, ap (λ n. n * d) e, ap (λ n. n * b) (sym h ∙ e))
    scale Equal (inr e) h = omega (arith, ap (λ n. n * d) (h ∙ e), ap (λ n. n * b) e)
    scale Greater (inl e) h = absurd (omega (arith, e, h))
    scale Greater (inr e) h = omega (arith, ap (λ n. n * b) e, mul-le 1 1 a d (omega (arith, h)) hd)

-- a fraction divided by the greatest common divisor of its terms
pub lowest_terms : (a b g : ℕ) → 1 ≤ b → IsGcd a b g → IsLowest a b (a / g) (b / g)
lowest_terms a b g hb h =
    let x : ℕ = a / g in
    let y : ℕ = b / g in
    let ea : x * g ≡ a = div-mul_cancel g h.0 in
    let eb : y * g ≡ b = div-mul_cancel g h.1 in
    let pos : 0 < g = pos_of_dvd_of_pos h.1 (omega (arith, hb)) in
    record {
      same = omega (arith, ap (λ n. x * n) eb, ap (λ n. n * y) ea);
      some = elim (cases_lt 0 y) [ inl h ↦ omega (arith, h) | inr h ↦ let e : y ≡ 0 = omega (arith, h) in absurd (omega (arith, ap (λ n. n * g) e, eb, hb)) ];
      lowest = (
        one-dvd x,
        one-dvd y,
        λ d dx dy.
            let da : d * g ∣ a = subst (λ n. d * g ∣ n) ea (mul-dvd-mul_right d dx g) in
            let db : d * g ∣ b = subst (λ n. d * g ∣ n) eb (mul-dvd-mul_right d dy g) in
            let one : 1 * g ≡ g = omega arith in
            dvd_of_mul-dvd-mul_right {k = g} d pos (subst (λ n. d * g ∣ n) (sym one) (h.2 (d * g) da db)),
      );
    }
