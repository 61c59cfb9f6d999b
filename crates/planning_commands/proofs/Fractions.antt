-- A fraction has one form in lowest terms.
use Rattle.std.proofs.Common.{◌≡◌, ◌∙◌, ◌+◌, ◌*◌, ◌-◌, ◌<◌, ◌≤◌, ℕ, zero, suc, refl, sym, ap, subst, inl, inr, arith}
use Rattle.std.specs.Int.{◌∣◌}
use Rattle.std.proofs.lemmas.Bool.{cases_lt}
use Rattle.std.proofs.lemmas.Nat.{mul-le}
use Rattle.std.proofs.lemmas.Nat.Gcd.{dvd_refl, dvd-zero, le_of_dvd}
use Rattle.std.proofs.Math.Nat.{dvd-add}
use Rattle.seed_ratio.specs.Fractions.{IsLowest}

-- no common divisor but 1
abbrev IsPrimeTo : ℕ → ℕ → Type 0
IsPrimeTo a b = (k : ℕ) → k ∣ a → k ∣ b → k ∣ 1

-- so it stays where one term is taken from the other
less_left : (a b u : ℕ) → u + b ≡ a → IsPrimeTo a b → IsPrimeTo u b
less_left a b u sum prime k one two = prime k (subst (λ n. k ∣ n) sum (dvd-add k one two)) two

less_right : (a b u : ℕ) → u + a ≡ b → IsPrimeTo a b → IsPrimeTo a u
less_right a b u sum prime k one two = prime k one (subst (λ n. k ∣ n) sum (dvd-add k two one))

-- a term beside 0 is 1
beside_zero : (a b : ℕ) → 1 ≤ b → a ≡ 0 → IsPrimeTo a b → b ≡ 1
beside_zero a b some none prime =
    let most = le_of_dvd (omega arith) (prime b (subst (λ n. b ∣ n) (sym none) (dvd-zero b)) (dvd_refl b)) in
    omega (arith, some, most)

product_zero : (c b : ℕ) → 1 ≤ b → c * b ≡ 0 → c ≡ 0
product_zero zero b some e = refl
product_zero (suc c) b some e = absurd (omega (arith, some, e))

-- products of what is left
left_right : (a b c d u v : ℕ) → u + c ≡ d → v + a ≡ b → a * d ≡ c * b → a * u ≡ c * v
left_right a b c d u v du vb e = omega (arith, e, ap (λ m. a * m) du, ap (λ m. c * m) vb)

left_left : (a b c d u v : ℕ) → u + b ≡ a → v + d ≡ c → a * d ≡ c * b → u * d ≡ v * b
left_left a b c d u v ub vd e = omega (arith, e, ap (λ m. m * d) ub, ap (λ m. m * b) vd)

-- a fraction below 1 is one in each form
both_below : (a b c d : ℕ) → 1 ≤ d → a < b → a * d ≡ c * b → c < d
both_below a b c d some less e = elim (cases_lt c d) [
  | inl below ↦ below
  | inr past ↦
      let one = mul-le (a + 1) d b d (omega (arith, less)) (omega arith) in
      let two = mul-le d b c b past (omega arith) in
      absurd (omega (arith, one, two, e, some))
]

one_form : (n a b c d : ℕ) → a + b ≤ n → 1 ≤ b → 1 ≤ d → a * d ≡ c * b → IsPrimeTo a b → IsPrimeTo c d → (a ≡ c) × (b ≡ d)
one_form zero a b c d few hb hd e one two = absurd (omega (arith, few, hb))
one_form (suc n) a b c d few hb hd e one two = elim (cases_lt 0 a) [
  | inl some ↦ elim (cases_lt a b) [
    | inl less ↦
        let below = both_below a b c d hd less e in
        let u : ℕ = d - c in
        let v : ℕ = b - a in
        let du : u + c ≡ d = omega (arith, below) in
        let vb : v + a ≡ b = omega (arith, less) in
        let same = one_form n a v c u (omega (arith, few, vb, some)) (omega (arith, less, vb)) (omega (arith, below, du)) (left_right a b c d u v du vb e) (less_right a b v vb one) (less_right c d u du two) in
        (same.0, omega (arith, same.0, same.1, du, vb))
    | inr past ↦ elim (cases_lt c d) [
      | inl below ↦ let less = both_below c d a b hb below (sym e) in absurd (omega (arith, less, past))
      | inr over ↦
          let u : ℕ = a - b in
          let v : ℕ = c - d in
          let ub : u + b ≡ a = omega (arith, past) in
          let vd : v + d ≡ c = omega (arith, over) in
          let same = one_form n u b v d (omega (arith, few, ub, hb)) hb hd (left_left a b c d u v ub vd e) (less_left a b u ub one) (less_left c d v vd two) in
          (omega (arith, same.0, same.1, ub, vd), same.1)
    ]
  ]
  | inr none ↦
      let a_is : a ≡ 0 = omega (arith, none) in
      let c_is = product_zero c b hb (sym e ∙ omega (arith, ap (λ m. m * d) a_is)) in
      (a_is ∙ sym c_is, beside_zero a b hb a_is one ∙ sym (beside_zero c d hd c_is two))
]

-- one value, as a fraction of two weights, has one form in lowest terms
pub one_lowest : (a v b w over under top below : ℕ) → 1 ≤ v → 1 ≤ w → a * w ≡ b * v → IsLowest a v over under → IsLowest b w top below → (over ≡ top) × (under ≡ below)
one_lowest a v b w over under top below hv hw e p q =
    one_form (over + under) over under top below (omega arith) p.some q.some crossed p.lowest.2 q.lowest.2
  where
    -- over / under = a / v = b / w = top / below
    scaled : (over * below) * (v * w) ≡ (top * under) * (v * w)
    scaled =
        let one : (over * v) * (below * w) ≡ (a * under) * (below * w) = ap (λ m. m * (below * w)) p.same in
        let two : (top * w) * (under * v) ≡ (b * below) * (under * v) = ap (λ m. m * (under * v)) q.same in
        let three : (a * w) * (under * below) ≡ (b * v) * (under * below) = ap (λ m. m * (under * below)) e in
        omega (arith, one, two, three)

    crossed : over * below ≡ top * under
    crossed = cancel (over * below) (top * under) (v * w) (mul-le 1 1 v w hv hw) scaled
      where
        cancel : (x y k : ℕ) → 1 * 1 ≤ k → x * k ≡ y * k → x ≡ y
        cancel x y k some same = elim (cases_lt x y) [
          | inl less ↦ let more = mul-le (x + 1) k y k (omega (arith, less)) (omega arith) in absurd (omega (arith, more, same, some))
          | inr past ↦ elim (cases_lt y x) [
            | inl less ↦ let more = mul-le (y + 1) k x k (omega (arith, less)) (omega arith) in absurd (omega (arith, more, same, some))
            | inr equal ↦ omega (arith, past, equal)
          ]
        ]
