-- The order of waiting nodes is total.
use Rattle.std.proofs.Common.{◌≡◌, ℕ, ◌*◌, ◌<◌, refl, sym, ◌∙◌, ap, subst, arith, Less, Equal, Greater}
use Rattle.std.proofs.Math.Nat.{mul-lt-mul_of_pos_right, lt_of_mul-lt-mul_right}
use Rattle.std.proofs.lemmas.Cmp.{ranked, by_ranked, nat_cmp_total, back_total, then_total, on_total}
use Rattle.std.specs.Cmp.{IsTotalOrder}
use Rattle.std.specs.Ordering.{nat_cmp, MatchOrdering}
use Rattle.branch_bound.specs.Fractions.{positive_cmp}
use Rattle.branch_bound.specs.Orders.{fraction_of, candidate_cmp}

less_is : (a b : ℕ) → nat_cmp a b ≡ Less → a < b
less_is a b e = subst (λ o. MatchOrdering o (a < b) (a ≡ b) (b < a)) e (ranked a b (nat_cmp a b) refl)

equal_is : (a b : ℕ) → nat_cmp a b ≡ Equal → a ≡ b
equal_is a b e = subst (λ o. MatchOrdering o (a < b) (a ≡ b) (b < a)) e (ranked a b (nat_cmp a b) refl)

is_less : (a b : ℕ) → a < b → nat_cmp a b ≡ Less
is_less a b l = grind (arith, l)

is_equal : (a b : ℕ) → a ≡ b → nat_cmp a b ≡ Equal
is_equal a b l = grind (arith, l)

is_greater : (a b : ℕ) → b < a → nat_cmp a b ≡ Greater
is_greater a b l = grind (arith, l)

scaled : (a b k : ℕ) → 0 < k → nat_cmp (a * k) (b * k) ≡ nat_cmp a b
scaled a b k p =
    by_ranked (a < b) (a ≡ b) (b < a) (nat_cmp a b) (ranked a b (nat_cmp a b) refl)
    (λ e l. is_less (a * k) (b * k) (mul-lt-mul_of_pos_right l p) ∙ sym e)
    (λ e l. is_equal (a * k) (b * k) (ap (λ z. z * k) l) ∙ sym e)
    (λ e l. is_greater (a * k) (b * k) (mul-lt-mul_of_pos_right l p) ∙ sym e)

pub fraction_total : IsTotalOrder positive_cmp
fraction_total = record {
  antisymm = λ x y. nat_cmp_total.antisymm (x.over * y.under) (y.over * x.under);
  trans = λ x y z h k. is_less (x.over * z.under) (z.over * x.under)
      (let a = mul-lt-mul_of_pos_right (less_is (x.over * y.under) (y.over * x.under) h) z.positive in
      let b = mul-lt-mul_of_pos_right (less_is (y.over * z.under) (z.over * y.under) k) x.positive in
      let c : x.over * z.under * y.under < z.over * x.under * y.under = omega (arith, a, b) in
      lt_of_mul-lt-mul_right y.under c);
  congr = λ x y z h.
      let e = equal_is (x.over * y.under) (y.over * x.under) h in
      let times : x.over * y.under * z.under ≡ y.over * x.under * z.under = ap (λ w. w * z.under) e in
      let left : x.over * z.under * y.under ≡ y.over * z.under * x.under = omega (arith, times) in
      let right : z.over * x.under * y.under ≡ z.over * y.under * x.under = omega arith in
      sym (scaled (x.over * z.under) (z.over * x.under) y.under y.positive) ∙ ap (λ w. nat_cmp w (z.over * x.under * y.under)) left ∙ ap (λ w. nat_cmp (y.over * z.under * x.under) w) right ∙ scaled (y.over * z.under) (z.over * y.under) x.under x.positive;
}

pub candidate_total : IsTotalOrder candidate_cmp
candidate_total = back_total (then_total (on_total fraction_of fraction_total) (on_total (λ c. c.number) nat_cmp_total))
