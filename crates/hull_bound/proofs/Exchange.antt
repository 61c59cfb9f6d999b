-- What lies below a line between two points, in plain numbers: a point is bytes touched over bytes migrated.
use Rattle.std.proofs.Common.{inl, inr, ◌≡◌, ℕ, ◌+◌, ◌-◌, ◌*◌, ◌≤◌, ◌<◌, ap, arith}
use Rattle.std.proofs.lemmas.Nat.{mul-le}
use Rattle.std.proofs.lemmas.Bool.{cases_lt}
use Rattle.std.proofs.Math.Nat.{mul-lt-mul_of_pos_left}

pub cancel : (e a b : ℕ) → 1 ≤ e → e * a ≤ e * b → a ≤ b
cancel e a b some l = elim (cases_lt b a) as (λ _. a ≤ b) [
  | inl g ↦ absurd (let s : e * b < e * a = mul-lt-mul_of_pos_left g some in omega (arith, s, l))
  | inr g ↦ g
]

-- a minimum of a slope touches no more than a set that migrates more
pub touches_less : (ax mx ay my p q : ℕ) → 1 ≤ q → mx ≤ my → q * ax + p * my ≤ q * ay + p * mx → ax ≤ ay
touches_less ax mx ay my p q some far below =
    let l : p * mx ≤ p * my = mul-le p mx p my (omega arith) far in
    cancel q ax ay some (omega (arith, l, below))

-- The line between two points has the slope d/e, in other terms p/q. Both points lie on it.
pub on_line : (ax mx ay my p q d e : ℕ) → my ≡ mx + e → ay ≡ ax + d → p * e ≡ d * q → q * ax + p * my ≡ q * ay + p * mx
on_line ax mx ay my p q d e em ea same =
    let e1 = ap (λ (n : ℕ). p * n) em in
    let e2 = ap (λ (n : ℕ). q * n) ea in
    omega (arith, e1, e2, same)

-- it is as steep as the slope of which its lower end is a minimum
pub steeper : (ax mx ay my p q d e p0 q0 : ℕ) → 1 ≤ e → my ≡ mx + e → ay ≡ ax + d → p * e ≡ d * q → q0 * ax + p0 * my ≤ q0 * ay + p0 * mx → p0 * q ≤ q0 * p
steeper ax mx ay my p q d e p0 q0 some em ea same below =
    let e1 = ap (λ (n : ℕ). p0 * n) em in
    let e2 = ap (λ (n : ℕ). q0 * n) ea in
    let near : p0 * e ≤ q0 * d = omega (arith, e1, e2, below) in
    let times : q * (p0 * e) ≤ q * (q0 * d) = mul-le q (p0 * e) q (q0 * d) (omega arith) near in
    let line = ap (λ (n : ℕ). q0 * n) same in
    cancel e (p0 * q) (q0 * p) some (omega (arith, times, line))

-- and as flat as that of which its upper end is one
pub flatter : (ax mx ay my p q d e p1 q1 : ℕ) → 1 ≤ e → my ≡ mx + e → ay ≡ ax + d → p * e ≡ d * q → q1 * ay + p1 * mx ≤ q1 * ax + p1 * my → q1 * p ≤ p1 * q
flatter ax mx ay my p q d e p1 q1 some em ea same below =
    let e1 = ap (λ (n : ℕ). p1 * n) em in
    let e2 = ap (λ (n : ℕ). q1 * n) ea in
    let near : q1 * d ≤ p1 * e = omega (arith, e1, e2, below) in
    let times : q * (q1 * d) ≤ q * (p1 * e) = mul-le q (q1 * d) q (p1 * e) (omega arith) near in
    let line = ap (λ (n : ℕ). q1 * n) same in
    cancel e (q1 * p) (p1 * q) some (omega (arith, times, line))

-- no point to the left of the lower end lies below the line
not_left : (ax az e p q p0 q0 : ℕ) → 1 ≤ q0 → p0 * q ≤ q0 * p → q0 * ax ≤ q0 * az + p0 * e → q * az + p * e < q * ax → ⊥
not_left ax az e p q p0 q0 one slope below line =
    let h2 : q * (q0 * ax) ≤ q * (q0 * az + p0 * e) = mul-le q (q0 * ax) q (q0 * az + p0 * e) (omega arith) below in
    let h3 : p0 * q * e ≤ q0 * p * e = mul-le (p0 * q) e (q0 * p) e slope (omega arith) in
    let h4 : q0 * (q * az + p * e) < q0 * (q * ax) = mul-lt-mul_of_pos_left line one in
    omega (arith, h2, h3, h4)

at_left : (ax mx az mz e p q p0 q0 : ℕ) → mz + e ≡ mx → 1 ≤ q0 → p0 * q ≤ q0 * p → q0 * ax + p0 * mz ≤ q0 * az + p0 * mx → q * az + p * mx < q * ax + p * mz → ⊥
at_left ax mx az mz e p q p0 q0 s one slope below line =
    let b1 : p0 * (mz + e) ≡ p0 * mx = ap (λ (n : ℕ). p0 * n) s in
    let l1 : p * (mz + e) ≡ p * mx = ap (λ (n : ℕ). p * n) s in
    not_left ax az e p q p0 q0 one slope (omega (arith, b1, below)) (omega (arith, l1, line))

pub left_exchange : (ax mx az mz p q p0 q0 : ℕ) → 1 ≤ q0 → p0 * q ≤ q0 * p → q0 * ax + p0 * mz ≤ q0 * az + p0 * mx → q * az + p * mx < q * ax + p * mz → mx < mz
left_exchange ax mx az mz p q p0 q0 one slope below line = elim (cases_lt mx mz) as (λ _. mx < mz) [
  | inl l ↦ l
  | inr g ↦ absurd (let s : mz + (mx - mz) ≡ mx = omega (arith, g) in at_left ax mx az mz (mx - mz) p q p0 q0 s one slope below line)
]

-- nor one to the right of the upper end
at_right : (ay my az mz e p q p1 q1 : ℕ) → mz ≡ my + e → 1 ≤ q1 → q1 * p ≤ p1 * q → q1 * ay + p1 * mz ≤ q1 * az + p1 * my → q * az + p * my < q * ay + p * mz → ⊥
at_right ay my az mz e p q p1 q1 s one slope below line =
    let b1 : p1 * mz ≡ p1 * (my + e) = ap (λ (n : ℕ). p1 * n) s in
    let l1 : p * mz ≡ p * (my + e) = ap (λ (n : ℕ). p * n) s in
    let near : q1 * ay + p1 * e ≤ q1 * az = omega (arith, b1, below) in
    let line2 : q * az < q * ay + p * e = omega (arith, l1, line) in
    let h2 : q * (q1 * ay + p1 * e) ≤ q * (q1 * az) = mul-le q (q1 * ay + p1 * e) q (q1 * az) (omega arith) near in
    let h3 : q1 * p * e ≤ p1 * q * e = mul-le (q1 * p) e (p1 * q) e slope (omega arith) in
    let h4 : q1 * (q * az) < q1 * (q * ay + p * e) = mul-lt-mul_of_pos_left line2 one in
    omega (arith, h2, h3, h4)

pub right_exchange : (ay my az mz p q p1 q1 : ℕ) → 1 ≤ q1 → q1 * p ≤ p1 * q → q1 * ay + p1 * mz ≤ q1 * az + p1 * my → q * az + p * my < q * ay + p * mz → mz ≤ my
right_exchange ay my az mz p q p1 q1 one slope below line = elim (cases_lt my mz) as (λ _. mz ≤ my) [
  | inl l ↦ absurd (let s : mz ≡ my + (mz - my) = omega (arith, l) in at_right ay my az mz (mz - my) p q p1 q1 s one slope below line)
  | inr g ↦ g
]

-- a point below the line and not to the right of the upper end lies lower than that
pub lower_down : (ay my az mz p q : ℕ) → mz ≤ my → q * az + p * my < q * ay + p * mz → az < ay
lower_down ay my az mz p q near line =
    let l : p * mz ≤ p * my = mul-le p mz p my (omega arith) near in
    elim (cases_lt az ay) as (λ _. az < ay) [
      | inl g ↦ g
      | inr g ↦ absurd (let s : q * ay ≤ q * az = mul-le q ay q az (omega arith) g in omega (arith, l, s, line))
    ]

-- slopes at most or at least 1 stay so
pub stays_steep : (p q p0 q0 : ℕ) → 1 ≤ q0 → q0 ≤ p0 → p0 * q ≤ q0 * p → q ≤ p
stays_steep p q p0 q0 one steep slope =
    let l : q0 * q ≤ p0 * q = mul-le q0 q p0 q steep (omega arith) in
    cancel q0 q p one (omega (arith, l, slope))

pub stays_flat : (p q p1 q1 : ℕ) → 1 ≤ q1 → p1 ≤ q1 → q1 * p ≤ p1 * q → p ≤ q
stays_flat p q p1 q1 one flat slope =
    let l : p1 * q ≤ q1 * q = mul-le p1 q q1 q flat (omega arith) in
    cancel q1 p q one (omega (arith, l, slope))

-- two points that cost what a bound says, weighed so that they migrate m in the mean
pub one_value : (won lost p q mp mq rp rq a b m : ℕ) → won + p * mp ≡ lost + q * (mp + rp) → won + p * mq ≡ lost + q * (mq + rq) → a * mp + b * mq ≡ m * (a + b)
    → (won + p * m) * (a + b) ≡ (lost + q * m) * (a + b) + q * (a * rp + b * rq)
one_value won lost p q mp mq rp rq a b m ep eq em =
    let h1 = ap (λ (n : ℕ). a * n) ep in
    let h2 = ap (λ (n : ℕ). b * n) eq in
    let h3 = ap (λ (n : ℕ). p * n) em in
    let h4 = ap (λ (n : ℕ). q * n) em in
    omega (arith, h1, h2, h3, h4)

-- the two fractions by what both are compared with
pub least_value : (up down q w s v r : ℕ) → 1 ≤ q → up * s ≡ down * s + q * w → up * r ≤ down * r + q * v → w * r ≤ v * s
least_value up down q w s v r one e l =
    let h1 = ap (λ (n : ℕ). n * r) e in
    let h2 : up * r * s ≤ (down * r + q * v) * s = mul-le (up * r) s (down * r + q * v) s l (omega arith) in
    cancel q (w * r) (v * s) one (omega (arith, h1, h2))
