-- First appearance in a part of a list, and what a list of first items weighs.
use Rattle.std.specs.Prelude.{filter, not, sum_by}
use Rattle.std.proofs.Common.{◌≡◌, ◌∙◌, ◌≤◌, ◌∷◌, [], ℕ, List, Bool, true, false, refl, sym, ap, length, inl, inr, arith}
use Rattle.std.specs.List.{AllByRecursion}
use Rattle.std.proofs.lemmas.Bool.{cases_Bool}
use Rattle.std.proofs.lemmas.List.Sums.{sum_by-cons}
use Rattle.list_facts.specs.Firsts.{firsts}

pub filter-yes : {X : Type 0} (p : X → Bool) (x : X) (xs : List X) → p x ≡ true → filter p (x ∷ xs) ≡ x ∷ filter p xs
filter-yes p x xs t = rw t refl

pub filter-no : {X : Type 0} (p : X → Bool) (x : X) (xs : List X) → p x ≡ false → filter p (x ∷ xs) ≡ filter p xs
filter-no p x xs f = rw f refl

-- a filter after one that it implies is that filter
pub filter-implied : {X : Type 0} (p q : X → Bool) (xs : List X) → ((x : X) → p x ≡ true → q x ≡ true) → filter p (filter q xs) ≡ filter p xs
filter-implied p q [] implies = refl
filter-implied p q (x ∷ xs) implies =
    let rest = filter-implied p q xs implies in
    elim (cases_Bool (p x)) [
      | inl t ↦ rw (implies x t) (rw t (ap (λ l. x ∷ l) rest))
      | inr f ↦ elim (cases_Bool (q x)) [ inl k ↦ rw k (rw f rest) | inr n ↦ rw n (rw f rest) ]
    ]

pub filter-swap : {X : Type 0} (p q : X → Bool) (xs : List X) → filter p (filter q xs) ≡ filter q (filter p xs)
filter-swap p q [] = refl
filter-swap p q (x ∷ xs) =
    let rest = filter-swap p q xs in
    elim (cases_Bool (p x)) [
      | inl t ↦ elim (cases_Bool (q x)) [
        | inl u ↦ rw (t, u) (rw t (ap (λ l. x ∷ l) rest))
        | inr n ↦ rw (t, n) rest
      ]
      | inr f ↦ elim (cases_Bool (q x)) [ inl u ↦ rw (f, u) (rw f rest) | inr n ↦ rw (f, n) rest ]
    ]

-- the first items of those that pass a test are the first items that pass it, where same items pass alike
pub firsts-filter : {X : Type 0} (same : X → X → Bool) (p : X → Bool) (xs : List X) → ((x y : X) → same x y ≡ true → p x ≡ p y) → firsts same (filter p xs) ≡ filter p (firsts same xs)
firsts-filter same p [] alike = refl
firsts-filter {X} same p (x ∷ xs) alike =
    let other : X → Bool = λ y. not (same x y) in
    let rest = firsts-filter same p xs alike in
    elim (cases_Bool (p x)) [
      | inl t ↦ rw (t, rest) (ap (λ l. x ∷ l) (filter-swap other p (firsts same xs)))
      | inr f ↦ rw f (rest ∙ sym (filter-implied p other (firsts same xs) (λ y t. elim (cases_Bool (same x y)) [
        | inl s ↦ cc (alike x y s, t, f)
        | inr n ↦ rw n refl
      ])))
    ]

-- a filter weighs no more, and neither do the first items
pub weight-filter : {X : Type 0} (w : X → ℕ) (p : X → Bool) (xs : List X) → sum_by w (filter p xs) ≤ sum_by w xs
weight-filter w p [] = omega arith
weight-filter w p (x ∷ xs) = elim (cases_Bool (p x)) [
  | inl t ↦ rw t (omega (arith, sum_by-cons w x (filter p xs), sum_by-cons w x xs, weight-filter w p xs))
  | inr f ↦ rw f (omega (arith, sum_by-cons w x xs, weight-filter w p xs))
]

pub weight-firsts : {X : Type 0} (same : X → X → Bool) (w : X → ℕ) (xs : List X) → sum_by w (firsts same xs) ≤ sum_by w xs
weight-firsts same w [] = omega arith
weight-firsts same w (x ∷ xs) =
    let rest = filter (λ y. not (same x y)) (firsts same xs) in
    omega (arith, sum_by-cons w x rest, sum_by-cons w x xs, weight-filter w (λ y. not (same x y)) (firsts same xs), weight-firsts same w xs)

pub length-filter : {X : Type 0} (p : X → Bool) (xs : List X) → length (filter p xs) ≤ length xs
length-filter p [] = omega arith
length-filter p (x ∷ xs) = elim (cases_Bool (p x)) [
  | inl t ↦ rw t (omega (arith, length-filter p xs))
  | inr f ↦ rw f (omega (arith, length-filter p xs))
]

pub length-firsts : {X : Type 0} (same : X → X → Bool) (xs : List X) → length (firsts same xs) ≤ length xs
length-firsts same [] = omega arith
length-firsts same (x ∷ xs) = omega (arith, length-filter (λ y. not (same x y)) (firsts same xs), length-firsts same xs)

-- what holds of each item holds of each that a filter keeps, and of each first one
pub all-filter : {X : Type 0} (P : X → Type 0) (p : X → Bool) (xs : List X) → AllByRecursion P xs → AllByRecursion P (filter p xs)
all-filter P p [] all = tt
all-filter P p (x ∷ xs) all = elim (cases_Bool (p x)) [ inl t ↦ rw t (all.0, all-filter P p xs all.1) | inr f ↦ rw f (all-filter P p xs all.1) ]

pub all-firsts : {X : Type 0} (same : X → X → Bool) (P : X → Type 0) (xs : List X) → AllByRecursion P xs → AllByRecursion P (firsts same xs)
all-firsts same P [] all = tt
all-firsts same P (x ∷ xs) all = (all.0, all-filter P (λ y. not (same x y)) (firsts same xs) (all-firsts same P xs all.1))
