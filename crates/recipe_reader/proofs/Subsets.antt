-- Distinct items of a list sum to no more than all.
use Rattle.std.specs.Prelude.{◌⊎◌, Contains, sum_by}
use Rattle.std.proofs.Common.{◌≡◌, ◌∙◌, ◌∷◌, ◌++◌, ◌+◌, ◌<◌, ◌≤◌, [], ℕ, zero, suc, List, Bool, refl, ap, false, length, get_or, arith, inl, inr}
use Rattle.std.specs.Cmp.{IsEquivalence}
use Rattle.std.specs.List.{AllByRecursion, IsDistinct}
use Rattle.std.proofs.lemmas.List.Elements.{All-contains, All-from_recursion, Contains-append_cases, Contains-append_left, Contains-append_right}
use Rattle.std.proofs.lemmas.List.Sums.{sum_by-cons, sum_by-append}

-- a list around one of its items
record IsAround {X : Type 0} (xs : List X) (x : X) : Type 0 where
  front : List X
  back : List X
  split : xs ≡ front ++ x ∷ back

around : {X : Type 0} (xs : List X) (x : X) (k : ℕ) → k < length xs → get_or xs k x ≡ x → IsAround xs x
around [] x k lt at = absurd (omega arith)
around (y ∷ ys) x zero lt at = record { front = []; back = ys; split = ap (λ t. t ∷ ys) at }
around (y ∷ ys) x (suc k) lt at =
    let r = around ys x k (omega arith) at in
    record { front = y ∷ r.front; back = r.back; split = ap (λ t. y ∷ t) r.split }

-- an item of a list is the first, or one of the others
pub cons_cases : {X : Type 0} (x : X) (xs : List X) (y : X) → Contains (x ∷ xs) y → (x ≡ y) ⊎ Contains xs y
cons_cases x xs y (zero, lt, at) = inl at
cons_cases x xs y (suc k, lt, at) = inr (k, omega arith, at)

pub contains_head : {X : Type 0} (x : X) (xs : List X) → Contains (x ∷ xs) x
contains_head x xs = (0, omega arith, refl)

pub contains_tail : {X : Type 0} (x : X) (xs : List X) (y : X) → Contains xs y → Contains (x ∷ xs) y
contains_tail x xs y (k, lt, at) = (suc k, omega arith, at)

-- items that differ from one of a list are among the others
others : {X : Type 0} (same : X → X → Bool) → IsEquivalence same → (x : X) (front back xs : List X) → AllByRecursion (λ y. same x y ≡ false) xs
    → ((y : X) → Contains xs y → Contains (front ++ x ∷ back) y) → (y : X) → Contains xs y → Contains (front ++ back) y
others same laws x front back xs apart within y there = elim (Contains-append_cases front (x ∷ back) y (within y there)) [
  | inl before ↦ Contains-append_left front back y before
  | inr rest ↦ elim (cons_cases x back y rest) [
    | inl own ↦ let other = All-contains (λ y. same x y ≡ false) xs y (All-from_recursion (λ y. same x y ≡ false) xs apart) there in let alike = laws.refl y in cc (rw own at other, alike)
    | inr behind ↦ Contains-append_right front back y behind
  ]
]

pub sum_within : {X : Type 0} (same : X → X → Bool) → IsEquivalence same → (f : X → ℕ) (xs ys : List X) → IsDistinct same xs → ((x : X) → Contains xs x → Contains ys x)
    → sum_by f xs ≤ sum_by f ys
unfolding IsDistinct
sum_within same laws f [] ys distinct within = omega arith
sum_within same laws f (x ∷ xs) ys distinct within =
    let c = within x (contains_head x xs) in
    let a = around ys x c.0 c.1 c.2 in
    let rest = sum_within same laws f xs (a.front ++ a.back) distinct.1
    (others same laws x a.front a.back xs distinct.0 (λ y there. rw (← a.split) (within y (contains_tail x xs y there)))) in
    let here = sum_by-cons f x xs in
    let whole : sum_by f ys ≡ sum_by f a.front + (f x + sum_by f a.back) = ap (sum_by f) a.split ∙ (sum_by-append f a.front (x ∷ a.back) ∙ ap (λ n. sum_by f a.front + n) (sum_by-cons f x a.back)) in
    let parts = sum_by-append f a.front a.back in
    omega (arith, rest, here, whole, parts)

-- how many distinct items there are
pub length_within : {X : Type 0} (same : X → X → Bool) → IsEquivalence same → (xs ys : List X) → IsDistinct same xs → ((x : X) → Contains xs x → Contains ys x) → length xs ≤ length ys
length_within same laws xs ys distinct within =
    let sums = sum_within same laws (λ _. 1) xs ys distinct within in
    omega (arith, sums, ones xs, ones ys)
  where
    ones : {X : Type 0} (xs : List X) → sum_by (λ _. 1) xs ≡ length xs
    ones [] = refl
    ones (x ∷ xs) = let rest = ones xs in sum_by-cons (λ _. 1) x xs ∙ omega (arith, rest)
