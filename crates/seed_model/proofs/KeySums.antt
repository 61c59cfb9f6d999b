-- Sums by key.
use Rattle.std.proofs.Common.{◌≡◌, ℕ, zero, suc, ◌+◌, ◌*◌, ◌≤◌, ◌<◌, cond, eqb, get_or, length, List, [], ◌∷◌, refl, sym, ap, arith}
use Rattle.std.specs.Prelude.{sum_by, map, ◌++◌}
use Rattle.std.specs.List.{AllByRecursion}
use Rattle.std.proofs.lemmas.List.Sums.{sum_by-cons}
use Rattle.seed_model.specs.Keys.{at_key, sum_below}

pub sum_below_none : (n : ℕ) → sum_below (λ k. 0) n ≡ 0
sum_below_none zero = refl
sum_below_none (suc n) = omega (arith, sum_below_none n)

pub sum_below_same : (f g : ℕ → ℕ) (n : ℕ) → ((k : ℕ) → k < n → f k ≡ g k) → sum_below f n ≡ sum_below g n
sum_below_same f g zero e = refl
sum_below_same f g (suc n) e = omega (arith, sum_below_same f g n (λ k l. e k (omega (arith, l))), e n (omega arith))

pub sum_below_plus : (f g : ℕ → ℕ) (n : ℕ) → sum_below (λ k. f k + g k) n ≡ sum_below f n + sum_below g n
sum_below_plus f g zero = refl
sum_below_plus f g (suc n) = omega (arith, sum_below_plus f g n)

pub sum_below_le : (f g : ℕ → ℕ) (n : ℕ) → ((k : ℕ) → k < n → f k ≤ g k) → sum_below f n ≤ sum_below g n
sum_below_le f g zero l = omega arith
sum_below_le f g (suc n) l = omega (arith, sum_below_le f g n (λ k h. l k (omega (arith, h))), l n (omega arith))

-- one key past the end
sum_below_past : (k v n : ℕ) → n ≤ k → sum_below (λ j. cond (eqb k j) v 0) n ≡ 0
sum_below_past k v zero l = refl
sum_below_past k v (suc n) l =
    let ih = sum_below_past k v n (omega arith) in
    let e : cond (eqb k n) v 0 ≡ 0 = grind arith in
    omega (arith, ih, e)

sum_below_one : (k v n : ℕ) → k < n → sum_below (λ j. cond (eqb k j) v 0) n ≡ v
sum_below_one k v zero l = omega arith
sum_below_one k v (suc n) l =
    let past : n ≤ k → sum_below (λ j. cond (eqb k j) v 0) n ≡ 0 = sum_below_past k v n in
    let one : k < n → sum_below (λ j. cond (eqb k j) v 0) n ≡ v = sum_below_one k v n in
    grind (arith, past, one)

-- a sum is the sum over keys of the sums at each key
pub by_key : {X : Type 0} (key a : X → ℕ) (n : ℕ) (xs : List X) → AllByRecursion (λ x. key x < n) xs
    → sum_by a xs ≡ sum_below (λ k. sum_by (at_key key a k) xs) n
by_key key a n [] b = sym (sum_below_none n)
by_key key a n (x ∷ xs) b =
    let ih = by_key key a n xs b.1 in
    let s = sum_below_same (λ k. sum_by (at_key key a k) (x ∷ xs)) (λ k. at_key key a k x + sum_by (at_key key a k) xs) n (λ k _. sum_by-cons (at_key key a k) x xs) in
    let p = sum_below_plus (λ k. at_key key a k x) (λ k. sum_by (at_key key a k) xs) n in
    let o = sum_below_one (key x) (a x) n b.0 in
    omega (arith, ih, s, p, o, sum_by-cons a x xs)

-- the first of the keys, in front
sum_below_front : (f : ℕ → ℕ) (n : ℕ) → sum_below f (suc n) ≡ f 0 + sum_below (λ k. f (suc k)) n
sum_below_front f zero = omega arith
sum_below_front f (suc n) = omega (arith, sum_below_front f n)

-- the entries by number are the entries
pub sum_below_entries : {X : Type 0} (a : X → ℕ) (xs : List X) (d : X) → sum_below (λ k. a (get_or xs k d)) (length xs) ≡ sum_by a xs
sum_below_entries a [] d = refl
sum_below_entries a (x ∷ xs) d =
    omega (arith, sum_below_front (λ k. a (get_or (x ∷ xs) k d)) (length xs), sum_below_entries a xs d, sum_by-cons a x xs)

-- sums of terms in order, where something is known of each element
pub sum_le : {X : Type 0} (P : X → Type 0) (f g : X → ℕ) (xs : List X) → ((x : X) → P x → f x ≤ g x) → AllByRecursion P xs → sum_by f xs ≤ sum_by g xs
sum_le P f g [] l all = omega arith
sum_le P f g (x ∷ xs) l all = omega (arith, l x all.0, sum_le P f g xs l all.1, sum_by-cons f x xs, sum_by-cons g x xs)

pub sum_same : {X : Type 0} (P : X → Type 0) (f g : X → ℕ) (xs : List X) → ((x : X) → P x → f x ≡ g x) → AllByRecursion P xs → sum_by f xs ≡ sum_by g xs
sum_same P f g [] e all = refl
sum_same P f g (x ∷ xs) e all = omega (arith, e x all.0, sum_same P f g xs e all.1, sum_by-cons f x xs, sum_by-cons g x xs)

pub sum_plus : {X : Type 0} (f g : X → ℕ) (xs : List X) → sum_by (λ x. f x + g x) xs ≡ sum_by f xs + sum_by g xs
sum_plus f g [] = refl
sum_plus f g (x ∷ xs) = omega (arith, sum_plus f g xs, sum_by-cons (λ y. f y + g y) x xs, sum_by-cons f x xs, sum_by-cons g x xs)

pub sum_times : {X : Type 0} (m : ℕ) (f : X → ℕ) (xs : List X) → sum_by (λ x. m * f x) xs ≡ m * sum_by f xs
sum_times m f [] = omega arith
sum_times m f (x ∷ xs) =
    let e = ap (λ (n : ℕ). m * n) (sum_by-cons f x xs) in
    omega (arith, sum_times m f xs, sum_by-cons (λ y. m * f y) x xs, e)

pub sum_map : {X Y : Type 0} (f : Y → ℕ) (g : X → Y) (xs : List X) → sum_by f (map g xs) ≡ sum_by (λ x. f (g x)) xs
sum_map f g [] = refl
sum_map f g (x ∷ xs) = omega (arith, sum_map f g xs, sum_by-cons f (g x) (map g xs), sum_by-cons (λ y. f (g y)) x xs)

pub all_append : {X : Type 0} (P : X → Type 0) (xs ys : List X) → AllByRecursion P xs → AllByRecursion P ys → AllByRecursion P (xs ++ ys)
all_append P [] ys a b = b
all_append P (x ∷ xs) ys a b = (a.0, all_append P xs ys a.1 b)
