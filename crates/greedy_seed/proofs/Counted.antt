-- How often a number stands in a list, and how many elements pass a test.
use Rattle.std.specs.Prelude.{count_by, nat_lt, ◌==◌, ◌&&◌, ◌||◌, if◌then◌else◌}
use Rattle.std.proofs.Common.{◌≡◌, ◌≢◌, ◌∙◌, ℕ, suc, ◌+◌, ◌<◌, ◌≤◌, List, [], ◌∷◌, Bool, true, false, cond, length, get_or, take, refl, sym, ap, arith, inl, inr}
use Rattle.std.specs.List.{AllByRecursion, AllPairs, list_all, list_any}
use Rattle.std.specs.List.Sorted.{IsStrictlyIncreasing}
use Rattle.std.proofs.lemmas.Bool.{cases_Bool, eqb-true}
use Rattle.std.proofs.lemmas.Bool.Decides.{nat_tests}
use Rattle.std.proofs.lemmas.List.Elements.{recursion_from_All}
use Rattle.std.proofs.lemmas.List.Kept.{AllPairs-from_increasing}
use Rattle.std.proofs.lemmas.List.Sums.{sum_by-cons, sum_by-take-le, count_by-le-length, count_by_more_yes, count_by_more_no}
use Rattle.greedy_seed.specs.Shares.{times}

-- one element more
pub count_cons : (p : ℕ → Bool) (x : ℕ) (xs : List ℕ) → count_by p (x ∷ xs) ≡ (if p x then 1 else 0) + count_by p xs
count_cons p x xs = sum_by-cons (λ (y : ℕ). if p y then 1 else 0) x xs

pub count_yes : (p : ℕ → Bool) (x : ℕ) (xs : List ℕ) → p x ≡ true → count_by p (x ∷ xs) ≡ 1 + count_by p xs
count_yes p x xs t = count_cons p x xs ∙ ap (λ (b : Bool). (if b then 1 else 0) + count_by p xs) t

pub count_no : (p : ℕ → Bool) (x : ℕ) (xs : List ℕ) → p x ≡ false → count_by p (x ∷ xs) ≡ count_by p xs
count_no p x xs f =
    let step : count_by p (x ∷ xs) ≡ 0 + count_by p xs = count_cons p x xs ∙ ap (λ (b : Bool). (if b then 1 else 0) + count_by p xs) f in
    omega (arith, step)

-- all pass where their count is that of all
one_more_same : (n m : ℕ) → (1 + n == suc m) ≡ (n == m)
one_more_same n m = grind (arith, nat_tests)

none_same : (n m : ℕ) → n ≤ m → (0 + n == suc m) ≡ false
none_same n m le = grind (arith, nat_tests)

all_step : (b a : Bool) (n m : ℕ) → n ≤ m → a ≡ (n == m) → (b && a) ≡ ((if b then 1 else 0) + n == suc m)
all_step true a n m le e = e ∙ sym (one_more_same n m)
all_step false a n m le e = sym (none_same n m le)

pub all_counted : (p : ℕ → Bool) (xs : List ℕ) → list_all p xs ≡ (count_by p xs == length xs)
all_counted p [] = refl
all_counted p (x ∷ xs) =
    all_step (p x) (list_all p xs) (count_by p xs) (length xs) (count_by-le-length p xs) (all_counted p xs) ∙ ap (λ (n : ℕ). n == suc (length xs)) (sym (count_cons p x xs))

-- and some pass where it is not 0
some_more : (n : ℕ) → nat_lt 0 (1 + n) ≡ true
some_more n = grind (arith, nat_tests)

any_step : (b a : Bool) (n : ℕ) → a ≡ nat_lt 0 n → (b || a) ≡ nat_lt 0 ((if b then 1 else 0) + n)
any_step true a n e = sym (some_more n)
any_step false a n e = let same : n ≡ 0 + n = omega arith in e ∙ ap (nat_lt 0) same

pub any_counted : (p : ℕ → Bool) (xs : List ℕ) → list_any p xs ≡ nat_lt 0 (count_by p xs)
any_counted p [] = refl
any_counted p (x ∷ xs) = any_step (p x) (list_any p xs) (count_by p xs) (any_counted p xs) ∙ ap (nat_lt 0) (sym (count_cons p x xs))

-- numbers that rise have each once
Rises : List ℕ → Type 0
Rises [] = Unit {0}
Rises (x ∷ xs) = AllByRecursion (λ y. x < y) xs × Rises xs

rises : (xs : List ℕ) → AllPairs (λ x y. x < y) xs → Rises xs
unfolding Rises
rises [] h = tt
rises (x ∷ xs) h = (
  recursion_from_All (λ y. x < y) xs (λ k d lt. h 0 (suc k) d (omega arith) (omega (arith, lt))),
  rises xs (λ i j d lt below. h (suc i) (suc j) d (omega (arith, lt)) (omega (arith, below))),
)

none_later : (f x : ℕ) (xs : List ℕ) → f ≤ x → AllByRecursion (λ y. x < y) xs → times f xs ≡ 0
none_later f x [] le h = refl
none_later f x (y ∷ xs) le h = count_no (λ n. n == f) y xs (apart f x y le h.0) ∙ none_later f x xs le h.1
  where
    apart : (f x y : ℕ) → f ≤ x → x < y → (y == f) ≡ false
    apart f x y le lt = grind (arith, nat_tests)

once_by_recursion : (f : ℕ) (xs : List ℕ) → Rises xs → times f xs ≤ 1
unfolding Rises
once_by_recursion f [] h = omega arith
once_by_recursion f (x ∷ xs) h = elim (cases_Bool (x == f)) [
  | inl t ↦
      let same : x ≡ f = eqb-true x f t in
      let more : times f (x ∷ xs) ≡ 1 + times f xs = count_yes (λ n. n == f) x xs t in
      let none : times f xs ≡ 0 = none_later f x xs (omega (arith, same)) h.0 in
      omega (arith, more, none)
  | inr n ↦
      let more : times f (x ∷ xs) ≡ times f xs = count_no (λ n. n == f) x xs n in
      let few : times f xs ≤ 1 = once_by_recursion f xs h.1 in
      omega (arith, more, few)
]

pub at_most_once : (f : ℕ) (users : List ℕ) → IsStrictlyIncreasing users → times f users ≤ 1
at_most_once f users h = once_by_recursion f users (rises users (AllPairs-from_increasing users h))

-- the number at a place stands once more
pub counted_here : (xs : List ℕ) (i : ℕ) → i < length xs → times (get_or xs i 0) (take (i + 1) xs) ≡ times (get_or xs i 0) (take i xs) + 1
counted_here xs i lt =
    let yes : (get_or xs i 0 == get_or xs i 0) ≡ true = grind (arith, nat_tests) in
    count_by_more_yes (λ n. n == get_or xs i 0) xs i 0 lt yes

pub counted_apart : (xs : List ℕ) (i x : ℕ) → i < length xs → get_or xs i 0 ≢ x → times x (take (i + 1) xs) ≡ times x (take i xs)
counted_apart xs i x lt apart =
    let no : (get_or xs i 0 == x) ≡ false = grind (arith, nat_tests, apart) in
    count_by_more_no (λ n. n == x) xs i 0 lt no

-- the number at a place stands no earlier, and once in all
pub none_before : (xs : List ℕ) (i : ℕ) → i < length xs → times (get_or xs i 0) xs ≤ 1 → times (get_or xs i 0) (take i xs) ≡ 0
none_before xs i lt once = omega (arith, once, counted_here xs i lt, sum_by-take-le (λ (n : ℕ). cond (n == get_or xs i 0) 1 0) xs (i + 1))

-- and so at least once
pub stands : (xs : List ℕ) (i : ℕ) → i < length xs → 1 ≤ times (get_or xs i 0) xs
stands xs i lt = omega (arith, counted_here xs i lt, sum_by-take-le (λ (n : ℕ). cond (n == get_or xs i 0) 1 0) xs (i + 1))

-- a number that comes next, and stands once
pub record IsNext (numbers : List ℕ) (i k : ℕ) : Type 0 where
  pub none : times k (take i numbers) ≡ 0
  pub one : times k (take (i + 1) numbers) ≡ 1
  pub others : (j : ℕ) → j ≢ k → times j (take (i + 1) numbers) ≡ times j (take i numbers)

pub is_next : (numbers : List ℕ) (i k : ℕ) → i < length numbers → k ≡ get_or numbers i 0 → times k numbers ≤ 1 → IsNext numbers i k
is_next numbers i k lt is few =
    let none : times (get_or numbers i 0) (take i numbers) ≡ 0 = none_before numbers i lt (rw is at few) in
    rw is (record {
      none = none;
      one = omega (arith, counted_here numbers i lt, none);
      others = λ j apart. counted_apart numbers i j lt (λ q. apart (sym q));
    })
