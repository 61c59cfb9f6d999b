-- The first places of names in a list.
use Rattle.std.proofs.Common.{◌≡◌, ℕ, zero, suc, ◌+◌, ◌<◌, ◌≤◌, List, [], ◌∷◌, ◌++◌, length, get_or, Bool, true, false, cond, Some, None, refl, sym, ◌∙◌, ap, eq-eqb, arith}
use Rattle.std.specs.Prelude.{unwrap_or, ◌||◌, ◌&&◌, not, ◌==◌}
use Rattle.std.specs.List.{filter}
use Rattle.std.specs.Str.{bytes_eq}
use Rattle.std.specs.Cmp.Lexicographic.{bytes_decides, same_text}
use Rattle.std.proofs.lemmas.Bool.{true≢false, ne_eqb}
use Rattle.std.proofs.lemmas.List.{append-nil}
use Rattle.site_forms.specs.Names.{is_listed}
use Rattle.site_forms.specs.Volumes.{distinct_count}
use Rattle.volume_index.proofs.Sets.{count_last, listed_last, listed_passes}
use Rattle.seed_mover.specs.Blocks.{place_in}

-- it stands there, and no earlier place has it
pub place_has : (names : List (List ℕ)) (j : ℕ) (name : List ℕ) → j < length names → get_or names j [] ≡ name → (place_in names name ≤ j) × (get_or names (place_in names name) [] ≡ name)
place_has [] j name inside is = absurd (omega (arith, inside))
place_has (x ∷ names) j name inside is =
    elim (bytes_eq name x) as (λ b. bytes_eq name x ≡ b → (cond b 0 (place_in names name + 1) ≤ j) × (get_or (x ∷ names) (cond b 0 (place_in names name + 1)) [] ≡ name)) [
      | true ↦ λ same. (omega arith, sym (same_text name x (sym same)))
      | false ↦ λ other. later (λ k less same. place_has names k name less same) j inside is other
    ] refl
  where
    later : ((k : ℕ) → k < length names → get_or names k [] ≡ name → (place_in names name ≤ k) × (get_or names (place_in names name) [] ≡ name)) → (j : ℕ) → j < length (x ∷ names) → get_or (x ∷ names) j [] ≡ name → bytes_eq name x ≡ false → (place_in names name + 1 ≤ j) × (get_or (x ∷ names) (place_in names name + 1) [] ≡ name)
    later rest zero inside is other = absurd (true≢false (sym ((bytes_decides name x).1 (sym is)) ∙ other))
    later rest (suc j) inside is other =
        let its = rest j (omega (arith, inside)) is in
        (omega (arith, its.0), ap (λ (n : ℕ). get_or (x ∷ names) n []) (let one : place_in names name + 1 ≡ suc (place_in names name) = omega arith in one) ∙ its.1)

-- IN FRONT OF OTHERS

behind_one : (l : Bool) (a b n : ℕ) → cond l a (n + b) + 1 ≡ cond l (a + 1) (suc n + b)
behind_one true a b n = refl
behind_one false a b n = omega arith

pub place_front : (xs ys : List (List ℕ)) (q : List ℕ) → place_in (xs ++ ys) q ≡ cond (is_listed xs q) (place_in xs q) (length xs + place_in ys q)
place_front [] ys q = omega arith
place_front (x ∷ xs) ys q =
    elim (bytes_eq q x) as (λ b. cond b 0 (place_in (xs ++ ys) q + 1) ≡ cond (b || is_listed xs q) (cond b 0 (place_in xs q + 1)) (length (x ∷ xs) + place_in ys q)) [
      | true ↦ refl
      | false ↦ ap (λ (n : ℕ). n + 1) (place_front xs ys q) ∙ behind_one (is_listed xs q) (place_in xs q) (place_in ys q) (length xs)
    ]

pub place_inside : (xs : List (List ℕ)) (q : List ℕ) → is_listed xs q ≡ true → place_in xs q < length xs
place_inside [] q is = absurd (true≢false (sym is))
place_inside (x ∷ xs) q is =
    elim (bytes_eq q x) as (λ b. (b || is_listed xs q) ≡ true → cond b 0 (place_in xs q + 1) < length (x ∷ xs)) [
      | true ↦ λ _. omega arith
      | false ↦ λ later. omega (arith, place_inside xs q later)
    ] is

itself : (x : List ℕ) → bytes_eq x x ≡ true
itself x = (bytes_decides x x).1 refl

place_first : (x : List ℕ) (ys : List (List ℕ)) → place_in (x ∷ ys) x ≡ 0
place_first x ys = ap (λ (b : Bool). cond b 0 (place_in ys x + 1)) (itself x)

-- the first place of the name behind some others
pub place_next : (xs : List (List ℕ)) (x : List ℕ) (ys : List (List ℕ)) → place_in (xs ++ x ∷ ys) x ≡ cond (is_listed xs x) (place_in xs x) (length xs)
place_next xs x ys = place_front xs (x ∷ ys) x ∙ ap (λ (n : ℕ). cond (is_listed xs x) (place_in xs x) n) (omega (arith, place_first x ys))

-- it is its own exactly where the others lack the name
own_by : (l : Bool) (p n : ℕ) → (l ≡ true → p < n) → (cond l p n == n) ≡ not l
own_by true p n less = ne_eqb p n (λ (is : p ≡ n). omega (arith, is, less refl))
own_by false p n less = eq-eqb n n refl

pub own_place : (xs : List (List ℕ)) (x : List ℕ) (ys : List (List ℕ)) → (place_in (xs ++ x ∷ ys) x == length xs) ≡ not (is_listed xs x)
own_place xs x ys = ap (λ (n : ℕ). n == length xs) (place_next xs x ys) ∙ own_by (is_listed xs x) (place_in xs x) (length xs) (place_inside xs x)

-- PLACES THAT ARE KEPT

kept_by : (l : Bool) (p n : ℕ) → unwrap_or (cond l (Some p) None) n ≡ cond l p n
kept_by true p n = refl
kept_by false p n = refl

pub first_kept : (xs : List (List ℕ)) (x : List ℕ) (ys : List (List ℕ)) → unwrap_or (cond (is_listed xs x) (Some (place_in xs x)) None) (length xs) ≡ place_in (xs ++ x ∷ ys) x
first_kept xs x ys = kept_by (is_listed xs x) (place_in xs x) (length xs) ∙ sym (place_next xs x ys)

-- one name more is kept
more_by : (l e : Bool) (p n : ℕ) → cond (l || (e || false)) (Some (cond l p (n + cond e 0 (0 + 1)))) None ≡ cond e (Some (cond l p n)) (cond l (Some p) None)
more_by true true p n = refl
more_by true false p n = refl
more_by false true p n = ap Some (let none : n + 0 ≡ n = omega arith in none)
more_by false false p n = refl

turned_by : (xs : List (List ℕ)) (x q : List ℕ) (b : Bool) → bytes_eq q x ≡ b → cond b (Some (cond (is_listed xs q) (place_in xs q) (length xs))) (cond (is_listed xs q) (Some (place_in xs q)) None)
    ≡ cond b (Some (unwrap_or (cond (is_listed xs x) (Some (place_in xs x)) None) (length xs))) (cond (is_listed xs q) (Some (place_in xs q)) None)
turned_by xs x q true is = ap Some (ap (λ (z : List ℕ). cond (is_listed xs z) (place_in xs z) (length xs)) (same_text q x (sym is)) ∙ sym (kept_by (is_listed xs x) (place_in xs x) (length xs)))
turned_by xs x q false is = refl

pub places_more : (xs : List (List ℕ)) (x q : List ℕ)
    → cond (bytes_eq q x) (Some (unwrap_or (cond (is_listed xs x) (Some (place_in xs x)) None) (length xs))) (cond (is_listed xs q) (Some (place_in xs q)) None)
    ≡ cond (is_listed (xs ++ x ∷ []) q) (Some (place_in (xs ++ x ∷ []) q)) None
places_more xs x q =
    sym (turned_by xs x q (bytes_eq q x) refl)
    ∙ sym (more_by (is_listed xs q) (bytes_eq q x) (place_in xs q) (length xs))
    ∙ ap (λ (n : ℕ). cond (is_listed xs q || (bytes_eq q x || false)) (Some n) None) (sym (place_front xs (x ∷ []) q))
    ∙ ap (λ (b : Bool). cond b (Some (place_in (xs ++ x ∷ []) q)) None) (sym (listed_last xs x q))

-- COUNTS

filter_last : (p : List ℕ → Bool) (xs : List (List ℕ)) (x : List ℕ) → filter p (xs ++ x ∷ []) ≡ filter p xs ++ cond (p x) (x ∷ []) []
filter_last p [] x = refl
filter_last p (y ∷ xs) x =
    elim (p y) as (λ b. cond b (y ∷ filter p (xs ++ x ∷ [])) (filter p (xs ++ x ∷ [])) ≡ cond b (y ∷ filter p xs) (filter p xs) ++ cond (p x) (x ∷ []) []) [
      | true ↦ ap (λ l. y ∷ l) (filter_last p xs x)
      | false ↦ filter_last p xs x
    ]

count_by_case : (l t : Bool) (n : ℕ) (m : ℕ) → (t ≡ true → m ≡ cond (l && t) n (n + 1)) → (t ≡ false → m ≡ n) → m ≡ cond l n (n + cond t 1 0)
count_by_case true true n m passes fails = passes refl
count_by_case true false n m passes fails = fails refl
count_by_case false true n m passes fails = passes refl
count_by_case false false n m passes fails = fails refl ∙ (let none : n ≡ n + 0 = omega arith in none)

-- names that pass a test, with one more
pub count_more : (p : List ℕ → Bool) (xs : List (List ℕ)) (x : List ℕ) → distinct_count (filter p (xs ++ x ∷ [])) ≡ cond (is_listed xs x) (distinct_count (filter p xs)) (distinct_count (filter p xs) + cond (p x) 1 0)
count_more p xs x =
    count_by_case (is_listed xs x) (p x) (distinct_count (filter p xs)) (distinct_count (filter p (xs ++ x ∷ [])))
    (λ yes. ap distinct_count (filter_last p xs x ∙ ap (λ (b : Bool). filter p xs ++ cond b (x ∷ []) []) yes) ∙ count_last (filter p xs) x
    ∙ ap (λ (b : Bool). cond b (distinct_count (filter p xs)) (distinct_count (filter p xs) + 1)) (listed_passes p xs x))
    (λ no. ap distinct_count (filter_last p xs x ∙ ap (λ (b : Bool). filter p xs ++ cond b (x ∷ []) []) no ∙ append-nil (filter p xs)))
