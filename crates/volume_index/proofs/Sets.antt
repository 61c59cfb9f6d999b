-- Sets of names, and how many distinct names a list has.
use Rattle.std.proofs.Common.{◌≡◌, ℕ, ◌+◌, List, [], ◌∷◌, ◌++◌, Bool, true, false, cond, Option, Some, None, refl, sym, ◌∙◌, ap, arith}
use Rattle.std.specs.Prelude.{map as each, is_some, not, ◌&&◌, ◌||◌}
use Rattle.std.specs.List.{list_any, filter}
use Rattle.std.specs.Ordering.{eq_by_cmp}
use Rattle.std.specs.Cmp.Lexicographic.{nat_list_cmp_total, texts_ties, same_text}
use Rattle.std.specs.Str.{bytes_eq}
use Rattle.std.specs.FinMap as map
use Rattle.std.specs.FinMap.Entries.{is_some-find}
use Rattle.std.proofs.lemmas.Bool.{true≢false}
use Rattle.std.proofs.lemmas.List.Folds.{list_any-append}
use Rattle.site_forms.specs.Names.{is_listed}
use Rattle.site_forms.specs.Volumes.{bytes_cmp, NameSet, set_of, distinct_count}
use Rattle.volume_index.proofs.MapValues.{same_names}

-- WHAT A SET HOLDS

keys_of_pairs : (names : List (List ℕ)) → each (λ (e : List ℕ × Unit {0}). e.0) (each (λ (n : List ℕ). (n, tt)) names) ≡ names
keys_of_pairs [] = refl
keys_of_pairs (name ∷ names) = ap (λ (l : List (List ℕ)). name ∷ l) (keys_of_pairs names)

pub ties_any : (q : List ℕ) (names : List (List ℕ)) → list_any (eq_by_cmp bytes_cmp q) names ≡ is_listed names q
ties_any q [] = refl
ties_any q (name ∷ names) = λ i. sym (texts_ties q name) i || ties_any q names i

pub set_holds : (names : List (List ℕ)) (q : List ℕ) → map.contains_key (set_of names) q ≡ is_listed names q
set_holds names q =
    let pairs = each (λ (n : List ℕ). (n, tt)) names in
    ap is_some (map.get-from_entries nat_list_cmp_total pairs q)
    ∙ is_some-find bytes_cmp q pairs
    ∙ ap (list_any (eq_by_cmp bytes_cmp q)) (keys_of_pairs names)
    ∙ ties_any q names

same_unit : (o p : Option (Unit {0})) → is_some o ≡ is_some p → o ≡ p
same_unit None None is = refl
same_unit None (Some y) is = absurd (true≢false (sym is))
same_unit (Some x) None is = absurd (true≢false is)
same_unit (Some x) (Some y) is = refl

pub same_keys : (m n : NameSet) → ((q : List ℕ) → map.contains_key m q ≡ map.contains_key n q) → m ≡ n
same_keys m n is = map.same_map nat_list_cmp_total same_names m n (λ q. same_unit (map.get m q) (map.get n q) (is q))

-- lists with the same names have one set
pub same_sets : (xs ys : List (List ℕ)) → ((q : List ℕ) → is_listed xs q ≡ is_listed ys q) → set_of xs ≡ set_of ys
same_sets xs ys is = same_keys (set_of xs) (set_of ys) (λ q. set_holds xs q ∙ is q ∙ sym (set_holds ys q))

-- ONE NAME MORE

or_turned : (a b : Bool) → (a || (b || false)) ≡ (b || a)
or_turned true true = refl
or_turned true false = refl
or_turned false true = refl
or_turned false false = refl

pub listed_last : (xs : List (List ℕ)) (x q : List ℕ) → is_listed (xs ++ x ∷ []) q ≡ (is_listed xs q || (bytes_eq q x || false))
listed_last xs x q = list_any-append (bytes_eq q) xs (x ∷ [])

pub count_first : (xs : List (List ℕ)) (x : List ℕ) → distinct_count (x ∷ xs) ≡ cond (is_listed xs x) (distinct_count xs) (distinct_count xs + 1)
count_first xs x = map.len-insert nat_list_cmp_total (set_of xs) x tt ∙ ap (λ (b : Bool). cond b (distinct_count xs) (distinct_count xs + 1)) (set_holds xs x)

pub count_last : (xs : List (List ℕ)) (x : List ℕ) → distinct_count (xs ++ x ∷ []) ≡ cond (is_listed xs x) (distinct_count xs) (distinct_count xs + 1)
count_last xs x =
    ap map.len (same_sets (xs ++ x ∷ []) (x ∷ xs) (λ q. listed_last xs x q ∙ or_turned (is_listed xs q) (bytes_eq q x)))
    ∙ count_first xs x

pub count_none : distinct_count [] ≡ 0
count_none = map.len-empty bytes_cmp (Unit {0})

-- NAMES THAT PASS A TEST

alike : (p : List ℕ → Bool) (x y : List ℕ) → bytes_eq x y ≡ true → p x ≡ p y
alike p x y ties = ap p (same_text x y (sym ties))

and_true : (b : Bool) → (b && true) ≡ b
and_true true = refl
and_true false = refl

and_false : (b : Bool) → (b && false) ≡ false
and_false true = refl
and_false false = refl

-- one of the two, where the first implies a test, or its failure
passing : (t rest pq : Bool) → (t ≡ true → pq ≡ true) → (t || (rest && pq)) ≡ ((t || rest) && pq)
passing true rest true h = refl
passing true rest false h = absurd (true≢false (sym (h refl)))
passing false rest pq h = refl

failing : (t rest pq : Bool) → (t ≡ true → pq ≡ false) → (rest && pq) ≡ ((t || rest) && pq)
failing true rest true h = absurd (true≢false (h refl))
failing true rest false h = and_false rest
failing false rest pq h = refl

pub listed_passes : (p : List ℕ → Bool) (xs : List (List ℕ)) (q : List ℕ) → is_listed (filter p xs) q ≡ (is_listed xs q && p q)
listed_passes p [] q = refl
listed_passes p (x ∷ xs) q =
    elim (p x) as (λ b. p x ≡ b → is_listed (cond b (x ∷ filter p xs) (filter p xs)) q ≡ ((bytes_eq q x || is_listed xs q) && p q)) [
      | true ↦ λ yes. ap (λ (b : Bool). bytes_eq q x || b) (listed_passes p xs q) ∙ passing (bytes_eq q x) (is_listed xs q) (p q) (λ ties. alike p q x ties ∙ yes)
      | false ↦ λ no. listed_passes p xs q ∙ failing (bytes_eq q x) (is_listed xs q) (p q) (λ ties. alike p q x ties ∙ no)
    ] refl

-- how many names there are with one more, where that one is among the others or is new
joined_by : (l old : Bool) (a f : ℕ) (front : ℕ) → front ≡ cond old f (cond (l && not old) f (f + 1)) → cond (l || old) (a + f) (a + f + 1) ≡ a + front
joined_by true true a f front is = ap (λ (n : ℕ). a + n) (sym is)
joined_by true false a f front is = ap (λ (n : ℕ). a + n) (sym is)
joined_by false true a f front is = ap (λ (n : ℕ). a + n) (sym is)
joined_by false false a f front is = omega (arith, is)

front_count : (p : List ℕ → Bool) (x : List ℕ) (xs : List (List ℕ)) (b : Bool) → p x ≡ b
    → distinct_count (filter p (x ∷ xs)) ≡ cond (not b) (distinct_count (filter p xs)) (cond (is_listed xs x && b) (distinct_count (filter p xs)) (distinct_count (filter p xs) + 1))
front_count p x xs true is =
    ap (λ (b : Bool). distinct_count (cond b (x ∷ filter p xs) (filter p xs))) is
    ∙ count_first (filter p xs) x
    ∙ ap (λ (b : Bool). cond b (distinct_count (filter p xs)) (distinct_count (filter p xs) + 1)) (listed_passes p xs x ∙ ap (λ (b : Bool). is_listed xs x && b) is)
front_count p x xs false is = ap (λ (b : Bool). distinct_count (cond b (x ∷ filter p xs) (filter p xs))) is

twice_not : (l b : Bool) (x y : ℕ) → cond (not (not b)) x (cond (l && not b) x y) ≡ cond b x (cond (l && not b) x y)
twice_not l true x y = refl
twice_not l false x y = refl

-- names in front of others: the set has those more that the others lack
pub joined_count : (base list : List (List ℕ)) → distinct_count (list ++ base) ≡ distinct_count base + distinct_count (filter (λ n. not (is_listed base n)) list)
joined_count base [] = omega (arith, count_none)
joined_count base (x ∷ xs) =
    let new : List ℕ → Bool = λ n. not (is_listed base n) in
    let fewer = distinct_count (filter new xs) in
    count_first (xs ++ base) x
    ∙ ap (λ (b : Bool). cond b (distinct_count (xs ++ base)) (distinct_count (xs ++ base) + 1)) (list_any-append (bytes_eq x) xs base)
    ∙ ap (λ (n : ℕ). cond (is_listed xs x || is_listed base x) n (n + 1)) (joined_count base xs)
    ∙ joined_by (is_listed xs x) (is_listed base x) (distinct_count base) fewer (distinct_count (filter new (x ∷ xs)))
    (front_count new x xs (new x) refl ∙ twice_not (is_listed xs x) (is_listed base x) fewer (fewer + 1))
