-- Lists of names: filters, first places, and one name fewer.
use Rattle.std.proofs.Common.{◌≡◌, ⊎_elim, ℕ, zero, suc, ◌+◌, ◌-◌, ◌<◌, ◌≤◌, List, [], ◌∷◌, length, get_or, Bool, true, false, cond, Some, None, refl, sym, ◌∙◌, ap, arith}
use Rattle.std.specs.Prelude.{is_some, not, ◌&&◌, ◌||◌, slice_get, nat_lt}
use Rattle.std.specs.List.{filter, flat_map, position, position_or_len}
use Rattle.std.specs.Cmp.Lexicographic.{nat_list_cmp_total}
use Rattle.std.specs.Str.{bytes_eq}
use Rattle.std.specs.FinMap as map
use Rattle.std.proofs.lemmas.Bool.{true≢false, cases_Bool, and_parts, and_from, and_right, not-true, or_right, or_cases, ltb-false, false_from_ne_true}
use Rattle.std.proofs.lemmas.List.Folds.{list_any-append}
use Rattle.std.proofs.lemmas.Option.{none-some}
use Rattle.site_forms.specs.Names.{is_listed, is_distinct}
use Rattle.site_forms.specs.Volumes.{bytes_cmp, set_of, distinct_count}
use Rattle.volume_index.proofs.Sets.{set_holds, same_keys, listed_passes}
use Rattle.site_core.proofs.Maps.{same_bytes, equal_bytes, name_cases, without_cases}

-- WHAT A LIST HOLDS

pub first_listed : (xs : List (List ℕ)) (c : List ℕ) → slice_get xs 0 ≡ Some c → is_listed xs c ≡ true
first_listed [] c is = absurd (none-some c is)
first_listed (x ∷ xs) c is =
    let same : x ≡ c = cc in
    ap (λ (b : Bool). b || is_listed xs c) (ap (λ (y : List ℕ). bytes_eq y x) (sym same) ∙ same_bytes x)

pub none_first : {X : Type 0} (xs : List X) → slice_get xs 0 ≡ None → xs ≡ []
none_first [] is = refl
none_first (x ∷ xs) is = absurd (none-some x (sym is))

pub listed_front : (x : List ℕ) (xs : List (List ℕ)) → is_listed (x ∷ xs) x ≡ true
listed_front x xs = ap (λ (b : Bool). b || is_listed xs x) (same_bytes x)

pub none_listed : (xs : List (List ℕ)) → ((q : List ℕ) → is_listed xs q ≡ true → ⊥) → xs ≡ []
none_listed [] none = refl
none_listed (x ∷ xs) none = absurd (none x (listed_front x xs))

pub listed_at : (xs : List (List ℕ)) (i : ℕ) → i < length xs → is_listed xs (get_or xs i []) ≡ true
listed_at [] i inside = absurd (omega (arith, inside))
listed_at (x ∷ xs) zero inside = listed_front x xs
listed_at (x ∷ xs) (suc i) inside = or_right (bytes_eq (get_or xs i []) x) (is_listed xs (get_or xs i [])) (listed_at xs i (omega (arith, inside)))

module _ (f : List ℕ → List (List ℕ)) where
  -- a chunk of one of many lists
  pub in_flat : (names : List (List ℕ)) (c : List ℕ) → is_listed (flat_map f names) c ≡ true → (n : List ℕ) × (is_listed names n ≡ true) × (is_listed (f n) c ≡ true)
  in_flat [] c listed = absurd (true≢false (sym listed))
  in_flat (n ∷ names) c listed = ⊎_elim
      (λ here. (n, listed_front n names, here))
      (λ later.
      let found = in_flat names c later in
      (found.0, or_right (bytes_eq found.0 n) (is_listed names found.0) found.1, found.2))
      (or_cases (is_listed (f n) c) (is_listed (flat_map f names) c) (sym (list_any-append (bytes_eq c) (f n) (flat_map f names)) ∙ listed))

  pub into_flat : (names : List (List ℕ)) (c n : List ℕ) → is_listed names n ≡ true → is_listed (f n) c ≡ true → is_listed (flat_map f names) c ≡ true
  into_flat [] c n named listed = absurd (true≢false (sym named))
  into_flat (m ∷ names) c n named listed =
      list_any-append (bytes_eq c) (f m) (flat_map f names)
      ∙ ⊎_elim
      (λ is. ap (λ (b : Bool). b || is_listed (flat_map f names) c) (ap (λ (k : List ℕ). is_listed (f k) c) (sym (equal_bytes n m is)) ∙ listed))
      (λ later. or_right (is_listed (f m) c) (is_listed (flat_map f names) c) (into_flat names c n later listed))
      (or_cases (bytes_eq n m) (is_listed names n) named)

-- FIRST PLACES

none_passes_from : (p : List ℕ → Bool) (xs : List (List ℕ)) → length xs ≤ position_or_len p xs → (x : List ℕ) → is_listed xs x ≡ true → p x ≡ false
none_passes_from p [] long x listed = absurd (true≢false (sym listed))
none_passes_from p (y ∷ xs) long x listed =
    elim (p y) as (λ b. p y ≡ b → suc (length xs) ≤ cond (not b) (1 + position_or_len p xs) 0 → p x ≡ false) [
      | true ↦ λ _ short. absurd (omega (arith, short))
      | false ↦ λ fails rest. ⊎_elim (λ is. ap p (equal_bytes x y is) ∙ fails) (λ later. none_passes_from p xs (omega (arith, rest)) x later) (or_cases (bytes_eq x y) (is_listed xs x) listed)
    ] refl long

-- where no place passes, no name does
pub none_passes : (p : List ℕ → Bool) (xs : List (List ℕ)) → position p xs ≡ None → (x : List ℕ) → is_listed xs x ≡ true → p x ≡ false
none_passes p xs is = ⊎_elim
    (λ inside. absurd (none-some (position_or_len p xs) (sym is ∙ ap (λ (b : Bool). cond b (Some (position_or_len p xs)) None) inside)))
    (λ past. none_passes_from p xs (ltb-false (position_or_len p xs) (length xs) past))
    (cases_Bool (nat_lt (position_or_len p xs) (length xs)))

-- FILTERS

same_filter : (p q : List ℕ → Bool) (xs : List (List ℕ)) → ((x : List ℕ) → is_listed xs x ≡ true → q x ≡ p x) → filter q xs ≡ filter p xs
same_filter p q [] same = refl
same_filter p q (x ∷ xs) same =
    ap (λ (b : Bool). cond b (x ∷ filter q xs) (filter q xs)) (same x (listed_front x xs))
    ∙ ap (λ (l : List (List ℕ)). cond (p x) (x ∷ l) l) (same_filter p q xs (λ y listed. same y (or_right (bytes_eq y x) (is_listed xs y) listed)))

pub none_filter : (p : List ℕ → Bool) (xs : List (List ℕ)) → ((x : List ℕ) → is_listed xs x ≡ true → p x ≡ false) → filter p xs ≡ []
none_filter p xs none = none_listed (filter p xs) (λ q listed.
    let parts = and_parts (is_listed xs q) (p q) (sym (listed_passes p xs q) ∙ listed) in
    true≢false (sym parts.1 ∙ none q parts.0))

-- taking out a key that is held leaves one less
pub one_less : {X : Type 0} (m : map.FinMap bytes_cmp X) (k : List ℕ) → map.contains_key m k ≡ true → map.len (map.remove m k) + 1 ≡ map.len m
one_less m k held =
    let fewer : map.len (map.remove m k) ≡ map.len m - 1 = map.len-remove nat_list_cmp_total m k ∙ ap (λ (b : Bool). cond b (map.len m - 1) (map.len m)) held in
    let some : 1 ≤ map.len m = at_least (map.len m) refl in
    omega (arith, fewer, some)
  where
    at_least : (n : ℕ) → map.len m ≡ n → 1 ≤ n
    at_least zero is = absurd (true≢false (sym held ∙ ap (λ (x : map.FinMap bytes_cmp _). map.contains_key x k) (map.empty_of_len m is) ∙ ap is_some (map.get-empty bytes_cmp k)))
    at_least (suc n) is = omega arith

-- a test that one name less passes
module _ (p q : List ℕ → Bool) (c : List ℕ) (passes : p c ≡ true) (fails : q c ≡ false) (same : (x : List ℕ) → bytes_eq x c ≡ false → q x ≡ p x) where
  pub fewer_length : (xs : List (List ℕ)) → is_distinct xs ≡ true → is_listed xs c ≡ true → length (filter q xs) + 1 ≡ length (filter p xs)
  fewer_length [] distinct listed = absurd (true≢false (sym listed))
  fewer_length (x ∷ xs) distinct listed =
      let parts = and_parts (not (is_listed xs x)) (is_distinct xs) distinct in
      ⊎_elim
      (λ is.
      let rest = same_filter p q xs (λ y later. same y (false_from_ne_true (bytes_eq y c) (λ ties.
      true≢false (sym later ∙ ap (is_listed xs) (equal_bytes y c ties ∙ is) ∙ not-true (is_listed xs x) parts.0)))) in
      let p_x : p x ≡ true = ap p (sym is) ∙ passes in
      let q_x : q x ≡ false = ap q (sym is) ∙ fails in
      let front_q : length (filter q (x ∷ xs)) ≡ length (filter q xs) = ap (λ (b : Bool). length (cond b (x ∷ filter q xs) (filter q xs))) q_x in
      let front_p : length (filter p (x ∷ xs)) ≡ suc (length (filter p xs)) = ap (λ (b : Bool). length (cond b (x ∷ filter p xs) (filter p xs))) p_x in
      omega (arith, front_q, front_p, ap length rest))
      (λ other.
      let later : is_listed xs c ≡ true = sym (ap (λ (b : Bool). b || is_listed xs c) other) ∙ listed in
      let q_x : q x ≡ p x = same x (apart x c other) in
      let rest = fewer_length xs parts.1 later in
      let front_q : length (filter q (x ∷ xs)) ≡ length (cond (p x) (x ∷ filter q xs) (filter q xs)) = ap (λ (b : Bool). length (cond b (x ∷ filter q xs) (filter q xs))) q_x in
      elim (p x) as (λ b. length (filter q (x ∷ xs)) ≡ length (cond b (x ∷ filter q xs) (filter q xs)) → length (filter q (x ∷ xs)) + 1 ≡ length (cond b (x ∷ filter p xs) (filter p xs))) [
        | true ↦ λ front. omega (arith, front, rest)
        | false ↦ λ front. omega (arith, front, rest)
      ] front_q)
      (name_cases c x)
    where
      apart : (x y : List ℕ) → bytes_eq y x ≡ false → bytes_eq x y ≡ false
      apart x y other = false_from_ne_true (bytes_eq x y) (λ ties. true≢false (sym (ap (bytes_eq y) (equal_bytes x y ties) ∙ same_bytes y) ∙ other))

  -- the set of those that pass has one less
  set_fewer : (xs : List (List ℕ)) → set_of (filter q xs) ≡ map.remove (set_of (filter p xs)) c
  set_fewer xs = same_keys (set_of (filter q xs)) (map.remove (set_of (filter p xs)) c) (λ x.
      set_holds (filter q xs) x
      ∙ listed_passes q xs x
      ∙ without_cases (set_of (filter p xs)) c (λ o. (is_listed xs x && q x) ≡ is_some o) x
      (λ is. and_right (is_listed xs x) (q x) (ap q is ∙ fails))
      (λ other. ap (λ (b : Bool). is_listed xs x && b) (same x other) ∙ sym (set_holds (filter p xs) x ∙ listed_passes p xs x)))

  pub fewer_distinct : (xs : List (List ℕ)) → is_listed xs c ≡ true → distinct_count (filter q xs) + 1 ≡ distinct_count (filter p xs)
  fewer_distinct xs listed = ap (λ (m : map.FinMap bytes_cmp (Unit {0})). map.len m + 1) (set_fewer xs)
      ∙ one_less (set_of (filter p xs)) c (set_holds (filter p xs) c ∙ listed_passes p xs c ∙ and_from (is_listed xs c) (p c) listed passes)
