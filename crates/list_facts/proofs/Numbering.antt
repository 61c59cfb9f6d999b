-- Look-ups by a test, and items put last.
use Rattle.std.specs.Prelude.{map, not, position, nat_lt, if◌then◌else◌}
use Rattle.std.proofs.Common.{◌≡◌, ◌∙◌, ◌∷◌, ◌++◌, ◌+◌, ◌<◌, [], ℕ, suc, List, Bool, Some, None, Option, refl, sym, ap, true, false, length, slice_get, get_or, cond, inl, inr, arith}
use Rattle.std.specs.List.{IsDistinct, list_any, position_or_len}
use Rattle.std.proofs.lemmas.Bool.{cases_Bool}
use Rattle.std.proofs.lemmas.List.{map-append}
use Rattle.std.proofs.lemmas.List.Sums.{position_or_len_is}
use Rattle.std.proofs.lemmas.Map.Keys.{apart_from_distinct}
use Rattle.std.proofs.lemmas.Option.{slice_get_within, get_or_from_slice_get}
use Rattle.std.proofs.lemmas.Bool.Decides.{nat_tests}
use Rattle.list_facts.specs.Firsts.{IsNumberOf}

-- a test of items that are seen by a view
pub list_any-map : {A B : Type 0} (v : A → B) (p : B → Bool) (xs : List A) → list_any p (map v xs) ≡ list_any (λ x. p (v x)) xs
list_any-map v p [] = refl
list_any-map v p (x ∷ xs) = rw (list_any-map v p xs) refl

pub place-map : {A B : Type 0} (v : A → B) (p : B → Bool) (xs : List A) → position_or_len p (map v xs) ≡ position_or_len (λ x. p (v x)) xs
place-map v p [] = refl
place-map v p (x ∷ xs) = ap (λ (n : ℕ). cond (not (p (v x))) (1 + n) 0) (place-map v p xs)

-- the first item that passes, at its place
pub record IsPlace {A : Type 0} (p : A → Bool) (xs : List A) (i : ℕ) : Type 0 where
  pub within : i < length xs
  pub item : A
  pub at : slice_get xs i ≡ Some item
  pub passes : p item ≡ true

pub place : {A : Type 0} (p : A → Bool) (xs : List A) → list_any p xs ≡ true → IsPlace p xs (position_or_len p xs)
place p [] e = cc e
place p (x ∷ xs) e = elim (cases_Bool (p x)) [
  | inl t ↦ rw t record { within = omega arith; item = x; at = refl; passes = t }
  | inr f ↦
      let r = place p xs (rw f at e) in
      let one : 1 + position_or_len p xs ≡ suc (position_or_len p xs) = omega arith in
      rw (f, one) record { within = omega (arith, r.within); item = r.item; at = r.at; passes = r.passes }
]

pub no_place : {A : Type 0} (p : A → Bool) (xs : List A) → list_any p xs ≡ false → position_or_len p xs ≡ length xs
no_place p [] e = refl
no_place p (x ∷ xs) e = elim (cases_Bool (p x)) [
  | inl t ↦ cc (rw t at e)
  | inr f ↦ rw f (omega (arith, no_place p xs (rw f at e)))
]

-- what `position` tells
pub number_of : {A : Type 0} (p : A → Bool) (xs : List A) (o : Option ℕ) → o ≡ position p xs → IsNumberOf p xs o
number_of p xs None e = elim (cases_Bool (list_any p xs)) [
  | inl t ↦
      let r = place p xs t in
      let lt : nat_lt (position_or_len p xs) (length xs) ≡ true = grind (arith, nat_tests, r.within) in
      cc (rw lt at e)
  | inr f ↦ f
]
number_of p xs (Some i) e = elim (cases_Bool (list_any p xs)) [
  | inl t ↦
      let r = place p xs t in
      let lt : nat_lt (position_or_len p xs) (length xs) ≡ true = grind (arith, nat_tests, r.within) in
      (t, cc (rw lt at e))
  | inr f ↦
      let n = no_place p xs f in
      let lt : nat_lt (position_or_len p xs) (length xs) ≡ false = grind (arith, nat_tests, n) in
      cc (rw lt at e)
]

-- among distinct items, one that passes is the first that does
pub number_of_only : {A : Type 0} (same : A → A → Bool) (p : A → Bool) (xs : List A) (i : ℕ) (x : A) → IsDistinct same xs → ((y : A) → p y ≡ true → same y x ≡ true)
    → slice_get xs i ≡ Some x → p x ≡ true → IsNumberOf p xs (Some i)
number_of_only same p xs i x distinct alike at passes =
    let within : i < length xs = slice_get_within xs i x at in
    let found : get_or xs i x ≡ x = get_or_from_slice_get xs i x x at in
    let first : position_or_len p xs ≡ i = position_or_len_is p xs i x (omega (arith, within)) (λ k below. elim (cases_Bool (p (get_or xs k x))) [
      | inl t ↦ cc (alike (get_or xs k x) t, rw found at (apart_from_distinct same xs k i x distinct below within))
      | inr f ↦ f
    ]) (λ _. rw found passes) in
    let there : list_any p xs ≡ true = elim (cases_Bool (list_any p xs)) [
      | inl t ↦ t
      | inr f ↦ let none = no_place p xs f in absurd (omega (arith, none, first, within))
    ] in
    (there, sym first)

-- the same of items that are seen by a view
pub to_view : {A B : Type 0} (v : A → B) (p : B → Bool) (xs : List A) (o : Option ℕ) → IsNumberOf (λ x. p (v x)) xs o → IsNumberOf p (map v xs) o
to_view v p xs None h = list_any-map v p xs ∙ h
to_view v p xs (Some i) h = (list_any-map v p xs ∙ h.0, h.1 ∙ sym (place-map v p xs))

pub from_view : {A B : Type 0} (v : A → B) (p : B → Bool) (xs : List A) (o : Option ℕ) → IsNumberOf p (map v xs) o → IsNumberOf (λ x. p (v x)) xs o
from_view v p xs None h = sym (list_any-map v p xs) ∙ h
from_view v p xs (Some i) h = (sym (list_any-map v p xs) ∙ h.0, h.1 ∙ place-map v p xs)

pub number_of_view : {A B : Type 0} (v : A → B) (p : B → Bool) (xs : List A) (o : Option ℕ) → o ≡ position (λ x. p (v x)) xs → IsNumberOf p (map v xs) o
number_of_view v p xs o e = to_view v p xs o (number_of (λ x. p (v x)) xs o e)

-- a new item goes last
pub put_last : {A : Type 0} (p : A → Bool) (old new : List A) (x : A) → list_any p old ≡ false → new ≡ (if list_any p old then old else old ++ x ∷ []) → new ≡ old ++ x ∷ []
put_last p old new x none put = rw none at put

pub put_last_view : {A B : Type 0} (v : A → B) (p : B → Bool) (old new : List A) (x : A) → list_any p (map v old) ≡ false
    → new ≡ (if list_any (λ y. p (v y)) old then old else old ++ x ∷ []) → map v new ≡ map v old ++ v x ∷ []
put_last_view v p old new x none put = ap (map v) (put_last (λ y. p (v y)) old new x (sym (list_any-map v p old) ∙ none) put) ∙ map-append v old (x ∷ [])
