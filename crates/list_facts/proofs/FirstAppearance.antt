-- The first of same items, and one item more.
use Rattle.std.specs.Prelude.{◌⊎◌, ◌||◌, Contains, All, filter, not, if◌then◌else◌}
use Rattle.std.proofs.Common.{◌≡◌, ◌∙◌, ◌∷◌, ◌++◌, [], List, Bool, Option, refl, sym, ap, true, false, inl, inr}
use Rattle.std.specs.Cmp.{IsEquivalence}
use Rattle.std.specs.List.{list_any, position_or_len, filter_map}
use Rattle.std.proofs.lemmas.Bool.{cases_Bool}
use Rattle.std.proofs.lemmas.List.{append-nil}
use Rattle.std.proofs.lemmas.List.Folds.{list_any-append}
use Rattle.std.proofs.lemmas.List.Elements.{All-head, All-tail, Contains-push_cases, filter-append}
use Rattle.list_facts.specs.Firsts.{firsts, with_new}

-- what passes stays when an item goes last, and so does the last one
pub any_before : {X : Type 0} (p : X → Bool) (xs : List X) (x : X) → list_any p xs ≡ true → list_any p (xs ++ x ∷ []) ≡ true
any_before p xs x h = list_any-append p xs (x ∷ []) ∙ rw h refl

pub any_last : {X : Type 0} (p : X → Bool) (xs : List X) (x : X) → p x ≡ true → list_any p (xs ++ x ∷ []) ≡ true
any_last p xs x h = list_any-append p xs (x ∷ []) ∙ rw h (or_true (list_any p xs))
  where
    or_true : (b : Bool) → (b || true) ≡ true
    or_true true = refl
    or_true false = refl

-- what a filter keeps passes a test that it implies
any-filter : {X : Type 0} (p q : X → Bool) → ((x : X) → q x ≡ true → p x ≡ true) → (xs : List X) → list_any q (filter p xs) ≡ list_any q xs
any-filter p q keeps [] = refl
any-filter p q keeps (x ∷ xs) = elim (cases_Bool (q x)) [
  | inl t ↦ let k = keeps x t in rw (k, t) refl
  | inr f ↦ elim (cases_Bool (p x)) [
    | inl k ↦ rw (k, f, any-filter p q keeps xs) refl
    | inr n ↦ rw (n, f, any-filter p q keeps xs) refl
  ]
]

-- one item more
push_other : {X : Type 0} (same : X → X → Bool) (x y : X) (front : List X) → IsEquivalence same → same x y ≡ false
    → filter (λ z. not (same x z)) (with_new (same y) front y) ≡ with_new (same y) (filter (λ z. not (same x z)) front) y
push_other same x y front laws other =
    let flipped : same y x ≡ false = laws.symm y x ∙ other in
    let kept = any-filter (λ z. not (same x z)) (same y)
    (λ z t. ap not (laws.symm x z ∙ (sym (laws.congr y z x t) ∙ flipped))) front in
    elim (cases_Bool (list_any (same y) front)) [
      | inl t ↦ let k = kept ∙ t in rw (t, k) refl
      | inr f ↦ let k = kept ∙ f in rw (f, k) (filter-append (λ z. not (same x z)) front (y ∷ []) ∙ rw other refl)
    ]

push_same : {X : Type 0} (same : X → X → Bool) (x y : X) (front : List X) → same x y ≡ true
    → filter (λ z. not (same x z)) (with_new (same y) front y) ≡ filter (λ z. not (same x z)) front
push_same same x y front alike = elim (cases_Bool (list_any (same y) front)) [
  | inl t ↦ rw t refl
  | inr f ↦ rw f (filter-append (λ z. not (same x z)) front (y ∷ []) ∙ rw alike (append-nil (filter (λ z. not (same x z)) front)))
]

pub firsts-push : {X : Type 0} (same : X → X → Bool) → IsEquivalence same → (xs : List X) (y : X) → firsts same (xs ++ y ∷ []) ≡ with_new (same y) (firsts same xs) y
firsts-push same laws [] y = refl
firsts-push same laws (x ∷ xs) y =
    ap (λ t. x ∷ filter (λ z. not (same x z)) t) (firsts-push same laws xs y)
    ∙ elim (cases_Bool (same x y)) [
      | inl t ↦ let flipped : same y x ≡ true = laws.symm y x ∙ t in rw (push_same same x y (firsts same xs) t, flipped) refl
      | inr f ↦ let flipped : same y x ≡ false = laws.symm y x ∙ f in rw (push_other same x y (firsts same xs) laws f, flipped) (behind (list_any (same y) (filter (λ z. not (same x z)) (firsts same xs))) x (filter (λ z. not (same x z)) (firsts same xs)) y)
    ]
  where
    behind : {X : Type 0} (b : Bool) (x : X) (front : List X) (y : X) → x ∷ (if b then front else front ++ y ∷ []) ≡ (if b then x ∷ front else (x ∷ front) ++ y ∷ [])
    behind true x front y = refl
    behind false x front y = refl

-- an item that is there stays, at its place
pub any_with_new : {X : Type 0} (p q : X → Bool) (xs : List X) (y : X) → list_any p xs ≡ true → list_any p (with_new q xs y) ≡ true
any_with_new p q xs y there = elim (cases_Bool (list_any q xs)) [ inl t ↦ rw t there | inr f ↦ rw f (any_before p xs y there) ]

place_before : {X : Type 0} (p : X → Bool) (xs ys : List X) → list_any p xs ≡ true → position_or_len p (xs ++ ys) ≡ position_or_len p xs
place_before p [] ys there = cc there
place_before p (x ∷ xs) ys there = elim (cases_Bool (p x)) [
  | inl t ↦ rw t refl
  | inr f ↦ rw f (let rest = place_before p xs ys (rw f at there) in rw rest refl)
]

pub place_with_new : {X : Type 0} (p q : X → Bool) (xs : List X) (y : X) → list_any p xs ≡ true → position_or_len p (with_new q xs y) ≡ position_or_len p xs
place_with_new p q xs y there = elim (cases_Bool (list_any q xs)) [ inl t ↦ rw t refl | inr f ↦ rw f (place_before p xs (y ∷ []) there) ]

-- and the one that is added is there
pub any_new : {X : Type 0} (q : X → Bool) (xs : List X) (y : X) → q y ≡ true → list_any q (with_new q xs y) ≡ true
any_new q xs y alike = elim (cases_Bool (list_any q xs)) [ inl t ↦ rw t t | inr f ↦ rw f (any_last q xs y alike) ]

pub contains_with_new : {X : Type 0} (q : X → Bool) (xs : List X) (y z : X) → Contains (with_new q xs y) z → Contains xs z ⊎ ((list_any q xs ≡ false) × (y ≡ z))
contains_with_new q xs y z there = elim (cases_Bool (list_any q xs)) [
  | inl t ↦ inl (rw t at there)
  | inr f ↦ elim (Contains-push_cases xs y z (rw f at there)) [ inl old ↦ inl old | inr last ↦ inr (f, last) ]
]

-- two functions that agree on a list
pub filter_map-same : {X Y : Type 0} (f g : X → Option Y) (xs : List X) → All (λ x. f x ≡ g x) xs → filter_map f xs ≡ filter_map g xs
filter_map-same f g [] h = refl
filter_map-same {X} f g (x ∷ xs) h =
    let head : f x ≡ g x = All-head (λ (x : X). f x ≡ g x) x xs h in
    let tail = filter_map-same f g xs (All-tail (λ (x : X). f x ≡ g x) x xs h) in
    rw (head, tail) refl
