-- Pairs that come file by file stay so when one more comes, and tell by the latest files which pairs they are.
use Rattle.std.specs.Prelude.{◌&&◌, ◌||◌, ◌⊎◌, Option}
use Rattle.std.proofs.Common.{◌≡◌, ◌≢◌, ◌∙◌, ◌∷◌, ◌++◌, ◌<◌, [], ℕ, zero, suc, List, Bool, Some, None, eqb, refl, sym, ap, subst, true, false, length, take, get_or, set, inl, inr, arith}
use Rattle.std.specs.Cmp.{IsEquivalence}
use Rattle.std.specs.List.{IsDistinct, list_any}
use Rattle.std.proofs.lemmas.Bool.{cases_Bool, cases_eq, eq-eqb, eqb-true, ne_eqb}
use Rattle.std.proofs.lemmas.List.{get_or-set_other, get_or-set_same}
use Rattle.std.proofs.lemmas.List.Elements.{All-from_recursion}
use Rattle.std.proofs.lemmas.List.Folds.{list_any-append}
use Rattle.std.proofs.lemmas.Map.Keys.{IsDistinct-push, IsDistinct-head, IsDistinct-tail}
use Rattle.recipe_reader.specs.Grouped.{IsGrouped, IsLast, latest_of}
use Rattle.recipe_reader.specs.Recipes.{is_pair}
use Rattle.list_facts.proofs.FirstAppearance.{any_before, any_last}
use Rattle.recipe_reader.proofs.Keeping.{pair_equiv}

pub no_groups : IsGrouped [] [] 0
unfolding IsDistinct
no_groups = record {
  differ = tt;
  below = λ file chunk there. absurd (cc there);
  noted = λ file chunk there. absurd (cc there);
  stands = λ file chunk late. absurd (cc late);
}

-- a pair of the last file stands where that file is the latest one of its chunk
pub known_late : (pairs : List (ℕ × ℕ)) (latest : List (Option ℕ)) (last file chunk late : ℕ) → IsGrouped pairs latest last → IsLast file pairs → latest_of latest chunk ≡ Some late
    → eqb late file ≡ list_any (is_pair file chunk) pairs
known_late pairs latest last file chunk late h is_last noted = elim (cases_eq late file) [
  | inl same ↦ eq-eqb late file same ∙ sym (subst (λ (f : ℕ). list_any (is_pair f chunk) pairs ≡ true) same (h.stands late chunk noted))
  | inr other ↦ ne_eqb late file other ∙ elim (cases_Bool (list_any (is_pair file chunk) pairs)) [
    | inl there ↦
        let found = h.noted file chunk there in
        let lates : found.0 ≡ late = cc (sym found.1 ∙ noted) in
        let before = is_last late chunk (h.stands late chunk noted) in
        absurd (other (omega (arith, lates, found.2, before)))
    | inr none ↦ sym none
  ]
]

pub known_none : (pairs : List (ℕ × ℕ)) (latest : List (Option ℕ)) (last file chunk : ℕ) → IsGrouped pairs latest last → latest_of latest chunk ≡ None
    → false ≡ list_any (is_pair file chunk) pairs
known_none pairs latest last file chunk h none = elim (cases_Bool (list_any (is_pair file chunk) pairs)) [
  | inl there ↦ let found = h.noted file chunk there in absurd (cc (found.1, none))
  | inr out ↦ sym out
]

-- a pair among those and one more is among those, or it is that one
among : (pairs : List (ℕ × ℕ)) (file chunk f c : ℕ) → list_any (is_pair f c) (pairs ++ (file, chunk) ∷ []) ≡ true
    → (list_any (is_pair f c) pairs ≡ true) ⊎ ((f ≡ file) × (c ≡ chunk))
among pairs file chunk f c there = elim (cases_Bool (list_any (is_pair f c) pairs)) [
  | inl old ↦ inl old
  | inr none ↦ inr (both (eqb f file) (eqb c chunk) refl refl (last_one none))
]
  where
    last_one : list_any (is_pair f c) pairs ≡ false → (eqb f file && eqb c chunk) ≡ true
    last_one none = or_false (eqb f file && eqb c chunk) (rw none at (sym (list_any-append (is_pair f c) pairs ((file, chunk) ∷ [])) ∙ there))
      where
        or_false : (b : Bool) → (b || false) ≡ true → b ≡ true
        or_false true e = refl
        or_false false e = e

    both : (a b : Bool) → eqb f file ≡ a → eqb c chunk ≡ b → (a && b) ≡ true → (f ≡ file) × (c ≡ chunk)
    both true true p q e = (eqb-true f file p, eqb-true c chunk q)
    both true false p q e = absurd (cc e)
    both false b p q e = absurd (cc e)

-- one pair of the last file more
pub grouped_more : (pairs : List (ℕ × ℕ)) (latest wider : List (Option ℕ)) (last file chunk : ℕ) → IsGrouped pairs latest last → IsLast file pairs
    → list_any (is_pair file chunk) pairs ≡ false → ((c : ℕ) → latest_of wider c ≡ latest_of latest c) → chunk < length wider
    → IsGrouped (pairs ++ (file, chunk) ∷ []) (set wider chunk (Some file)) file
grouped_more pairs latest wider last file chunk h is_last new same place = record {
  differ = IsDistinct-push pair_equiv pairs (file, chunk) h.differ new;
  below = below;
  noted = λ f c there. elim (cases_eq c chunk) [
    | inl here ↦ (file, at_chunk c here, below f c there)
    | inr other ↦ elim (among pairs file chunk f c there) [
      | inl old ↦ let found = h.noted f c old in (found.0, elsewhere c other ∙ found.1, found.2)
      | inr this ↦ absurd (other this.1)
    ]
  ];
  stands = λ f c late. elim (cases_eq c chunk) [
    | inl here ↦
        let files : file ≡ f = cc (sym (at_chunk c here) ∙ late) in
        any_last (is_pair f c) pairs (file, chunk) (pair_is f c files here)
    | inr other ↦ any_before (is_pair f c) pairs (file, chunk) (h.stands f c (sym (elsewhere c other) ∙ late))
  ];
}
  where
    below : IsLast file (pairs ++ (file, chunk) ∷ [])
    below f c there = elim (among pairs file chunk f c there) [ inl old ↦ is_last f c old | inr this ↦ omega (arith, this.0) ]

    at_chunk : (c : ℕ) → c ≡ chunk → latest_of (set wider chunk (Some file)) c ≡ Some file
    at_chunk c here = ap (λ (k : ℕ). latest_of (set wider chunk (Some file)) k) here ∙ get_or-set_same wider chunk (Some file) None place

    elsewhere : (c : ℕ) → c ≢ chunk → latest_of (set wider chunk (Some file)) c ≡ latest_of latest c
    elsewhere c other = get_or-set_other wider chunk c (Some file) None other ∙ same c

    pair_is : (f c : ℕ) → file ≡ f → c ≡ chunk → is_pair f c (file, chunk) ≡ true
    pair_is f c files here = rw (eq-eqb f file (sym files), eq-eqb c chunk here) refl

-- of distinct items none stands before itself
pub not_before : {X : Type 0} (same : X → X → Bool) → IsEquivalence same → (xs : List X) (i : ℕ) (d : X) → IsDistinct same xs → i < length xs → list_any (same (get_or xs i d)) (take i xs) ≡ false
not_before same laws [] i d differ h = absurd (omega (arith, h))
not_before same laws (x ∷ xs) zero d differ h = refl
not_before same laws (x ∷ xs) (suc i) d differ h =
    let item = get_or xs i d in
    let head : same item x ≡ false = laws.symm item x ∙ All-from_recursion (λ y. same x y ≡ false) xs (IsDistinct-head same x xs differ) i d (omega (arith, h)) in
    rw head (not_before same laws xs i d (IsDistinct-tail same x xs differ) (omega (arith, h)))
