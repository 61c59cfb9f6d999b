-- Users, searched for.
use Rattle.std.specs.Prelude.{◌==◌, ◌↔◌, IsTrue, MatchResult}
use Rattle.std.proofs.Common.{◌≡◌, ◌∙◌, ◌<◌, ◌≤◌, ℕ, zero, suc, List, Bool, true, Result, Ok, Err, All, length, get_or, refl, sym, subst, inl, inr, arith, add-one, eq-eqb}
use Rattle.std.specs.List.{list_any}
use Rattle.std.specs.List.Sorted.{IsStrictlyIncreasing, IsBinarySearchResult}
use Rattle.std.specs.Ordering.{nat_cmp}
use Rattle.std.specs.Result.{is_ok}
use Rattle.std.proofs.lemmas.Bool.{cases_lt, eqb-true}
use Rattle.std.proofs.lemmas.Grind.{get_or_default_zero}
use Rattle.std.proofs.lemmas.List.Folds.{Any-from_list_any, list_any_at}
use Rattle.std.proofs.lemmas.List.Sorted.{searched}
use Rattle.seed_model.specs.Keys.{class_at}
use Rattle.seed_model.specs.Tables.{TableValue}
use Rattle.bound_cert.specs.Judgements.{give_of}
use Rattle.bound_cert.specs.Multipliers.{IsGive}

-- numbers that rise do not fall
rising : (xs : List ℕ) → IsStrictlyIncreasing xs → (i j : ℕ) → i ≤ j → j < length xs → get_or xs i 0 ≤ get_or xs j 0
rising xs up i zero le lt = let at : i ≡ 0 = omega arith in rw at (omega arith)
rising xs up i (suc j) le lt = elim (cases_lt j i) [
  | inl gt ↦ let at : i ≡ suc j = omega arith in rw at (omega arith)
  | inr le' ↦ let step : get_or xs j 0 < get_or xs (suc j) 0 = rw add-one at (up j (omega arith)) in omega (arith, rising xs up i j le' (omega arith), step)
]

-- what a search among the users of a class found
search_found : (table : TableValue) (class file charge reward : ℕ) (xs : List ℕ) (r : Result ℕ ℕ) → class < length table.classes → xs ≡ (class_at table.classes class).users → All (λ f. f < table.files) xs
    → MatchResult r (λ i. (i < length xs) × (get_or xs i 0 ≡ file)) (λ i. (i ≤ length xs) × ((k : ℕ) → k < i → get_or xs k 0 < file) × ((k : ℕ) → i ≤ k → k < length xs → file < get_or xs k 0))
    → IsTrue (is_ok r) ↔ IsGive table (give_of class file charge reward)
search_found table class file charge reward xs (Ok i) known same below found = (
  λ h.
      let there : list_any (λ user. user == file) xs ≡ true = list_any_at (λ user. user == file) xs i 0 found.0 (eq-eqb (get_or xs i 0) file found.1) in
      record { known = known; file = subst (λ f. f < table.files) found.1 (below i 0 found.0); user = subst (λ us. list_any (λ user. user == file) us ≡ true) same there },
  λ g. refl,
)
search_found table class file charge reward xs (Err i) known same below none = (
  λ h. cc h,
  λ g.
      let any = Any-from_list_any (λ user. user == file) xs (subst (λ us. list_any (λ user. user == file) us ≡ true) (sym same) g.user) in
      let k = any.0 in
      let at : get_or xs k 0 ≡ file = sym (get_or_default_zero xs k any.1 any.2) ∙ (any.3 ∙ eqb-true any.1 file any.4) in
      absurd (elim (cases_lt k i) [
        | inl lt ↦ let less = none.1 k lt in omega (arith, less, at)
        | inr ge ↦ let more = none.2 k ge any.2 in omega (arith, more, at)
      ]),
)

pub used : (table : TableValue) (class file charge reward : ℕ) (xs : List ℕ) (b : Bool) (r : Result ℕ ℕ) → b ≡ is_ok r → class < length table.classes → xs ≡ (class_at table.classes class).users
    → IsStrictlyIncreasing xs → All (λ f. f < table.files) xs → IsBinarySearchResult (λ y. nat_cmp y file) xs r → IsTrue b ↔ IsGive table (give_of class file charge reward)
used table class file charge reward xs b r e known same up below found =
    subst (λ t. IsTrue t ↔ IsGive table (give_of class file charge reward)) (sym e) (search_found table class file charge reward xs r known same below (searched xs file r found (rising xs up)))
