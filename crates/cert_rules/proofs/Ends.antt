-- What the files migrate that are not in a set.
use Rattle.std.proofs.Common.{◌≡◌, ◌+◌, ◌∷◌, [], ℕ, List, Bool, refl, arith, inl, inr}
use Rattle.std.specs.Prelude.{sum_by, not}
use Rattle.std.specs.List.{list_all, list_any}
use Rattle.std.proofs.lemmas.Bool.{cases_Bool}
use Rattle.std.proofs.lemmas.List.Sums.{sum_by-cons}
use Rattle.seed_model.specs.declared.table.Class.{Class}
use Rattle.seed_model.specs.Tables.{TableValue}
use Rattle.seed_model.specs.Sums.{migrated_of, touched_of, total_of}
use Rattle.seed_model.proofs.ClassSums.{counted}

-- the files that are not in a set
abbrev pub others : (ℕ → Bool) → ℕ → Bool
others set file = not (set file)

all_others : (set : ℕ → Bool) (users : List ℕ) → list_all (others set) users ≡ not (list_any set users)
all_others set [] = refl
all_others set (u ∷ us) = elim (cases_Bool (set u)) [ inl t ↦ rw t refl | inr f ↦ rw f (all_others set us) ]

class_parts : (set : ℕ → Bool) (c : Class) → c.size ≡ counted (list_all (others set)) c + counted (list_any set) c
class_parts set c = rw (all_others set c.users) (elim (cases_Bool (list_any set c.users)) [ inl t ↦ rw t (omega arith) | inr f ↦ rw f (omega arith) ])

parts : (set : ℕ → Bool) (classes : List Class) → sum_by (λ (c : Class). c.size) classes ≡ sum_by (counted (list_all (others set))) classes + sum_by (counted (list_any set)) classes
parts set [] = refl
parts set (c ∷ classes) =
    let step : c.size + sum_by (λ (c : Class). c.size) classes ≡ (counted (list_all (others set)) c + sum_by (counted (list_all (others set))) classes) + (counted (list_any set) c + sum_by (counted (list_any set)) classes)
    = omega (arith, class_parts set c, parts set classes) in
    rw (sum_by-cons (λ (c : Class). c.size) c classes, sum_by-cons (counted (list_all (others set))) c classes, sum_by-cons (counted (list_any set)) c classes) step

-- what a set does not touch, the other files migrate
pub untouched : (set : ℕ → Bool) (table : TableValue) → total_of table ≡ migrated_of (others set) table + touched_of set table
untouched set table = parts set table.classes
