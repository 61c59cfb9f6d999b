-- A number set in a block.
use Rattle.std.proofs.Common.{◌≡◌, ◌∙◌, ◌+◌, ◌-◌, ◌*◌, ◌/◌, ◌%◌, ◌<◌, ◌≤◌, [], ℕ, List, sym, ap, length, get_or, take, drop, set, arith, inl, inr}
use Rattle.std.specs.List.{concat}
use Rattle.std.proofs.lemmas.Bool.{cases_eq, cases_lt}
use Rattle.std.proofs.lemmas.List.{get_or-set_same, get_or-set_other, length-set, drop-set-add, drop-set-lt, take-set-le}
use Rattle.tiered_list.specs.Inside.{AreParts, AreTiers, part, width}
use Rattle.tiered_list.proofs.Parts.{take_of_set}

-- the parts that do not have the place
apart : (xs : List ℕ) (place y j : ℕ) → (j < place / width → part (set xs place y) j ≡ part xs j) × (place / width < j → part (set xs place y) j ≡ part xs j)
apart xs place y j = (before, behind)
  where
    before : j < place / width → part (set xs place y) j ≡ part xs j
    before lt =
        let s = place - j * width in
        let split : place ≡ j * width + s = omega (arith, lt) in
        ap (λ (n : ℕ). take width (drop (j * width) (set xs n y))) split ∙ (ap (take width) (drop-set-add (j * width) xs s y) ∙ take-set-le width (drop (j * width) xs) s y (omega (arith, lt)))

    behind : place / width < j → part (set xs place y) j ≡ part xs j
    behind lt = ap (take width) (drop-set-lt (j * width) xs place y (omega (arith, lt)))

pub set_parts : (bs : List (List ℕ)) (place y : ℕ) (block : List ℕ) → AreTiers bs → place < length (concat bs) → block ≡ set (get_or bs (place / width) []) (place % width) y
    → AreParts (set bs (place / width) block) (set (concat bs) place y)
set_parts bs place y block tiers within made =
    let xs = concat bs in
    let q = place / width in
    let split : place ≡ q * width + place % width = omega arith in
    let inside : q < length bs = omega (arith, split, within, tiers.within) in
    let many = length-set bs q block in
    let here : block ≡ part (set xs place y) q =
    made
    ∙ (ap (λ (l : List ℕ). set l (place % width) y) (tiers.each q inside)
    ∙ (sym (take_of_set width (drop (q * width) xs) (place % width) y)
    ∙ (ap (take width) (sym (drop-set-add (q * width) xs (place % width) y)) ∙ ap (λ (n : ℕ). take width (drop (q * width) (set xs n y))) (sym split)))) in
    record {
      each = λ j lt. elim (cases_eq j q) [
        | inl same ↦ ap (λ (n : ℕ). get_or (set bs q block) n []) same ∙ (get_or-set_same bs q block [] inside ∙ (here ∙ ap (part (set xs place y)) (sym same)))
        | inr other ↦ get_or-set_other bs q j block [] other ∙ (tiers.each j (omega (arith, lt, many)) ∙ sym (elim (cases_lt j q) [
          | inl before ↦ (apart xs place y j).0 before
          | inr behind ↦ (apart xs place y j).1 (omega (arith, behind, other))
        ]))
      ];
      within = omega (arith, tiers.within, many, length-set xs place y);
    }
