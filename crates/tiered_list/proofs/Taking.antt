-- A number taken out of blocks, block by block from the last one.
use Rattle.std.proofs.Common.{◌≡◌, ◌∙◌, ◌+◌, ◌-◌, ◌*◌, ◌/◌, ◌%◌, ◌<◌, ◌≤◌, ◌∷◌, [], ◌++◌, ℕ, List, sym, refl, ap, length, get_or, take, drop, set, arith, inl, inr, length-take, length-drop}
use Rattle.std.specs.Prelude.{suc}
use Rattle.std.specs.List.{concat, remove}
use Rattle.std.proofs.lemmas.Bool.{cases_eq, cases_lt}
use Rattle.std.proofs.lemmas.List.{drop-drop, get_or-take, get_or-set_same, get_or-set_other, length-set}
use Rattle.tiered_list.specs.Inside.{AreParts, AreTiers, part, width}
use Rattle.tiered_list.proofs.Parts.{past, part_long, part_read, take_before, length_remove, drop_of_remove, drop_behind_remove, take_remove, take_one}

-- the blocks from `index` on have passed their first number on
pub record IsShifting (old now : List (List ℕ)) (first end index : ℕ) (next : List ℕ) : Type 0 where
  pub order : first ≤ index
  pub within : index ≤ end
  pub before : (j : ℕ) → j < index → get_or now j [] ≡ get_or old j []
  pub behind : (j : ℕ) → index ≤ j → j < length old → get_or now j [] ≡ take width (drop (j * width + 1) (concat old))
  pub given : next ≡ take 1 (drop (index * width) (concat old))

pub shift_start : (old : List (List ℕ)) (first end : ℕ) → AreTiers old → first ≤ end → length (concat old) ≤ end * width → IsShifting old old first end end []
shift_start old first end tiers order all = record {
  order = order;
  within = omega arith;
  before = λ j _. refl;
  behind = λ j after lt. tiers.each j lt ∙ (past width (j * width) (concat old) (omega (arith, all, after)) ∙ sym (past width (j * width + 1) (concat old) (omega (arith, all, after))));
  given = sym (past 1 (end * width) (concat old) all);
}

-- the block before `index` is as it was, and has a number
pub shift_here : (old now : List (List ℕ)) (first end index : ℕ) (next : List ℕ) → AreTiers old → IsShifting old now first end index next → end ≤ length old → 0 < index → get_or now (index - 1) [] ≡ part (concat old) (index - 1)
shift_here old now first end index next tiers is fits some = is.before (index - 1) (omega (arith, some)) ∙ tiers.each (index - 1) (omega (arith, some, is.within, fits))

pub shift_some : (old now : List (List ℕ)) (first end index : ℕ) (next : List ℕ) → AreTiers old → IsShifting old now first end index next → end ≤ length old → 0 < index → end * width < length (concat old) + width
    → 0 < length (get_or now (index - 1) [])
shift_some old now first end index next tiers is fits some tight =
    omega (arith, some, tight, is.within, ap length (shift_here old now first end index next tiers is fits some), part_long (concat old) (index - 1))

pub shift_more : (old now : List (List ℕ)) (first end index : ℕ) (next block : List ℕ) (out : ℕ) → AreTiers old → IsShifting old now first end index next → end ≤ length old → length now ≡ length old → first < index
    → end * width < length (concat old) + width → block ≡ remove (get_or now (index - 1) []) 0 ++ next → out ≡ get_or (get_or now (index - 1) []) 0 0
    → IsShifting old (set now (index - 1) block) first end (index - 1) (out ∷ [])
shift_more old now first end index next block out tiers is fits long more tight made read =
    let xs = concat old in
    let i = index - 1 in
    let ys = drop (i * width) xs in
    let some : 0 < index = omega (arith, more) in
    let here = shift_here old now first end index next tiers is fits some in
    let filled : 0 < length ys = omega (arith, some, tight, is.within, length-drop (i * width) xs) in
    let after : i * width + width ≡ index * width = omega (arith, some) in
    let given : next ≡ take 1 (drop width ys) = is.given ∙ ap (take 1) (ap (λ (n : ℕ). drop n xs) (sym after) ∙ sym (drop-drop width (i * width) xs)) in
    let done : block ≡ take width (drop (i * width + 1) xs) =
    made
    ∙ ((λ k. remove (here k) 0 ++ given k)
    ∙ (sym (take_remove width ys 0 (omega arith) (omega arith)) ∙ ap (take width) (drop-drop 1 (i * width) xs))) in
    record {
      order = omega (arith, more);
      within = omega (arith, is.within);
      before = λ j lt. get_or-set_other now i j block [] (omega (arith, lt)) ∙ is.before j (omega (arith, lt, some));
      behind = λ j after_i lt. elim (cases_eq j i) [
        | inl same ↦
            ap (λ (n : ℕ). get_or (set now i block) n []) same
            ∙ (get_or-set_same now i block [] (omega (arith, same, lt, long)) ∙ (done ∙ ap (λ (n : ℕ). take width (drop (n * width + 1) xs)) (sym same)))
        | inr other ↦ get_or-set_other now i j block [] other ∙ is.behind j (omega (arith, after_i, other)) lt
      ];
      given = ap (λ (n : ℕ). n ∷ []) (read ∙ (ap (λ (l : List ℕ). get_or l 0 0) here ∙ get_or-take width ys 0 0 (omega arith))) ∙ sym (take_one ys filled);
    }

-- the block of the place, once those behind it have passed a number on
pub record HasShifted (old now : List (List ℕ)) (first : ℕ) (next : List ℕ) : Type 0 where
  pub before : (j : ℕ) → j < first → get_or now j [] ≡ get_or old j []
  pub behind : (j : ℕ) → first ≤ j → j < length old → get_or now j [] ≡ take width (drop (j * width + 1) (concat old))
  pub given : next ≡ take 1 (drop (first * width) (concat old))

pub take_here : (old now : List (List ℕ)) (place : ℕ) (next : List ℕ) → AreTiers old → HasShifted old now (place / width + 1) next → place < length (concat old) → get_or now (place / width) [] ≡ part (concat old) (place / width)
take_here old now place next tiers has within = has.before (place / width) (omega arith) ∙ tiers.each (place / width) (omega (arith, within, tiers.within))

pub take_some : (old now : List (List ℕ)) (place : ℕ) (next : List ℕ) → AreTiers old → HasShifted old now (place / width + 1) next → place < length (concat old) → place % width < length (get_or now (place / width) [])
take_some old now place next tiers has within = omega (arith, within, ap length (take_here old now place next tiers has within), part_long (concat old) (place / width))

pub take_read : (old now : List (List ℕ)) (place : ℕ) (next : List ℕ) (out : ℕ) → AreTiers old → HasShifted old now (place / width + 1) next → place < length (concat old)
    → out ≡ get_or (get_or now (place / width) []) (place % width) 0 → out ≡ get_or (concat old) place 0
take_read old now place next out tiers has within read =
    let split : place / width * width + place % width ≡ place = omega arith in
    read
    ∙ (ap (λ (l : List ℕ). get_or l (place % width) 0) (take_here old now place next tiers has within)
    ∙ (part_read (concat old) (place / width) (place % width) (omega arith) ∙ ap (λ (n : ℕ). get_or (concat old) n 0) split))

pub take_parts : (old now : List (List ℕ)) (place : ℕ) (next block : List ℕ) → AreTiers old → HasShifted old now (place / width + 1) next → length now ≡ length old → place < length (concat old)
    → block ≡ remove (get_or now (place / width) []) (place % width) ++ next → AreParts (set now (place / width) block) (remove (concat old) place)
take_parts old now place next block tiers has long within made =
    let xs = concat old in
    let q = place / width in
    let r = place % width in
    let zs = remove xs place in
    let ys = drop (q * width) xs in
    let split : q * width + r ≡ place = omega arith in
    let small : r < width = omega arith in
    let inside : q < length old = omega (arith, split, within, tiers.within) in
    let here = take_here old now place next tiers has within in
    let after : q * width + width ≡ (q + 1) * width = omega arith in
    let given : next ≡ take 1 (drop width ys) = has.given ∙ ap (take 1) (ap (λ (n : ℕ). drop n xs) (sym after) ∙ sym (drop-drop width (q * width) xs)) in
    let done : block ≡ part zs q =
    made
    ∙ ((λ k. remove (here k) r ++ given k)
    ∙ (sym (take_remove width ys r small (omega (arith, split, within, length-drop (q * width) xs)))
    ∙ (ap (take width) (sym (drop_of_remove xs (q * width) r (omega (arith, split, within)))) ∙ ap (λ (n : ℕ). take width (drop (q * width) (remove xs n))) split))) in
    let many = length-set now q block in
    record {
      each = λ j lt. elim (cases_eq j q) [
        | inl same ↦ ap (λ (n : ℕ). get_or (set now q block) n []) same ∙ (get_or-set_same now q block [] (omega (arith, inside, long)) ∙ (done ∙ ap (part zs) (sym same)))
        | inr other ↦ get_or-set_other now q j block [] other ∙ elim (cases_lt j q) [
          | inl before ↦
              has.before j (omega (arith, before))
              ∙ (tiers.each j (omega (arith, before, inside)) ∙ sym (take_before width (j * width) place xs (drop (suc place) xs) (omega (arith, before, split)) (omega (arith, within))))
          | inr behind ↦
              has.behind j (omega (arith, behind, other)) (omega (arith, lt, many, long))
              ∙ ap (take width) (sym (drop_behind_remove xs (j * width) place (omega (arith, behind, other, split, small)) (omega (arith, within))))
        ]
      ];
      within = omega (arith, length_remove xs place within, tiers.within, many, long);
    }
