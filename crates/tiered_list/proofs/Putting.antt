-- A number put into blocks, block by block.
use Rattle.std.proofs.Common.{◌≡◌, ◌∙◌, ◌+◌, ◌-◌, ◌*◌, ◌/◌, ◌%◌, ◌<◌, ◌≤◌, ◌∷◌, [], ◌++◌, ℕ, List, sym, refl, ap, length, get_or, take, drop, set, arith, inl, inr, length-take, length-drop}
use Rattle.std.specs.List.{concat, insert}
use Rattle.std.proofs.lemmas.Bool.{cases_eq, cases_lt}
use Rattle.std.proofs.lemmas.List.{drop-drop, get_or-set_same, get_or-set_other, length-set}
use Rattle.tiered_list.specs.Inside.{AreParts, AreTiers, part, width}
use Rattle.tiered_list.proofs.Parts.{past, part_long, take_before, length_insert, take_insert, drop_insert, drop_of_insert}

-- the blocks before `index` are done, and a number is still to be put into the one at `index`
pub record IsPutting (old now : List (List ℕ)) (place number index at carried : ℕ) : Type 0 where
  pub inside : at < width
  pub there : index * width + at ≤ length (concat old)
  pub before : (j : ℕ) → j < index → get_or now j [] ≡ part (insert (concat old) place number) j
  pub same : (j : ℕ) → index ≤ j → get_or now j [] ≡ get_or old j []
  pub rest : drop (index * width) (insert (concat old) place number) ≡ insert (drop (index * width) (concat old)) at carried

pub put_start : (old : List (List ℕ)) (place number : ℕ) → AreTiers old → place ≤ length (concat old) → IsPutting old old place number (place / width) (place % width) number
put_start old place number tiers within =
    let xs = concat old in
    let split : place ≡ place / width * width + place % width = omega arith in
    record {
      inside = omega arith;
      there = omega (arith, split, within);
      before = λ j lt. tiers.each j (omega (arith, lt, within, tiers.within)) ∙ sym (take_before width (j * width) place xs (number ∷ drop place xs) (omega (arith, lt)) within);
      same = λ j _. refl;
      rest = ap (λ (n : ℕ). drop (place / width * width) (insert xs n number)) split ∙ drop_of_insert xs (place / width * width) (place % width) number (omega (arith, split, within));
    }

-- the block at `index` is as it was
pub put_here : (old now : List (List ℕ)) (place number index at carried : ℕ) → AreTiers old → IsPutting old now place number index at carried → index < length old → get_or now index [] ≡ part (concat old) index
put_here old now place number index at carried tiers is lt = is.same index (omega arith) ∙ tiers.each index lt

pub put_fits : (old now : List (List ℕ)) (place number index at carried : ℕ) → AreTiers old → IsPutting old now place number index at carried → index < length old → at ≤ length (get_or now index [])
put_fits old now place number index at carried tiers is lt =
    omega (arith, is.inside, is.there, ap length (put_here old now place number index at carried tiers is lt), part_long (concat old) index)

fits : (old now : List (List ℕ)) (place number index at carried : ℕ) → IsPutting old now place number index at carried → at ≤ length (part (concat old) index)
fits old now place number index at carried is = omega (arith, is.inside, is.there, part_long (concat old) index)

-- the block that is done now
put_block : (old now : List (List ℕ)) (place number index at carried : ℕ) (block : List ℕ) → AreTiers old → IsPutting old now place number index at carried → index < length old
    → block ≡ take width (insert (get_or now index []) at carried) → block ≡ part (insert (concat old) place number) index
put_block old now place number index at carried block tiers is lt made =
    made
    ∙ (ap (λ (l : List ℕ). take width (insert l at carried)) (put_here old now place number index at carried tiers is lt)
    ∙ (sym (take_insert width (drop (index * width) (concat old)) at carried (fits old now place number index at carried is)) ∙ ap (take width) (sym is.rest)))

put_before : (old now : List (List ℕ)) (place number index at carried : ℕ) (block : List ℕ) → AreTiers old → IsPutting old now place number index at carried → index < length old → length now ≡ length old
    → block ≡ take width (insert (get_or now index []) at carried) → (j : ℕ) → j < index + 1 → get_or (set now index block) j [] ≡ part (insert (concat old) place number) j
put_before old now place number index at carried block tiers is lt long made j below = elim (cases_eq j index) [
  | inl same ↦
      ap (λ (n : ℕ). get_or (set now index block) n []) same
      ∙ (get_or-set_same now index block [] (omega (arith, lt, long))
      ∙ (put_block old now place number index at carried block tiers is lt made ∙ ap (part (insert (concat old) place number)) (sym same)))
  | inr other ↦ get_or-set_other now index j block [] other ∙ is.before j (omega (arith, below, other))
]

-- a number goes on to the next block
pub put_next : (old now : List (List ℕ)) (place number index at carried : ℕ) (block : List ℕ) (last : ℕ) → AreTiers old → IsPutting old now place number index at carried → index < length old → length now ≡ length old
    → block ≡ take width (insert (get_or now index []) at carried) → last ∷ [] ≡ drop width (insert (get_or now index []) at carried) → IsPutting old (set now index block) place number (index + 1) 0 last
put_next old now place number index at carried block last tiers is lt long made out =
    let xs = concat old in
    let zs = insert xs place number in
    let ys = drop (index * width) xs in
    let le = fits old now place number index at carried is in
    let here = put_here old now place number index at carried tiers is lt in
    let passed : last ∷ [] ≡ drop width (insert (take width ys) at carried) = out ∙ ap (λ (l : List ℕ). drop width (insert l at carried)) here in
    let full : width ≤ length ys = omega (arith, ap length passed, length-drop width (insert (take width ys) at carried), length_insert (take width ys) at carried le, length-take width ys) in
    let next : index * width + width ≡ (index + 1) * width = omega arith in
    record {
      inside = omega arith;
      there = omega (arith, full, length-drop (index * width) xs);
      before = put_before old now place number index at carried block tiers is lt long made;
      same = λ j behind. get_or-set_other now index j block [] (omega (arith, behind)) ∙ is.same j (omega (arith, behind));
      rest = ap (λ (n : ℕ). drop n zs) (sym next)
          ∙ (sym (drop-drop width (index * width) zs)
          ∙ (ap (drop width) is.rest
          ∙ (drop_insert width ys at carried le full
          ∙ (ap (λ (l : List ℕ). l ++ drop width ys) (sym passed)
          ∙ ap (λ (l : List ℕ). last ∷ l) (drop-drop width (index * width) xs ∙ ap (λ (n : ℕ). drop n xs) next)))));
    }

-- no number goes on
pub put_last : (old now : List (List ℕ)) (place number index at carried : ℕ) (block : List ℕ) → AreTiers old → IsPutting old now place number index at carried → index < length old → length now ≡ length old
    → place ≤ length (concat old) → length (concat old) < length old * width
    → block ≡ take width (insert (get_or now index []) at carried) → [] ≡ drop width (insert (get_or now index []) at carried) → AreParts (set now index block) (insert (concat old) place number)
put_last old now place number index at carried block tiers is lt long within room made out =
    let xs = concat old in
    let zs = insert xs place number in
    let ys = drop (index * width) xs in
    let le = fits old now place number index at carried is in
    let here = put_here old now place number index at carried tiers is lt in
    let passed : [] ≡ drop width (insert (take width ys) at carried) = out ∙ ap (λ (l : List ℕ). drop width (insert l at carried)) here in
    let short : length ys < width = omega (arith, ap length passed, length-drop width (insert (take width ys) at carried), length_insert (take width ys) at carried le, length-take width ys) in
    let size = length_insert xs place number within in
    let end : length xs + 1 ≤ (index + 1) * width = omega (arith, short, length-drop (index * width) xs) in
    let many = length-set now index block in
    record {
      each = λ j inside. elim (cases_lt j (index + 1)) [
        | inl below ↦ put_before old now place number index at carried block tiers is lt long made j below
        | inr behind ↦
            get_or-set_other now index j block [] (omega (arith, behind))
            ∙ (is.same j (omega (arith, behind))
            ∙ (tiers.each j (omega (arith, inside, many, long))
            ∙ (past width (j * width) xs (omega (arith, end, behind)) ∙ sym (past width (j * width) zs (omega (arith, end, behind, size))))))
      ];
      within = omega (arith, size, room, many, long);
    }

-- all blocks are done
pub put_end : (old now : List (List ℕ)) (place number index at carried : ℕ) → IsPutting old now place number index at carried → length now ≤ index → length now ≡ length old
    → place ≤ length (concat old) → length (concat old) < length old * width → AreParts now (insert (concat old) place number)
put_end old now place number index at carried is end long within room = record {
  each = λ j inside. is.before j (omega (arith, inside, end));
  within = omega (arith, length_insert (concat old) place number within, room, long);
}
