-- Marks of the places that a touch covers.
use Rattle.std.proofs.Common.{◌≡◌, ◌⊎◌, inl, inr, ℕ, ◌+◌, ◌-◌, ◌<◌, ◌≤◌, List, Bool, true, false, length, take, drop, replicate, get_or, sym, ◌∙◌, ap, arith}
use Rattle.std.specs.Prelude.{◌||◌, if◌then◌else◌}
use borrow.Rule.Slice.PartMut.{put_mid}
use Rattle.std.proofs.lemmas.Bool.{cond-true, cond-false}
use Rattle.std.proofs.lemmas.List.{length-replicate, length-take, length-drop, get_or-replicate, get_or-take, get_or-drop}
use Rattle.volume_disk.specs.Medium.{is_within, overwritten}
use Rattle.volume_disk.specs.Edited.{overwritten_outside}
use Rattle.volume_disk.proofs.Edits.{overwritten_inside, put_mid-overwritten}
use Rattle.volume_disk.proofs.Ranges.{cases_range, within_inside, within_outside}

-- a range of marks is set
pub marked : (touched part : List Bool) (start n k i : ℕ) → start + n ≤ length touched → k ≡ n → part ≡ replicate k true → get_or (put_mid start n touched part) i false ≡ (is_within start n i || get_or touched i false)
marked touched part start n k i within all is =
    let long : length part ≡ n = ap length is ∙ length-replicate k true ∙ all in
    let whole : get_or (put_mid start n touched part) i false ≡ get_or (overwritten touched start part) i false = ap (λ (l : List Bool). get_or l i false) (put_mid-overwritten touched start part (omega (arith, within)) n (sym long)) in
    elim (cases_range start n i) as (λ _. get_or (put_mid start n touched part) i false ≡ (is_within start n i || get_or touched i false)) [
      | inl out ↦
          let lies : (i < start) ⊎ (start + length part ≤ i) = elim out as (λ _. (i < start) ⊎ (start + length part ≤ i)) [ inl below ↦ inl below | inr behind ↦ inr (omega (arith, behind, long)) ] in
          whole ∙ overwritten_outside touched start part (omega (arith, within)) i false lies ∙ ap (λ (b : Bool). b || get_or touched i false) (sym (within_outside start n i out))
      | inr inside ↦
          whole ∙ overwritten_inside touched start part (omega (arith, within)) i false inside.0 (omega (arith, inside.1, long))
          ∙ ap (λ (l : List Bool). get_or l (i - start) false) is
          ∙ get_or-replicate k (i - start) true false (omega (arith, inside.0, inside.1, all))
          ∙ ap (λ (b : Bool). b || get_or touched i false) (sym (within_inside start n i inside.0 inside.1))
    ]

-- a range of places is copied
pub copied : (to others source : List ℕ) (start n i : ℕ) → start + n ≤ length to → start + n ≤ length source → others ≡ take n (drop start source)
    → get_or (put_mid start n to others) i 0 ≡ (if is_within start n i then get_or source i 0 else get_or to i 0)
copied to others source start n i within held is =
    let long : length others ≡ n = ap length is ∙ (length-take n (drop start source) ∙ omega (arith, held, length-drop start source)) in
    let whole : get_or (put_mid start n to others) i 0 ≡ get_or (overwritten to start others) i 0 = ap (λ (l : List ℕ). get_or l i 0) (put_mid-overwritten to start others (omega (arith, within)) n (sym long)) in
    elim (cases_range start n i) as (λ _. get_or (put_mid start n to others) i 0 ≡ (if is_within start n i then get_or source i 0 else get_or to i 0)) [
      | inl out ↦
          let lies : (i < start) ⊎ (start + length others ≤ i) = elim out as (λ _. (i < start) ⊎ (start + length others ≤ i)) [ inl below ↦ inl below | inr behind ↦ inr (omega (arith, behind, long)) ] in
          whole ∙ overwritten_outside to start others (omega (arith, within)) i 0 lies ∙ sym (cond-false (is_within start n i) (get_or source i 0) (get_or to i 0) (within_outside start n i out))
      | inr inside ↦
          let place : start + (i - start) ≡ i = omega (arith, inside.0) in
          whole ∙ overwritten_inside to start others (omega (arith, within)) i 0 inside.0 (omega (arith, inside.1, long))
          ∙ ap (λ (l : List ℕ). get_or l (i - start) 0) is
          ∙ get_or-take n (drop start source) (i - start) 0 (omega (arith, inside.0, inside.1))
          ∙ get_or-drop start source (i - start) 0
          ∙ ap (λ (k : ℕ). get_or source k 0) place
          ∙ sym (cond-true (is_within start n i) (get_or source i 0) (get_or to i 0) (within_inside start n i inside.0 inside.1))
    ]
