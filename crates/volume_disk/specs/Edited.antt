-- Lemmas, not definitions: members of `MemRack` cite them, through those of `RecordLaws`.
-- Lists with other elements in a range, and places outside it.
use Rattle.std.proofs.Common.{◌≡◌, ◌⊎◌, inl, inr, ℕ, ◌+◌, ◌-◌, ◌<◌, ◌≤◌, List, ◌++◌, length, take, drop, replicate, get_or, Bool, false, ◌∙◌, ap, arith, ltb-false, leb-false}
use Rattle.std.specs.Prelude.{max, nat_le, nat_lt, ◌||◌}
use Rattle.std.proofs.lemmas.Bool.{and_cases, or_parts}
use Rattle.std.proofs.lemmas.List.{length-append, length-drop, length-replicate, get_or-take, get_or-drop, get_or_append_left, get_or-append_right, length-take-le}
use Rattle.volume_disk.specs.Medium.{overwritten, written, range_start, with_gap, is_within}

module _ {X : Type 0} (list : List X) (at : ℕ) (others : List X) (inside : at ≤ length list) where
  -- how long it is
  pub length-overwritten : length (overwritten list at others) ≡ max (length list) (at + length others)
  length-overwritten =
      length-append (take at list) (others ++ drop (at + length others) list)
      ∙ omega (arith, inside, length-take-le at list inside, length-append others (drop (at + length others) list), length-drop (at + length others) list)

  -- outside the range nothing changes
  pub overwritten_outside : (i : ℕ) (d : X) → (i < at) ⊎ (at + length others ≤ i) → get_or (overwritten list at others) i d ≡ get_or list i d
  overwritten_outside i d (inl below) =
      let front : length (take at list) ≡ at = length-take-le at list inside in
      get_or_append_left (take at list) _ d i (omega (arith, below, front)) ∙ get_or-take at list i d below
  overwritten_outside i d (inr behind) =
      let front : length (take at list) ≡ at = length-take-le at list inside in
      let place : at + length others + (i - at - length others) ≡ i = omega (arith, behind) in
      get_or-append_right (take at list) _ at i d front (omega (arith, behind))
      ∙ get_or-append_right others _ (length others) (i - at) d (omega arith) (omega (arith, behind))
      ∙ get_or-drop (at + length others) list (i - at - length others) d
      ∙ ap (λ (n : ℕ). get_or list n d) place

-- where the range of a write ends
pub range_end : (image : List ℕ) (at : ℕ) (bytes : List ℕ) → range_start at image + length (with_gap at image bytes) ≡ at + length bytes
range_end image at bytes =
    let zeros : List ℕ = replicate (at - length image) 0 in
    omega (arith, length-append zeros bytes, length-replicate {A = ℕ} (at - length image) 0)

-- how long an image is after a write
pub length-written : (image : List ℕ) (at : ℕ) (bytes : List ℕ) → length (written image at bytes) ≡ max (length image) (at + length bytes)
length-written image at bytes =
    length-overwritten image (range_start at image) (with_gap at image bytes) (omega arith) ∙ ap (λ (n : ℕ). max (length image) n) (range_end image at bytes)

-- what two tests say that are both false, of which the first is of a range
pub outside_range : (at n i : ℕ) (rest : Bool) → (is_within at n i || rest) ≡ false → ((i < at) ⊎ (at + n ≤ i)) × (rest ≡ false)
outside_range at n i rest free =
    let parts = or_parts (is_within at n i) rest free in (
      elim (and_cases (nat_le at i) (nat_lt i (at + n)) parts.0) as (λ _. (i < at) ⊎ (at + n ≤ i)) [ inl below ↦ inl (leb-false at i below) | inr behind ↦ inr (ltb-false i (at + n) behind) ],
      parts.1,
    )
