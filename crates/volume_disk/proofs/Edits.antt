-- Lists with other elements in a range, and images after a write.
use Rattle.std.proofs.Common.{◌≡◌, ◌⊎◌, inl, inr, ℕ, ◌+◌, ◌-◌, ◌<◌, ◌≤◌, List, ◌++◌, length, take, drop, replicate, get_or, sym, ◌∙◌, ap, arith}
use Rattle.std.specs.Prelude.{max}
use borrow.Rule.Slice.PartMut.{put_mid}
use Rattle.std.proofs.lemmas.Bool.{cases_lt}
use Rattle.std.proofs.lemmas.List.{length-append, length-replicate, get_or_append_left, get_or-append_right, get_or-replicate, length-take-le, drop-drop, ext_get_or}
use Rattle.volume_disk.specs.Medium.{overwritten, written, range_start, with_gap}
use Rattle.volume_disk.specs.Edited.{length-overwritten, overwritten_outside, range_end, length-written}
use Rattle.volume_disk.proofs.Ranges.{cases_range}

module _ {X : Type 0} (list : List X) (at : ℕ) (others : List X) (inside : at ≤ length list) where
  -- inside the range stand the others
  pub overwritten_inside : (i : ℕ) (d : X) → at ≤ i → i < at + length others → get_or (overwritten list at others) i d ≡ get_or others (i - at) d
  overwritten_inside i d above below =
      let front : length (take at list) ≡ at = length-take-le at list inside in
      get_or-append_right (take at list) _ at i d front above
      ∙ get_or_append_left others _ d (i - at) (omega (arith, above, below))

  -- a write to a part of a slice
  pub put_mid-overwritten : (n : ℕ) → n ≡ length others → put_mid at n list others ≡ overwritten list at others
  put_mid-overwritten n all =
      ap (λ (l : List X). take at list ++ (others ++ l)) (drop-drop n at list ∙ ap (λ (k : ℕ). drop (at + k) list) all)

-- outside the range of a write nothing changes
pub written_outside : (image : List ℕ) (at : ℕ) (bytes : List ℕ) (i : ℕ) → (i < range_start at image) ⊎ (at + length bytes ≤ i) → get_or (written image at bytes) i 0 ≡ get_or image i 0
written_outside image at bytes i (inl below) = overwritten_outside image (range_start at image) (with_gap at image bytes) (omega arith) i 0 (inl below)
written_outside image at bytes i (inr behind) =
    let ends = range_end image at bytes in
    overwritten_outside image (range_start at image) (with_gap at image bytes) (omega arith) i 0 (inr (omega (arith, behind, ends)))

-- in the gap stand zeros
pub written_gap : (image : List ℕ) (at : ℕ) (bytes : List ℕ) (i : ℕ) → length image ≤ i → i < at → get_or (written image at bytes) i 0 ≡ 0
written_gap image at bytes i past below =
    let ends = range_end image at bytes in
    let start : range_start at image ≡ length image = omega (arith, past, below) in
    let zeros : List ℕ = replicate (at - length image) 0 in
    let gap : i - range_start at image < length zeros = omega (arith, past, below, start, length-replicate {A = ℕ} (at - length image) 0) in
    overwritten_inside image (range_start at image) (with_gap at image bytes) (omega arith) i 0 (omega (arith, past, start)) (omega (arith, below, ends))
    ∙ get_or_append_left zeros bytes 0 (i - range_start at image) gap
    ∙ get_or-replicate (at - length image) (i - range_start at image) 0 0 (omega (arith, past, below, start))

-- then the bytes that are written
pub written_inside : (image : List ℕ) (at : ℕ) (bytes : List ℕ) (i : ℕ) → at ≤ i → i < at + length bytes → get_or (written image at bytes) i 0 ≡ get_or bytes (i - at) 0
written_inside image at bytes i above below =
    let ends = range_end image at bytes in
    let zeros : List ℕ = replicate (at - length image) 0 in
    let gap : length zeros ≡ at - length image = length-replicate {A = ℕ} (at - length image) 0 in
    let place : i - range_start at image - (at - length image) ≡ i - at = omega (arith, above) in
    overwritten_inside image (range_start at image) (with_gap at image bytes) (omega arith) i 0 (omega (arith, above)) (omega (arith, below, ends))
    ∙ get_or-append_right zeros bytes (at - length image) (i - range_start at image) 0 gap (omega (arith, above))
    ∙ ap (λ (n : ℕ). get_or bytes n 0) place

-- a write, where the gap was filled before
pub written_lengthened : (image : List ℕ) (at : ℕ) (bytes : List ℕ) → written image at bytes ≡ overwritten (image ++ replicate (at + length bytes - length image) 0) at bytes
written_lengthened image at bytes =
    let zeros : List ℕ = replicate (at + length bytes - length image) 0 in
    let room : length (image ++ zeros) ≡ max (length image) (at + length bytes) = omega (arith, length-append image zeros, length-replicate {A = ℕ} (at + length bytes - length image) 0) in
    let inside : at ≤ length (image ++ zeros) = omega (arith, room) in
    let long : length (written image at bytes) ≡ max (length image) (at + length bytes) = length-written image at bytes in
    ext_get_or 0 (written image at bytes) (overwritten (image ++ zeros) at bytes)
    (omega (arith, long, room, length-overwritten (image ++ zeros) at bytes inside))
    (λ i below. elim (cases_range at (length bytes) i) as (λ _. get_or (written image at bytes) i 0 ≡ get_or (overwritten (image ++ zeros) at bytes) i 0) [
      | inr within ↦ written_inside image at bytes i within.0 within.1 ∙ sym (overwritten_inside (image ++ zeros) at bytes inside i 0 within.0 within.1)
      | inl out ↦ elim (cases_lt i (length image)) as (λ _. get_or (written image at bytes) i 0 ≡ get_or (overwritten (image ++ zeros) at bytes) i 0) [
        | inl old ↦
            let lies : (i < range_start at image) ⊎ (at + length bytes ≤ i) = elim out as (λ _. (i < range_start at image) ⊎ (at + length bytes ≤ i)) [ inl before ↦ inl (omega (arith, before, old)) | inr behind ↦ inr behind ] in
            written_outside image at bytes i lies ∙ sym (overwritten_outside (image ++ zeros) at bytes inside i 0 out ∙ get_or_append_left image zeros 0 i old)
        | inr past ↦
            let before : i < at = elim out as (λ _. i < at) [ inl before ↦ before | inr behind ↦ absurd (omega (arith, behind, past, below, long)) ] in
            written_gap image at bytes i past before
            ∙ sym (overwritten_outside (image ++ zeros) at bytes inside i 0 out ∙ get_or-append_right image zeros (length image) i 0 (omega arith) past ∙ get_or-replicate (at + length bytes - length image) (i - length image) 0 0 (omega (arith, past, before)))
      ]
    ])
