-- Writes that begin inside an image. For the crates above.
use Rattle.std.proofs.Common.{◌≡◌, ℕ, ◌+◌, ◌-◌, ◌≤◌, List, ◌++◌, length, take, drop, replicate, refl, sym, ◌∙◌, ap, arith}
use Rattle.std.proofs.lemmas.List.{take_at, drop_at, drop-drop, length-take-le}
use Rattle.volume_disk.specs.Medium.{written, overwritten, range_start}
use Rattle.volume_disk.specs.Edited.{length-written}
use Rattle.volume_disk.specs.Left.{OneWrite}

module _ (image : List ℕ) (at : ℕ) (bytes : List ℕ) (inside : at ≤ length image) where
  -- there is no gap
  pub written_within : written image at bytes ≡ take at image ++ (bytes ++ drop (at + length bytes) image)
  written_within =
      let none : at - length image ≡ 0 = omega (arith, inside) in
      let start : range_start at image ≡ at = omega (arith, inside) in
      ap (λ (g : ℕ). overwritten image (range_start at image) (replicate g 0 ++ bytes)) none ∙ ap (λ (s : ℕ). overwritten image s bytes) start

  -- before the place nothing changes
  pub take_written : take at (written image at bytes) ≡ take at image
  take_written = ap (λ (l : List ℕ). take at l) written_within ∙ take_at (take at image) _ at (length-take-le at image inside)

  -- from the place on stand the bytes, and what was behind their end
  pub drop_written : drop at (written image at bytes) ≡ bytes ++ drop (at + length bytes) image
  drop_written = ap (λ (l : List ℕ). drop at l) written_within ∙ drop_at (take at image) _ at (length-take-le at image inside)

  -- what a write leaves is what a crash after it may leave
  pub one_write_itself : OneWrite image at bytes (written image at bytes)
  one_write_itself =
      let long = length-written image at bytes in
      record {
        no_shorter = omega (arith, long);
        no_longer = omega (arith, long);
        front = take_written;
        back = sym (drop-drop (length bytes) at (written image at bytes)) ∙ ap (λ (l : List ℕ). drop (length bytes) l) drop_written ∙ drop_at bytes _ (length bytes) refl;
      }
