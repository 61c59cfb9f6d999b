use Rattle.std.proofs.Common.{◌≡◌, ◌+◌, ◌-◌, ◌*◌, ◌≤◌, ◌∙◌, ℕ, List, ap, arith, drop, inl, inr, length, min, sym, take}
use Rattle.std.proofs.lemmas.Bool.{cases_lt}
use Rattle.std.proofs.lemmas.List.{length-drop, take_all, take_rest}
use Rattle.std.proofs.lemmas.List.FromFn.{map-range_with_len_more}
use Rattle.std.proofs.lemmas.List.Sums.{fold-append}
use Rattle.recipe_reader.specs.Eights.{eight_at}
use Rattle.recipe_reader.proofs.chunk.write_eights.Goals as goal

-- up to eight bytes from a place on, told by their end or by their number
up_to_eight : (bytes : List ℕ) (start end : ℕ) → end ≡ min (length bytes) (start + 8) → take (end - start) (drop start bytes) ≡ take 8 (drop start bytes)
up_to_eight bytes start end e =
    elim (cases_lt (length bytes) (start + 8)) [
      | inl few ↦
          let last : end ≡ length bytes = omega arith in
          let left : length (drop start bytes) ≤ 8 = omega (arith, length-drop start bytes) in
          rw last (take_rest bytes start ∙ sym (take_all 8 (drop start bytes) left))
      | inr many ↦
          let eight : end - start ≡ 8 = omega arith in
          ap (λ n. take n (drop start bytes)) eight
    ]

pub loop-place-preserved : goal.loop-place-preserved
loop-place-preserved g c =
    let bytes = c.args.bytes.now in
    let place = c.loop-place.place in
    let part = up_to_eight bytes (8 * place) c.min-end.result c.min-end.ensures in
    rw (map-range_with_len_more (eight_at bytes) 0 place place (omega arith), fold-append, ← c.loop-place.invariant, ← part) c.write.ensures
