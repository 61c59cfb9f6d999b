use Rattle.std.proofs.Common.{◌∙◌, ◌++◌, ◌∷◌, [], sym, ap, arith, List, ℕ}
use Rattle.std.proofs.lemmas.List.FromFn.{map-range_with_len_more}
use Rattle.seed_text.specs.SetTexts.{set_byte}
use Rattle.seed_text.proofs.write.bytes_of.Goals as goal

pub loop-place-preserved : goal.loop-place-preserved
loop-place-preserved c =
    let more = map-range_with_len_more (set_byte c.args.set.now) 0 c.loop-place.place c.loop-place.place (omega arith) in
    c.in_ok-push.ensures.items ∙ ap (λ (l : List ℕ). l ++ c.byte_at.result ∷ []) c.loop-place.invariant ∙ rw c.byte_at.ensures (sym more)
