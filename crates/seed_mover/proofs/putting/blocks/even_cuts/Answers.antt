use Rattle.std.proofs.Common.{◌≡◌, ℕ, List, [], ◌∷◌, ◌++◌, sym, ◌∙◌, ap, arith}
use Rattle.std.specs.Prelude.{map as each}
use Rattle.std.specs.List.{range_with_len}
use Rattle.std.proofs.lemmas.List.FromFn.{map-range_with_len_more}
use Rattle.seed_mover.proofs.BlockLists.{even_end}
use Rattle.seed_mover.proofs.putting.blocks.even_cuts.Goals as goal

pub loop-block-preserved : goal.loop-block-preserved
loop-block-preserved c =
    let f = even_end c.args.len in
    let block = c.loop-block.block in
    let is : c.min.result ≡ f block = c.min.ensures in
    c.in_ok-push.ensures.items
    ∙ ap (λ (l : List ℕ). l ++ c.min.result ∷ []) c.loop-block.invariant
    ∙ ap (λ (n : ℕ). each f (range_with_len 0 block) ++ n ∷ []) is
    ∙ sym (map-range_with_len_more f 0 block block (omega arith))
