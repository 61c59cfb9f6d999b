use Rattle.std.proofs.Common.{◌≡◌, ◌<◌, ◌∙◌, ◌-◌, ◌++◌, ℕ, List, [], ap, arith, length, get_or}
use Rattle.std.specs.List.{remove}
use Rattle.std.specs.Option.{option_to_list}
use Rattle.std.proofs.lemmas.List.{get_or_default}
use Rattle.tiered_list.proofs.Taking.{shift_more}
use Rattle.tiered_list.proofs.shifts.shift_behind.Goals as goal

pub loop-index-preserved : goal.loop-index-preserved
loop-index-preserved c =
    let l = c.loop-index in
    let lt : l.index - 1 < length l.blocks = omega (arith, c.loop-index-test.true, l.auto.blocks, l.invariant.within, c.requires.within) in
    let read = get_or_default l.blocks (l.index - 1) c.index-blocks-index.result [] lt in
    shift_more c.args.blocks.now l.blocks c.args.first c.args.end l.index (option_to_list l.next) c.take_out.new.self c.take_out.result c.requires.tiers l.invariant c.requires.within
    (omega (arith, l.auto.blocks)) c.loop-index-test.true c.requires.tight
    (c.take_out.ensures.block ∙ ap (λ (b : List ℕ). remove b 0 ++ option_to_list l.next) read) (c.take_out.ensures.out ∙ ap (λ (b : List ℕ). get_or b 0 0) read)
