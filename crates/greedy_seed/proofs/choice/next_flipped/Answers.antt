use Rattle.greedy_seed.proofs.Choosing.{flip_next}
use Rattle.greedy_seed.proofs.choice.next_flipped.Goals as goal

pub loop-file-preserved : goal.loop-file-preserved
loop-file-preserved c =
    let next =
    flip_next c.args.table.now c.args.range.now c.args.pins.now c.args.tally.now.set c.loop-file.file c.loop-file.best c.change-next.result
    c.change-next.ensures.may c.change-next.ensures.none c.loop-file.invariant in
    rw c.lighter-best.ensures next
