use Rattle.greedy_seed.proofs.Choosing.{keeps_next}
use Rattle.greedy_seed.proofs.choice.next_added.Goals as goal

pub loop-file-preserved : goal.loop-file-preserved
loop-file-preserved c =
    let next = keeps_next c.args.table.now c.args.range.now c.args.pins.now c.args.tally.now.set c.loop-file.file c.loop-file.best c.addition-next.result
    c.addition-next.ensures.may c.addition-next.ensures.none c.loop-file.invariant in
    rw c.better-best.ensures next
