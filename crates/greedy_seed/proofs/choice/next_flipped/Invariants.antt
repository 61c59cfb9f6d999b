use Rattle.greedy_seed.proofs.Choosing.{KeepsLightest}
use Rattle.greedy_seed.proofs.choice.next_flipped.Given as goal

abbrev pub invariant-loop-file : goal.invariant-loop-file
invariant-loop-file l = KeepsLightest l.table l.range l.pins l.tally.set l.file l.best
