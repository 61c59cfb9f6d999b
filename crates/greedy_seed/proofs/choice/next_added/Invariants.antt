use Rattle.greedy_seed.proofs.Choosing.{KeepsBest}
use Rattle.greedy_seed.proofs.choice.next_added.Given as goal

abbrev pub invariant-loop-file : goal.invariant-loop-file
invariant-loop-file l = KeepsBest l.table l.range l.pins l.tally.set l.file l.best
