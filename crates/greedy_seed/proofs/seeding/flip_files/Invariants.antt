use Rattle.greedy_seed.specs.Greedy.{Rounds}
use Rattle.greedy_seed.specs.Inside.{IsTally}
use Rattle.greedy_seed.proofs.seeding.flip_files.Given as goal

abbrev pub invariant-loop-rounds : goal.invariant-loop-rounds
invariant-loop-rounds l = IsTally l.table l.tally × Rounds l.table l.range l.pins l.rounds l.fn.tally.set l.tally.set
