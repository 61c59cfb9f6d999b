use Rattle.greedy_seed.specs.Inside.{IsTally}
use Rattle.greedy_seed.proofs.Steps.{IsAdding, files_out}
use Rattle.greedy_seed.proofs.seeding.add_files.Given as goal

abbrev pub invariant-loop-tally : goal.invariant-loop-tally
invariant-loop-tally l = IsTally l.table l.tally × IsAdding l.table l.range l.pins l.fn.tally.set l.tally.set l.turns

abbrev pub decreases-loop-tally : goal.decreases-loop-tally
decreases-loop-tally l = files_out l.tally.set
