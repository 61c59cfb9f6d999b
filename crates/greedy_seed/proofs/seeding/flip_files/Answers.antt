use Rattle.std.proofs.Common.{◌≡◌, arith}
use Rattle.greedy_seed.proofs.Steps.{round_made, rounds_all}
use Rattle.greedy_seed.proofs.seeding.flip_files.Goals as goal

pub loop-rounds-preserved : goal.loop-rounds-preserved
loop-rounds-preserved c = (
  c.flip.ensures.tally,
  round_made c.args.table.now c.args.range.now c.args.pins.now c.loop-rounds.rounds c.args.tally.now.set c.loop-rounds.tally.set c.flip.new.self.set c.in-Some.file
      c.loop-rounds.invariant.1 c.in-Some.ensures.found c.flip.ensures.set,
)

pub returns-clause-rounds : goal.returns-clause-rounds
returns-clause-rounds c =
    let all : c.loop-rounds.rounds ≡ c.files-files.result = omega (arith, c.loop-rounds-test.false, c.loop-rounds.auto.rounds-end) in
    rounds_all c.args.table.now c.args.range.now c.args.pins.now c.loop-rounds.rounds c.files-files.result c.args.tally.now.set c.loop-rounds.tally.set all c.loop-rounds.invariant.1
