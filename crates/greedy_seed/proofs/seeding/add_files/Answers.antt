use Rattle.std.proofs.Common.{◌<◌, arith}
use Rattle.greedy_seed.specs.Greedy.{migrates}
use Rattle.greedy_seed.proofs.Steps.{adds_on, no_turn, one_fewer}
use Rattle.greedy_seed.proofs.seeding.add_files.Goals as goal

pub loop-tally-init : goal.loop-tally-init
loop-tally-init c = (c.requires.tally, no_turn c.args.table.now c.args.range.now c.args.pins.now c.args.tally.now.set c.requires.tally.files)

pub loop-tally-preserved : goal.loop-tally-preserved
loop-tally-preserved c =
    let kept = c.loop-tally.invariant in
    let low : migrates c.args.table.now c.loop-tally.tally.set < c.args.range.now.low = omega (arith, c.loop-tally-test.true, kept.0.sums.migrated) in (
      c.flip.ensures.tally,
      adds_on c.args.table.now c.args.range.now c.args.pins.now c.loop-tally.turns c.args.tally.now.set c.loop-tally.tally.set c.flip.new.self.set c.in-Some.file
          kept.0.files kept.1 low c.in-Some.ensures.found c.flip.ensures.set,
    )

pub loop-tally-smaller : goal.loop-tally-smaller
loop-tally-smaller c =
    let kept = c.loop-tally.invariant in
    let may = c.in-Some.ensures.found.may in
    let fewer = one_fewer c.loop-tally.tally.set c.flip.new.self.set c.in-Some.file (omega (arith, may.within, kept.0.files)) may.out c.flip.ensures.set in
    omega (arith, fewer)

pub overflow_add-turns : goal.overflow_add-turns
overflow_add-turns c =
    let kept = c.loop-tally.invariant in
    let may = c.in-Some.ensures.found.may in
    let fewer = one_fewer c.loop-tally.tally.set c.flip.new.self.set c.in-Some.file (omega (arith, may.within, kept.0.files)) may.out c.flip.ensures.set in
    omega (arith, fewer, kept.1.few, kept.0.lawful.files)
