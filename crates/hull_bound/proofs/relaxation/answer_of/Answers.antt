use Rattle.std.proofs.Common.{arith}
use Rattle.hull_bound.proofs.Relaxing.{largest_migrates, smallest_migrates}
use Rattle.hull_bound.proofs.relaxation.answer_of.Goals as goal

pub returns-then-largest-range : goal.returns-then-largest-range
returns-then-largest-range g c =
    let most = largest_migrates c.args.table.now c.args.node.now c.corner_of-largest.result c.in_ok-largest_of.field-0 c.files-files.ensures.table c.requires.node c.corner_of-largest.ensures.corner c.corner_of-largest.ensures.same c.in_ok-largest_of.ensures.set in
    omega (arith, most, c.if-largest-range.true)

pub returns-then-range-smallest : goal.returns-then-range-smallest
returns-then-range-smallest g c =
    let most = largest_migrates c.args.table.now c.args.node.now c.corner_of-largest.result c.in_ok-largest_of.field-0 c.files-files.ensures.table c.requires.node c.corner_of-largest.ensures.corner c.corner_of-largest.ensures.same c.in_ok-largest_of.ensures.set in
    let least = smallest_migrates c.args.table.now c.args.node.now c.corner_of-smallest.result c.in_ok-copy.field-0 c.corner_of-smallest.ensures.corner c.corner_of-smallest.ensures.same c.in_ok-copy.ensures.same in
    (omega (arith, least, c.if-range-smallest.true), λ low. omega (arith, most, c.if-largest-range.false, low))

pub returns : goal.returns
returns g c =
    let most = largest_migrates c.args.table.now c.args.node.now c.corner_of-largest.result c.in_ok-largest_of.field-0 c.files-files.ensures.table c.requires.node c.corner_of-largest.ensures.corner c.corner_of-largest.ensures.same c.in_ok-largest_of.ensures.set in
    let least = smallest_migrates c.args.table.now c.args.node.now c.corner_of-smallest.result c.in_ok-copy.field-0 c.corner_of-smallest.ensures.corner c.corner_of-smallest.ensures.same c.in_ok-copy.ensures.same in
    (λ low. omega (arith, most, c.if-largest-range.false, low), λ high. omega (arith, least, c.if-range-smallest.false, high), c.in_ok-multipliers.ensures)
