use Rattle.std.proofs.Common.{arith}
use Rattle.cert_check.proofs.Leafing.{won_small, charge_small}
use Rattle.cert_check.proofs.leaf_sums.won.Goals as goal

pub overflow_add-won : goal.overflow_add-won
overflow_add-won c =
    let all = won_small c.args.node.now c.args.shares.now c.loop-file.file (omega (arith, c.loop-file-test.true, c.loop-file.invariant.end)) in
    let one = charge_small c.args.shares.now c.loop-file.file (omega (arith, c.loop-file-test.true, c.loop-file.invariant.end)) in
    omega (arith, all, one, c.loop-file.invariant.sum, c.requires.small)

pub returns-clause-small : goal.returns-clause-small
returns-clause-small c =
    let all = won_small c.args.node.now c.args.shares.now c.loop-file.file (omega (arith, c.loop-file.auto.file-end, c.loop-file.invariant.end)) in
    omega (arith, all, c.loop-file.invariant.sum, c.requires.small)
