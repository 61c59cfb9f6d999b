use Rattle.std.proofs.Common.{arith}
use Rattle.cert_check.proofs.Leafing.{lost_small, reward_small}
use Rattle.cert_check.proofs.leaf_sums.lost.Goals as goal

pub overflow_add-lost : goal.overflow_add-lost
overflow_add-lost c =
    let all = lost_small c.args.node.now c.args.shares.now c.loop-file.file (omega (arith, c.loop-file-test.true, c.loop-file.invariant.end)) in
    let one = reward_small c.args.shares.now c.loop-file.file (omega (arith, c.loop-file-test.true, c.loop-file.invariant.end)) in
    omega (arith, all, one, c.loop-file.invariant.sum, c.requires.small)

pub overflow_add-lost-then-not-contains : goal.overflow_add-lost-then-not-contains
overflow_add-lost-then-not-contains c =
    let all = lost_small c.args.node.now c.args.shares.now c.loop-file.file (omega (arith, c.loop-file-test.true, c.loop-file.invariant.end)) in
    let one = reward_small c.args.shares.now c.loop-file.file (omega (arith, c.loop-file-test.true, c.loop-file.invariant.end)) in
    omega (arith, all, one, c.loop-file.invariant.sum, c.requires.small, c.saturating_sub-lost.ensures)

pub returns-clause-small : goal.returns-clause-small
returns-clause-small c =
    let all = lost_small c.args.node.now c.args.shares.now c.loop-file.file (omega (arith, c.loop-file.auto.file-end, c.loop-file.invariant.end)) in
    omega (arith, all, c.loop-file.invariant.sum, c.requires.small)
