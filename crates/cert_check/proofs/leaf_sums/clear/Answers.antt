use Rattle.std.proofs.Common.{arith}
use Rattle.cert_check.proofs.Leafing.{all_none}
use Rattle.cert_check.proofs.leaf_sums.clear.Goals as goal

pub returns-clause-sums : goal.returns-clause-sums
returns-clause-sums c = all_none c.loop-share.shares (λ file lt. c.loop-share.invariant file (omega (arith, lt, c.loop-share-test.false, c.loop-share.auto.shares)))
