use Rattle.std.proofs.Common.{◌≡◌, ◌-◌, arith, rules}
use Rattle.seed_model.specs.Files.{holds}
use Rattle.seed_model.specs.Nodes.{largest_member}
use Rattle.seed_model.specs.Sums.{migrated_of}
use Rattle.cert_rules.proofs.Ends.{untouched}
use Rattle.cert_rules.proofs.closing.is_low.Goals as goal

pub overflow_sub-result : goal.overflow_sub-result
overflow_sub-result c = omega (arith, untouched (holds c.args.node.now.outside) c.args.table.now, c.total.ensures, c.touched.ensures.sum)

pub returns : goal.returns
returns c =
    let left : c.total.result - c.touched.result ≡ migrated_of (largest_member c.args.node.now) c.args.table.now = omega (arith, untouched (holds c.args.node.now.outside) c.args.table.now, c.total.ensures, c.touched.ensures.sum) in
    rw left (search rules)
