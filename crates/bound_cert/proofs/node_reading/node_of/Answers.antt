use Rattle.bound_cert.proofs.Heads.{some_node}
use Rattle.bound_cert.proofs.node_reading.node_of.Goals as goal

pub unreachable-requires : goal.unreachable-requires
unreachable-requires c = some_node c.args.lines.now c.first_of.result.1.now c.first_of.result.0 c.requires.nodes c.requires.more c.first_of.ensures c.in_default.not-Branch c.in_default.not-Low c.in_default.not-High c.in_default.not-Leaf
