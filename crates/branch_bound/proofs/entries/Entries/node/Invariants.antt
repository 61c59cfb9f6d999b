use Rattle.branch_bound.proofs.Climbs.{Climbs}
use Rattle.branch_bound.proofs.entries.Entries.node.Given as goal

abbrev pub invariant-loop-origin : goal.invariant-loop-origin
invariant-loop-origin l = Climbs l.root l.self l.number l.at l.node

abbrev pub decreases-loop-origin : goal.decreases-loop-origin
decreases-loop-origin l = l.at
