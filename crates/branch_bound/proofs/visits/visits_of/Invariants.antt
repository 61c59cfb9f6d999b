use Rattle.branch_bound.specs.SearchTrees.{SearchTree}
use Rattle.branch_bound.specs.Visits.{IsOrdered}
use Rattle.branch_bound.proofs.Visited.{Walks}
use Rattle.branch_bound.proofs.visits.visits_of.Given as goal

abbrev pub invariant-nodes : goal.invariant-nodes
invariant-nodes l = (tree : SearchTree) → IsOrdered l.entries tree → Walks l.entries l.bytes tree l.at l.skip l._turn l.order.items
