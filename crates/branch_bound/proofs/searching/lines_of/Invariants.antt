use Rattle.std.proofs.Common.{take}
use Rattle.branch_bound.specs.Ended.{AreVisited}
use Rattle.branch_bound.proofs.searching.lines_of.Given as goal

abbrev pub invariant-loop-visit : goal.invariant-loop-visit
invariant-loop-visit l = AreVisited l.table l.root l.entries (take l.visit-index l.visited) l.lines.items
