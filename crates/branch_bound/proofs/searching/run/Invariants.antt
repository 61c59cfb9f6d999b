use Rattle.std.proofs.Common.{◌+◌, ◌-◌, ◌≤◌}
use Rattle.branch_bound.specs.States.{IsState}
use Rattle.branch_bound.proofs.searching.run.Given as goal

abbrev pub invariant-branchings : goal.invariant-branchings
invariant-branchings l = (l.state.branchings ≤ l.nodes) × IsState l.table l.range l.root l.state.kept l.state.branchings l.state.entries l.state.waiting

abbrev pub decreases-branchings : goal.decreases-branchings
decreases-branchings l = l.nodes + 1 - l.state.branchings
