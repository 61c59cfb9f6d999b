use Rattle.std.proofs.Common.{◌-◌, ◌≤◌}
use Rattle.flow_net.specs.Runs.{GoesOn}
use Rattle.flow_net.proofs.phases.turn.Given as goal

-- the pushes so far are lawful
abbrev pub invariant-searches : goal.invariant-searches
invariant-searches g l =
    record {
      goes_on : GoesOn l.problem l.power l.fn.run l.run l.fn.steps l.steps;
      upto : l.run.filling.pushes ≤ l.limit;
    }

abbrev pub decreases-searches : goal.decreases-searches
decreases-searches g l = l.limit - l.run.filling.pushes
