use Rattle.std.proofs.Common.{◌≤◌}
use Rattle.flow_net.specs.Runs.{GoesOn}
use Rattle.flow_net.proofs.Powering.{Powering}
use Rattle.flow_net.proofs.powers.powers.Given as goal

-- the turns so far kept the premise of the next one
abbrev pub invariant-turns : goal.invariant-turns
invariant-turns g l =
    record {
      goes_on : GoesOn l.problem 1 l.fn.run l.run l.fn.steps l.steps;
      state : Powering l.problem.net.now l.problem.source l.problem.sink l.initial.turns l.turns l.fn.run.filling l.run.filling l.run.scratch.levels.items;
      few : l.turns ≤ l.initial.turns;
    }

abbrev pub decreases-turns : goal.decreases-turns
decreases-turns g l = l.turns
