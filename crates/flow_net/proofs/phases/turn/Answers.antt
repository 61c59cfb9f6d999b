use Rattle.flow_net.proofs.Running.{goes_nowhere, goes_as_far, goes_further}
use Rattle.flow_net.proofs.phases.turn.Goals as goal

pub searches-init : goal.searches-init
searches-init g c =
    record {
      goes_on = goes_nowhere c.args.problem.now c.args.power c.args.run.now c.args.steps.now c.requires.run;
      upto = c.requires.left;
    }

pub searches-preserved : goal.searches-preserved
searches-preserved g c =
    let found = goes_as_far c.args.problem.now c.args.power c.args.run.now c.searches.run c.find_levels.new.run c.args.steps.now c.searches.steps
    c.searches.invariant.goes_on c.find_levels.ensures.run c.find_levels.ensures.filling in
    record {
      goes_on =
          goes_further c.args.problem.now c.args.power c.args.run.now c.find_levels.new.run c.phase.new.run c.args.steps.now c.searches.steps c.phase.new.steps
          found c.phase.ensures.goes_on;
      upto = c.phase.ensures.upto;
    }

pub returns-then-not-find_levels-clause-goes_on : goal.returns-then-not-find_levels-clause-goes_on
returns-then-not-find_levels-clause-goes_on g c =
    goes_as_far c.args.problem.now c.args.power c.args.run.now c.searches.run c.find_levels.new.run c.args.steps.now c.searches.steps
    c.searches.invariant.goes_on c.find_levels.ensures.run c.find_levels.ensures.filling
