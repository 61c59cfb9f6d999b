use Rattle.std.proofs.Common.{sym, subst}
use Rattle.flow_net.specs.Nets.{FillingValue}
use Rattle.flow_net.specs.Pushes.{IsCarried}
use Rattle.flow_net.proofs.Cutting.{carried_none, carried_flow}
use Rattle.flow_net.proofs.cuts.solve.Goals as goal

pub fill-requires-clause-run : goal.fill-requires-clause-run
fill-requires-clause-run g c =
    record {
      lawful = c.requires.lawful;
      places = c.requires.places;
      carried =
          carried_none c.args.problem.now.net.now.pipes c.args.problem.now.source c.args.problem.now.sink c.args.run.now.filling.amounts c.requires.empty;
    }

pub returns-clause-flow : goal.returns-clause-flow
returns-clause-flow g c =
    carried_flow c.args.problem.now.net.now c.args.problem.now.source c.args.problem.now.sink c.note_sides.new.run.filling.amounts
    (subst (λ (f : FillingValue). IsCarried c.args.problem.now.net.now.pipes c.args.problem.now.source c.args.problem.now.sink f.amounts)
    (sym c.note_sides.ensures.filling) c.fill.ensures.run.carried)
