use Rattle.flow_net.proofs.Cutting.{all_bound}
use Rattle.flow_net.proofs.cuts.fill.Goals as goal

pub returns-clause-upto : goal.returns-clause-upto
returns-clause-upto g c =
    all_bound c.args.problem.now.net.now.pipes c.args.problem.now.source c.args.problem.now.sink c.args.run.now.filling c.begin.new.run.filling c.powers.new.run.filling
    c.requires.run.lawful.apart c.requires.run.carried c.requires.none c.begin.ensures.goes_on.augments c.powers.ensures.goes_on.augments c.begin.ensures.upto c.powers.ensures.upto
