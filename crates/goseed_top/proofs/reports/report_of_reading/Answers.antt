use Rattle.planning_commands.specs.Best.{BestEnds}
use Rattle.planning_commands.specs.Check.{CheckEnds, HearsCheck}
use Rattle.planning_commands.specs.Relax.{RelaxEnds}
use Rattle.planning_commands.specs.Weigh.{WeighEnds}
use Rattle.goseed_top.specs.Endings.{Checking}
use Rattle.goseed_top.proofs.ReportLemmas.{reads_or_hears, reads_so}
use Rattle.goseed_top.proofs.reports.report_of_reading.Goals as goal

pub best-requires-clause-target : goal.best-requires-clause-target
best-requires-clause-target g c = (rw c.in-Best.is at c.requires.lawful).1.0

pub best-requires-clause-slack : goal.best-requires-clause-slack
best-requires-clause-slack g c = (rw c.in-Best.is at c.requires.lawful).1.1.0

pub returns-in-Best-clause-report : goal.returns-in-Best-clause-report
returns-in-Best-clause-report g c =
    reads_so (g.F.Shelf.tells c.args.shelf.now) (g.F.Shelf.map c.args.shelf.now) _ c.args.order (BestEnds c.in-Best.recipe.now c.in-Best.target c.in-Best.slack) c.best.result
    (λ found left status text ends. rw c.in-Best.is ends) c.best.ensures.same c.best.ensures.report

pub returns-in-Weigh-clause-report : goal.returns-in-Weigh-clause-report
returns-in-Weigh-clause-report g c =
    reads_so (g.F.Shelf.tells c.args.shelf.now) (g.F.Shelf.map c.args.shelf.now) _ c.args.order (WeighEnds c.in-Weigh.recipe.now c.in-Weigh.set.now) c.weigh.result
    (λ found left status text ends. rw c.in-Weigh.is ends) c.weigh.ensures.same c.weigh.ensures.report

pub returns-in-Check-clause-report : goal.returns-in-Check-clause-report
returns-in-Check-clause-report g c =
    reads_or_hears (g.F.Shelf.tells c.args.shelf.now) (g.F.Shelf.map c.args.shelf.now) _ c.args.order (CheckEnds c.in-Check.recipe.now c.in-Check.certificate.now) (HearsCheck (g.F.Shelf.tells c.args.shelf.now) (g.F.Shelf.map c.args.shelf.now) c.in-Check.recipe.now c.in-Check.certificate.now) c.check.result
    (λ found left status text ends. rw c.in-Check.is ends) (λ honest disk words status text asks hears. Checking c.in-Check.recipe.now c.in-Check.certificate.now (rw c.in-Check.is at asks) hears) c.check.ensures.same c.check.ensures.report

pub relax-requires-clause-target : goal.relax-requires-clause-target
relax-requires-clause-target g c = (rw c.in-Relax.is at c.requires.lawful).1.0

pub relax-requires-clause-slack : goal.relax-requires-clause-slack
relax-requires-clause-slack g c = (rw c.in-Relax.is at c.requires.lawful).1.1.0

pub returns-in-Relax-clause-report : goal.returns-in-Relax-clause-report
returns-in-Relax-clause-report g c =
    reads_so (g.F.Shelf.tells c.args.shelf.now) (g.F.Shelf.map c.args.shelf.now) _ c.args.order (RelaxEnds c.in-Relax.recipe.now c.in-Relax.target c.in-Relax.slack c.in-Relax.inside.now c.in-Relax.outside.now) c.relax.result
    (λ found left status text ends. rw c.in-Relax.is ends) c.relax.ensures.same c.relax.ensures.report
