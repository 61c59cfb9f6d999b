use Rattle.std.proofs.Common.{refl, inr}
use Rattle.trial_commands.specs.Gap.{GapEnds, HearsGap}
use Rattle.trial_commands.specs.Gen.{GenEnds, HearsDrawn, document_name}
use Rattle.trial_commands.specs.Greedy.{GreedyEnds}
use Rattle.goseed_top.specs.Endings.{Drawing, Gapping}
use Rattle.goseed_top.proofs.ReportLemmas.{ends_or_hears, reads_or_hears, reads_so}
use Rattle.goseed_top.proofs.RunLemmas.{created_drawn, leaves_names}
use Rattle.goseed_top.proofs.reports.report_of_trial.Goals as goal

pub draw-requires-clause-number : goal.draw-requires-clause-number
draw-requires-clause-number g c = (rw c.in-Gen.is at c.requires.lawful).0.within

pub draw-requires-clause-some : goal.draw-requires-clause-some
draw-requires-clause-some g c = (rw c.in-Gen.is at c.requires.lawful).1.0.some

pub draw-requires-clause-few : goal.draw-requires-clause-few
draw-requires-clause-few g c = (rw c.in-Gen.is at c.requires.lawful).1.0.up_to.within

pub returns-in-Gen-clause-report : goal.returns-in-Gen-clause-report
returns-in-Gen-clause-report g c =
    ends_or_hears (g.F.Shelf.tells c.args.shelf.now) (g.F.Shelf.map c.args.shelf.now) _ c.args.order (GenEnds c.in-Gen.number c.in-Gen.files) (HearsDrawn (g.F.Shelf.tells c.args.shelf.now) c.in-Gen.number c.in-Gen.files) c.draw.result
    (λ found left status text ends. rw c.in-Gen.is ends) (λ honest disk words status text asks hears. Drawing c.in-Gen.number c.in-Gen.files (rw c.in-Gen.is at asks) hears) c.draw.ensures.report

pub returns-in-Gen-clause-left : goal.returns-in-Gen-clause-left
returns-in-Gen-clause-left g c = λ told honest disk words asked.
    leaves_names _ _ words c.in-Gen.number c.in-Gen.files c.args.order asked (rw c.in-Gen.is at asked)
    (λ found left status text ends. rw c.in-Gen.is ends) (c.draw.ensures.left told)

pub returns-in-Gen-clause-same : goal.returns-in-Gen-clause-same
returns-in-Gen-clause-same g c = λ words asked none.
    let asks = rw c.in-Gen.is at asked in
    absurd (none document_name (created_drawn words document_name c.in-Gen.number c.in-Gen.files asks (inr refl)))

pub greedy-requires-clause-target : goal.greedy-requires-clause-target
greedy-requires-clause-target g c = (rw c.in-Greedy.is at c.requires.lawful).1.0

pub greedy-requires-clause-slack : goal.greedy-requires-clause-slack
greedy-requires-clause-slack g c = (rw c.in-Greedy.is at c.requires.lawful).1.1.0

pub returns-in-Greedy-clause-report : goal.returns-in-Greedy-clause-report
returns-in-Greedy-clause-report g c =
    reads_so (g.F.Shelf.tells c.args.shelf.now) (g.F.Shelf.map c.args.shelf.now) _ c.args.order (GreedyEnds c.in-Greedy.recipe.now c.in-Greedy.target c.in-Greedy.slack) c.greedy.result
    (λ found left status text ends. rw c.in-Greedy.is ends) c.greedy.ensures.same c.greedy.ensures.report

pub returns-in-Gap-clause-report : goal.returns-in-Gap-clause-report
returns-in-Gap-clause-report g c =
    reads_or_hears (g.F.Shelf.tells c.args.shelf.now) (g.F.Shelf.map c.args.shelf.now) _ c.args.order (GapEnds c.in-Gap.recipe.now c.in-Gap.certificate.now) (HearsGap (g.F.Shelf.tells c.args.shelf.now) (g.F.Shelf.map c.args.shelf.now) c.in-Gap.recipe.now c.in-Gap.certificate.now) c.gap.result
    (λ found left status text ends. rw c.in-Gap.is ends) (λ honest disk words status text asks hears. Gapping c.in-Gap.recipe.now c.in-Gap.certificate.now (rw c.in-Gap.is at asks) hears) c.gap.ensures.same c.gap.ensures.report
