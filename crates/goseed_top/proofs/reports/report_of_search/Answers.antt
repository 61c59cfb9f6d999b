use Rattle.std.proofs.Common.{◌∷◌, [], inl}
use Rattle.goseed_words.specs.Commands.{Recipe, AnAmount, ANumber, ASet, Plan, Pinned}
use Rattle.goseed_words.proofs.OperandLemmas.{second_created}
use Rattle.command_endings.specs.Worlds.{Creating}
use Rattle.planning_commands.specs.Plan.{PlanEnds, PinnedEnds}
use Rattle.goseed_top.proofs.ReportLemmas.{ends_so}
use Rattle.goseed_top.proofs.RunLemmas.{leaves_created}
use Rattle.goseed_top.proofs.reports.report_of_search.Goals as goal

pub plan-requires-clause-target : goal.plan-requires-clause-target
plan-requires-clause-target g c = (rw c.in-Plan.is at c.requires.lawful).1.1.0

pub plan-requires-clause-slack : goal.plan-requires-clause-slack
plan-requires-clause-slack g c = (rw c.in-Plan.is at c.requires.lawful).1.1.1.0

pub plan-requires-clause-budget : goal.plan-requires-clause-budget
plan-requires-clause-budget g c = (rw c.in-Plan.is at c.requires.lawful).1.1.1.1.0.within

pub returns-in-Plan-clause-report : goal.returns-in-Plan-clause-report
returns-in-Plan-clause-report g c =
    ends_so (g.F.Shelf.tells c.args.shelf.now) (g.F.Shelf.map c.args.shelf.now) _ c.args.order (Creating c.in-Plan.document.now (PlanEnds c.in-Plan.recipe.now c.in-Plan.target c.in-Plan.slack c.in-Plan.nodes)) c.plan.result
    (λ found left status text ends. rw c.in-Plan.is ends) c.plan.ensures.report

pub returns-in-Plan-clause-left : goal.returns-in-Plan-clause-left
returns-in-Plan-clause-left g c = λ told honest disk words asked.
    let asks = rw c.in-Plan.is at asked in
    let E = Creating c.in-Plan.document.now (PlanEnds c.in-Plan.recipe.now c.in-Plan.target c.in-Plan.slack c.in-Plan.nodes) in
    leaves_created _ _ words c.in-Plan.document.now c.args.order E asked
    (record { command = Plan; fits = asks.fits; created = inl (second_created Recipe (AnAmount ∷ AnAmount ∷ ANumber 65535 ∷ []) asks.fits.operands _ asks.say) })
    (λ found left status text ends. rw c.in-Plan.is ends) (c.plan.ensures.left told)

pub returns-in-Plan-clause-same : goal.returns-in-Plan-clause-same
returns-in-Plan-clause-same g c = λ words asked none.
    let asks = rw c.in-Plan.is at asked in
    absurd (none c.in-Plan.document.now (record { command = Plan; fits = asks.fits; created = inl (second_created Recipe (AnAmount ∷ AnAmount ∷ ANumber 65535 ∷ []) asks.fits.operands _ asks.say) }))

pub pinned-requires-clause-target : goal.pinned-requires-clause-target
pinned-requires-clause-target g c = (rw c.in-Pinned.is at c.requires.lawful).1.1.0

pub pinned-requires-clause-slack : goal.pinned-requires-clause-slack
pinned-requires-clause-slack g c = (rw c.in-Pinned.is at c.requires.lawful).1.1.1.0

pub pinned-requires-clause-budget : goal.pinned-requires-clause-budget
pinned-requires-clause-budget g c = (rw c.in-Pinned.is at c.requires.lawful).1.1.1.1.0.within

pub returns-in-Pinned-clause-report : goal.returns-in-Pinned-clause-report
returns-in-Pinned-clause-report g c =
    ends_so (g.F.Shelf.tells c.args.shelf.now) (g.F.Shelf.map c.args.shelf.now) _ c.args.order (Creating c.in-Pinned.document.now (PinnedEnds c.in-Pinned.recipe.now c.in-Pinned.target c.in-Pinned.slack c.in-Pinned.nodes c.in-Pinned.go.now c.in-Pinned.stay.now)) c.pinned.result
    (λ found left status text ends. rw c.in-Pinned.is ends) c.pinned.ensures.report

pub returns-in-Pinned-clause-left : goal.returns-in-Pinned-clause-left
returns-in-Pinned-clause-left g c = λ told honest disk words asked.
    let asks = rw c.in-Pinned.is at asked in
    let E = Creating c.in-Pinned.document.now (PinnedEnds c.in-Pinned.recipe.now c.in-Pinned.target c.in-Pinned.slack c.in-Pinned.nodes c.in-Pinned.go.now c.in-Pinned.stay.now) in
    leaves_created _ _ words c.in-Pinned.document.now c.args.order E asked
    (record { command = Pinned; fits = asks.fits; created = inl (second_created Recipe (AnAmount ∷ AnAmount ∷ ANumber 65535 ∷ ASet ∷ ASet ∷ []) asks.fits.operands _ asks.say) })
    (λ found left status text ends. rw c.in-Pinned.is ends) (c.pinned.ensures.left told)

pub returns-in-Pinned-clause-same : goal.returns-in-Pinned-clause-same
returns-in-Pinned-clause-same g c = λ words asked none.
    let asks = rw c.in-Pinned.is at asked in
    absurd (none c.in-Pinned.document.now (record { command = Pinned; fits = asks.fits; created = inl (second_created Recipe (AnAmount ∷ AnAmount ∷ ANumber 65535 ∷ ASet ∷ ASet ∷ []) asks.fits.operands _ asks.say) }))
