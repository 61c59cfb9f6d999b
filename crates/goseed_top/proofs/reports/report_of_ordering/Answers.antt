use Rattle.std.proofs.Common.{[], inl}
use Rattle.goseed_words.specs.Commands.{Recipe, Certificate, Sort, Carry}
use Rattle.goseed_words.proofs.OperandLemmas.{fourth_created, second_created}
use Rattle.command_endings.specs.Worlds.{Creating}
use Rattle.order_commands.specs.Carry.{CarryEnds, HearsCarry}
use Rattle.order_commands.specs.Sort.{SortEnds}
use Rattle.goseed_top.specs.Endings.{Carrying}
use Rattle.goseed_top.proofs.ReportLemmas.{ends_or_hears, ends_so}
use Rattle.goseed_top.proofs.RunLemmas.{leaves_created}
use Rattle.goseed_top.proofs.reports.report_of_ordering.Goals as goal

pub returns-in-Sort-clause-report : goal.returns-in-Sort-clause-report
returns-in-Sort-clause-report g c =
    ends_so (g.F.Shelf.tells c.args.shelf.now) (g.F.Shelf.map c.args.shelf.now) _ c.args.order (Creating c.in-Sort.out.now (SortEnds c.in-Sort.recipe.now)) c.sort.result
    (λ found left status text ends. rw c.in-Sort.is ends) c.sort.ensures.report

pub returns-in-Sort-clause-left : goal.returns-in-Sort-clause-left
returns-in-Sort-clause-left g c = λ told honest disk words asked.
    let asks = rw c.in-Sort.is at asked in
    let E = Creating c.in-Sort.out.now (SortEnds c.in-Sort.recipe.now) in
    leaves_created _ _ words c.in-Sort.out.now c.args.order E asked
    (record { command = Sort; fits = asks.fits; created = inl (second_created Recipe [] asks.fits.operands _ asks.say) })
    (λ found left status text ends. rw c.in-Sort.is ends) (c.sort.ensures.left told)

pub returns-in-Sort-clause-same : goal.returns-in-Sort-clause-same
returns-in-Sort-clause-same g c = λ words asked none.
    let asks = rw c.in-Sort.is at asked in
    absurd (none c.in-Sort.out.now (record { command = Sort; fits = asks.fits; created = inl (second_created Recipe [] asks.fits.operands _ asks.say) }))

pub returns-in-Carry-clause-report : goal.returns-in-Carry-clause-report
returns-in-Carry-clause-report g c =
    ends_or_hears (g.F.Shelf.tells c.args.shelf.now) (g.F.Shelf.map c.args.shelf.now) _ c.args.order (Creating c.in-Carry.out.now (CarryEnds c.in-Carry.recipe.now c.in-Carry.document.now c.in-Carry.other.now c.in-Carry.out.now)) (HearsCarry (g.F.Shelf.tells c.args.shelf.now) (g.F.Shelf.map c.args.shelf.now) c.in-Carry.recipe.now c.in-Carry.document.now c.in-Carry.other.now) c.carry.result
    (λ found left status text ends. rw c.in-Carry.is ends) (λ honest disk words status text asks hears. Carrying c.in-Carry.recipe.now c.in-Carry.document.now c.in-Carry.other.now c.in-Carry.out.now (rw c.in-Carry.is at asks) hears) c.carry.ensures.report

pub returns-in-Carry-clause-left : goal.returns-in-Carry-clause-left
returns-in-Carry-clause-left g c = λ told honest disk words asked.
    let asks = rw c.in-Carry.is at asked in
    let E = Creating c.in-Carry.out.now (CarryEnds c.in-Carry.recipe.now c.in-Carry.document.now c.in-Carry.other.now c.in-Carry.out.now) in
    leaves_created _ _ words c.in-Carry.out.now c.args.order E asked
    (record { command = Carry; fits = asks.fits; created = inl (fourth_created Recipe Certificate Recipe [] asks.fits.operands _ asks.say) })
    (λ found left status text ends. rw c.in-Carry.is ends) (c.carry.ensures.left told)

pub returns-in-Carry-clause-same : goal.returns-in-Carry-clause-same
returns-in-Carry-clause-same g c = λ words asked none.
    let asks = rw c.in-Carry.is at asked in
    absurd (none c.in-Carry.out.now (record { command = Carry; fits = asks.fits; created = inl (fourth_created Recipe Certificate Recipe [] asks.fits.operands _ asks.say) }))
