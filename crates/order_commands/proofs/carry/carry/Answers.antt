use Rattle.std.proofs.Common.{◌∙◌}
use Rattle.command_endings.proofs.CreatingLemmas.{leaves_before}
use Rattle.order_commands.specs.Carry.{CarryEnds}
use Rattle.order_commands.proofs.ToldLemmas.{carry_left, carry_refused, carry_report}
use Rattle.order_commands.proofs.carry.carry.Goals as goal

pub returns-in-Ok-clause-report : goal.returns-in-Ok-clause-report
returns-in-Ok-clause-report g c =
    let held = rw c.in-Ok.is at c.in_ok-first.ensures.recipe in
    let read = c.in_ok-first.ensures in
    let made = c.carry_from.ensures in
    carry_report _ _ _ _ _ _ _ read.same c.in-Ok.first _ c.carry_from.result held (λ tells. made.others (read.tells ∙ tells)) made.refused (λ tells. made.told (read.tells ∙ tells)) (rw read.tells at made.heard)

pub returns-in-Ok-clause-left : goal.returns-in-Ok-clause-left
returns-in-Ok-clause-left g c = λ tells.
    let held = rw c.in-Ok.is at c.in_ok-first.ensures.recipe in
    let read = c.in_ok-first.ensures in
    rw tells (carry_left _ _ _ _ _ _ _ read.same c.in-Ok.first (rw tells at held) (c.carry_from.ensures.others (read.tells ∙ tells)) (c.carry_from.ensures.left (read.tells ∙ tells)))

pub returns-in-Err-clause-report : goal.returns-in-Err-clause-report
returns-in-Err-clause-report g c =
    carry_refused _ _ _ _ _ _ _ _ _ c.in_ok-first.ensures.same (rw c.in-Err.is at c.in_ok-first.ensures.refused)

pub returns-in-Err-clause-left : goal.returns-in-Err-clause-left
returns-in-Err-clause-left g c = λ tells. leaves_before (CarryEnds c.args.name.now c.args.document.now c.args.other.now c.args.out.now) _ _ _ _ c.in_ok-first.ensures.same

pub returns-in_err-first-clause-left : goal.returns-in_err-first-clause-left
returns-in_err-first-clause-left g c = λ tells. leaves_before (CarryEnds c.args.name.now c.args.document.now c.args.other.now c.args.out.now) _ _ _ _ c.in_err-first.ensures.same
