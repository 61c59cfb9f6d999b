use Rattle.std.proofs.Common.{◌∙◌, refl, inl}
use Rattle.std.proofs.lemmas.Result.{IfOk-weaker}
use Rattle.order_commands.proofs.ToldLemmas.{carried_over, carried_refused, left_to}
use Rattle.order_commands.proofs.carry.carry_to.Goals as goal

pub returns-in-Ok-clause-report : goal.returns-in-Ok-clause-report
returns-in-Ok-clause-report g c =
    let held = rw c.in-Ok.is at c.in_ok-second.ensures.recipe in
    let read = c.in_ok-second.ensures in
    IfOk-weaker c.carry_between.result _ _ (λ report has. carried_over _ _ _ _ _ _ _ _ c.in-Ok.second _ held (rw read.tells at has)) c.carry_between.ensures.report

pub returns-in-Ok-clause-left : goal.returns-in-Ok-clause-left
returns-in-Ok-clause-left g c = λ tells.
    let held = rw c.in-Ok.is at c.in_ok-second.ensures.recipe in
    let read = c.in_ok-second.ensures in
    left_to _ _ _ _ _ c.in-Ok.second _ _ (rw tells at held) (rw read.same at (c.carry_between.ensures.left (read.tells ∙ tells)))

pub returns-in-Err-clause-report : goal.returns-in-Err-clause-report
returns-in-Err-clause-report g c = carried_refused _ _ _ _ _ _ _ _ _ (rw c.in-Err.is at c.in_ok-second.ensures.refused)

pub returns-in-Err-clause-left : goal.returns-in-Err-clause-left
returns-in-Err-clause-left g c = λ tells. rw c.in_ok-second.ensures.same (inl refl)

pub returns-in_err-second-clause-left : goal.returns-in_err-second-clause-left
returns-in_err-second-clause-left g c = λ tells. rw c.in_err-second.ensures.same (inl refl)

pub returns-in-Ok-clause-refused : goal.returns-in-Ok-clause-refused
returns-in-Ok-clause-refused g c = rw c.in_ok-second.ensures.same at c.carry_between.ensures.refused
