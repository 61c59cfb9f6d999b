use Rattle.std.proofs.Common.{refl, inl}
use Rattle.command_texts.proofs.HaltLemmas.{through_halt}
use Rattle.order_commands.proofs.carry.carry_checked.Goals as goal

pub returns-in-Yes-clause-report : goal.returns-in-Yes-clause-report
returns-in-Yes-clause-report g c = rw c.in-Yes.is c.carry_plan.ensures.report

pub returns-in-No-clause-report : goal.returns-in-No-clause-report
returns-in-No-clause-report g c = rw c.in-No.is
    (through_halt _ _ c.report_failure.result c.or_halt.result c.or_halt.ensures.ok c.report_failure.ensures (λ report says. says))

pub returns-in-No-clause-left : goal.returns-in-No-clause-left
returns-in-No-clause-left g c = λ tells. inl refl
