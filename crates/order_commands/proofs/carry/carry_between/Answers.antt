use Rattle.std.proofs.Common.{refl, inl, inr}
use Rattle.std.proofs.lemmas.Result.{IfOk-weaker}
use Rattle.command_texts.proofs.HaltLemmas.{through_halt}
use Rattle.order_commands.proofs.carry.carry_between.Goals as goal

pub write_carried-requires-clause-same : goal.write_carried-requires-clause-same
write_carried-requires-clause-same g c = (rw c.in-Ok-true.field-0-test at c.in-Ok-true.ensures).0 refl

pub returns-in-Ok-true-clause-report : goal.returns-in-Ok-true-clause-report
returns-in-Ok-true-clause-report g c = IfOk-weaker c.write_carried.result _ _ (λ report has. inr has) c.write_carried.ensures.report

pub returns-in-Ok-true-clause-refused : goal.returns-in-Ok-true-clause-refused
returns-in-Ok-true-clause-refused g c = IfOk-weaker c.write_carried.result _ _ (λ report has. inl has.printed.answers) c.write_carried.ensures.report

pub returns-in-Ok-false-clause-report : goal.returns-in-Ok-false-clause-report
returns-in-Ok-false-clause-report g c =
    through_halt _ _ c.refused.result c.or_halt.result c.or_halt.ensures.ok c.refused.ensures
    (λ report refuses. inl (record { apart = λ same. cc ((rw c.in-Ok-false.field-0-test at c.in-Ok-false.ensures).1 same); refuses = refuses }))

pub returns-in-Ok-false-clause-left : goal.returns-in-Ok-false-clause-left
returns-in-Ok-false-clause-left g c = λ tells. inl refl

pub returns-in-Err-clause-left : goal.returns-in-Err-clause-left
returns-in-Err-clause-left g c = λ tells. inl refl
