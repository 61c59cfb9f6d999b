use Rattle.std.proofs.Common.{refl, inl, inr}
use Rattle.std.proofs.lemmas.Result.{IfOk-weaker}
use Rattle.command_texts.proofs.HaltLemmas.{through_halt}
use Rattle.order_commands.proofs.ToldLemmas.{left_plan, plan_lacking, plan_shown}
use Rattle.order_commands.proofs.carry.carry_plan.Goals as goal

pub carry_to-requires-clause-width : goal.carry_to-requires-clause-width
carry_to-requires-clause-width g c = (plan_shown c.merge_laws.ensures.sums _ c.args.checked.now _ c.requires.sound c.in-Some.ensures.plan (c.in-Some.ensures.within refl)).0

pub carry_to-requires-clause-range : goal.carry_to-requires-clause-range
carry_to-requires-clause-range g c = c.requires.sound.range

pub carry_to-requires-clause-within : goal.carry_to-requires-clause-within
carry_to-requires-clause-within g c = (plan_shown c.merge_laws.ensures.sums _ c.args.checked.now _ c.requires.sound c.in-Some.ensures.plan (c.in-Some.ensures.within refl)).1

pub returns-in-Some-clause-report : goal.returns-in-Some-clause-report
returns-in-Some-clause-report g c =
    let within = (plan_shown c.merge_laws.ensures.sums _ c.args.checked.now _ c.requires.sound c.in-Some.ensures.plan (c.in-Some.ensures.within refl)).1 in
    IfOk-weaker c.carry_to.result _ _ (λ report has. inr (record { set = c.in-Some.plan.now; is = c.in-Some.ensures.plan; within = within; carried = has })) c.carry_to.ensures.report

pub returns-in-Some-clause-left : goal.returns-in-Some-clause-left
returns-in-Some-clause-left g c = λ tells. left_plan _ _ _ c.args.checked.now c.in-Some.plan.now _ _ c.requires.valid c.in-Some.ensures.plan (c.carry_to.ensures.left tells)

pub returns-in-None-clause-report : goal.returns-in-None-clause-report
returns-in-None-clause-report g c =
    let none = plan_lacking c.merge_laws.ensures.sums _ c.args.checked.now c.requires.sound (c.in-None.ensures.none refl) in
    through_halt _ _ c.refused.result c.or_halt.result c.or_halt.ensures.ok c.refused.ensures (λ report refuses. inl (record { none = none; refuses = refuses }))

pub returns-in-None-clause-left : goal.returns-in-None-clause-left
returns-in-None-clause-left g c = λ tells. inl refl
