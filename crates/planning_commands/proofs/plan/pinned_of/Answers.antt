use Rattle.std.proofs.Common.{refl, inl, inr}
use Rattle.std.proofs.lemmas.Result.{IfOk-weaker}
use Rattle.command_texts.proofs.HaltLemmas.{through_halt}
use Rattle.planning_commands.proofs.plan.pinned_of.Goals as goal

pub search_of-requires-clause-pins : goal.search_of-requires-clause-pins
search_of-requires-clause-pins g c = rw c.files.ensures.files at (rw c.in-Ok-Ok.field-0-is at c.in-Ok-Ok.ensures.node).apart

pub returns-in-Ok-Ok-clause-report : goal.returns-in-Ok-Ok-clause-report
returns-in-Ok-Ok-clause-report g c =
    let spells = rw c.files.ensures.files at (rw c.in-Ok-Ok.field-0-is at c.in-Ok-Ok.ensures.node) in
    IfOk-weaker c.search_of.result _ _ (λ report has. inr (record { pins = c.in-Ok-Ok.pins; spells = spells; searched = has })) c.search_of.ensures.report

pub returns-in-Ok-Ok-clause-left : goal.returns-in-Ok-Ok-clause-left
returns-in-Ok-Ok-clause-left g c = λ tells.
    let spells = rw c.files.ensures.files at (rw c.in-Ok-Ok.field-0-is at c.in-Ok-Ok.ensures.node) in
    inr (record { pins = c.in-Ok-Ok.pins; spells = spells; left = c.search_of.ensures.left tells })

pub returns-in-Ok-Err-clause-report : goal.returns-in-Ok-Err-clause-report
returns-in-Ok-Err-clause-report g c =
    let bad = rw c.files.ensures.files at (rw c.in-Ok-Err.field-0-is at c.in-Ok-Err.ensures.bad) in
    through_halt _ _ c.refused.result c.or_halt.result c.or_halt.ensures.ok c.refused.ensures
    (λ report refuses. inl (record { bad = c.in-Ok-Err.place; fault = bad; refuses = refuses }, refl))

pub returns-in-Ok-Err-clause-left : goal.returns-in-Ok-Err-clause-left
returns-in-Ok-Err-clause-left g c = λ tells. inl refl

pub returns-in-Err-clause-left : goal.returns-in-Err-clause-left
returns-in-Err-clause-left g c = λ tells. inl refl
