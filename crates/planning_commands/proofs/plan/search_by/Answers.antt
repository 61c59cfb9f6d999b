use Rattle.std.proofs.Common.{refl}
use Rattle.command_texts.proofs.HaltLemmas.{through_halt}
use Rattle.planning_commands.proofs.SearchLemmas.{front_searched, has_searched, whole_front}
use Rattle.planning_commands.proofs.plan.search_by.Goals as goal

pub returns-in-Ok-clause-report : goal.returns-in-Ok-clause-report
returns-in-Ok-clause-report g c =
    let lawful = rw c.requires.table at c.requires.lawful in
    let said = rw c.requires.table at c.in-Ok.ensures.said in
    let width = rw c.requires.table at c.in-Ok.ensures.width in
    let laws = c.certificate_laws.ensures in
    through_halt _ _ c.report_on.result c.or_halt.result c.or_halt.ensures.ok c.report_on.ensures
    (λ report reports. has_searched laws.sound laws.short c.merge_laws.ensures.sums laws.names c.set_text_laws.ensures.one_spelling c.args.recipe.now lawful _ _ c.requires.pins _ c.requires.budget
    _ c.in-Ok.outcome _ _ _ said (λ tells. rw c.requires.table at (c.in-Ok.ensures.done tells)) width reports)

pub returns-in-Ok-clause-left : goal.returns-in-Ok-clause-left
returns-in-Ok-clause-left g c = λ tells.
    let laws = c.certificate_laws.ensures in
    let lawful = rw c.requires.table at c.requires.lawful in
    let planned = rw c.requires.table at (c.in-Ok.ensures.done tells) in
    front_searched laws.sound laws.short c.merge_laws.ensures.sums laws.names c.set_text_laws.ensures.one_spelling c.args.recipe.now lawful _ _ c.requires.pins _ c.requires.budget _ _
    (whole_front _ _ _ _ _ _ c.in-Ok.outcome planned)

pub returns-in-Err-Fault-clause-left : goal.returns-in-Err-Fault-clause-left
returns-in-Err-Fault-clause-left g c = λ tells.
    let laws = c.certificate_laws.ensures in
    let lawful = rw c.requires.table at c.requires.lawful in
    front_searched laws.sound laws.short c.merge_laws.ensures.sums laws.names c.set_text_laws.ensures.one_spelling c.args.recipe.now lawful _ _ c.requires.pins _ c.requires.budget _ _
    (rw c.requires.table at (c.in-Err-Fault.ensures.front tells refl))

pub returns-in-Err-Memory-clause-left : goal.returns-in-Err-Memory-clause-left
returns-in-Err-Memory-clause-left g c = λ tells.
    let laws = c.certificate_laws.ensures in
    let lawful = rw c.requires.table at c.requires.lawful in
    front_searched laws.sound laws.short c.merge_laws.ensures.sums laws.names c.set_text_laws.ensures.one_spelling c.args.recipe.now lawful _ _ c.requires.pins _ c.requires.budget _ _
    (rw c.requires.table at (c.in-Err-Memory.ensures.front tells refl))
