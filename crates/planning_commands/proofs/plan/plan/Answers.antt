use Rattle.std.proofs.Common.{◌∙◌}
use Rattle.std.specs.Prelude.{None}
use Rattle.std.proofs.lemmas.Result.{IfOk-weaker}
use Rattle.command_endings.proofs.CreatingLemmas.{leaves_before}
use Rattle.planning_commands.specs.Best.{range_in}
use Rattle.planning_commands.specs.Plan.{PlanEnds, PlanOf}
use Rattle.planning_commands.proofs.SearchLemmas.{lacking_ends, search_ends, search_left}
use Rattle.planning_commands.proofs.plan.plan.Goals as goal

pub returns-in-Ok-clause-report : goal.returns-in-Ok-clause-report
returns-in-Ok-clause-report g c =
    let held = rw c.in-Ok.is at c.in_ok-recipe.ensures.recipe in
    let read = c.in_ok-recipe.ensures in
    let aim = c.args.aim in
    IfOk-weaker c.search_of.result _ _
    (λ report has. search_ends c.in-Ok.recipe (range_in c.in-Ok.recipe aim.target aim.slack) None aim.nodes (PlanOf aim.target aim.slack aim.nodes) (λ status text now searched. searched) _ _ _ _ _ _ _ _
    read.same held (λ tells. c.search_of.ensures.others (read.tells ∙ tells)) (rw read.tells at has)) c.search_of.ensures.report

pub returns-in-Ok-clause-left : goal.returns-in-Ok-clause-left
returns-in-Ok-clause-left g c = λ tells.
    let held = rw c.in-Ok.is at c.in_ok-recipe.ensures.recipe in
    let read = c.in_ok-recipe.ensures in
    let aim = c.args.aim in
    search_left c.in-Ok.recipe (range_in c.in-Ok.recipe aim.target aim.slack) None aim.nodes (PlanOf aim.target aim.slack aim.nodes) (λ status text now searched. searched) _ _ _ _ _ _
    read.same held (c.search_of.ensures.others (read.tells ∙ tells)) (c.search_of.ensures.left (read.tells ∙ tells))

pub returns-in-Err-clause-report : goal.returns-in-Err-clause-report
returns-in-Err-clause-report g c =
    let aim = c.args.aim in
    lacking_ends (PlanOf aim.target aim.slack aim.nodes) _ _ _ _ _ _ _ c.in_ok-recipe.ensures.same (rw c.in-Err.is at c.in_ok-recipe.ensures.refused)

pub returns-in-Err-clause-left : goal.returns-in-Err-clause-left
returns-in-Err-clause-left g c = λ tells. leaves_before (PlanEnds c.args.name.now c.args.aim.target c.args.aim.slack c.args.aim.nodes) _ _ _ _ c.in_ok-recipe.ensures.same

pub returns-in_err-recipe-clause-left : goal.returns-in_err-recipe-clause-left
returns-in_err-recipe-clause-left g c = λ tells. leaves_before (PlanEnds c.args.name.now c.args.aim.target c.args.aim.slack c.args.aim.nodes) _ _ _ _ c.in_err-recipe.ensures.same
