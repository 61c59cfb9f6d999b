use Rattle.std.proofs.Common.{◌∙◌}
use Rattle.std.proofs.lemmas.Result.{IfOk-weaker}
use Rattle.command_endings.proofs.CreatingLemmas.{leaves_before}
use Rattle.planning_commands.proofs.SearchLemmas.{lacking_ends}
use Rattle.order_commands.specs.Sort.{SortEnds, SortOf}
use Rattle.order_commands.proofs.SortLemmas.{sort_ends, sort_left}
use Rattle.order_commands.proofs.sort.sort.Goals as goal

pub returns-in-Ok-clause-report : goal.returns-in-Ok-clause-report
returns-in-Ok-clause-report g c =
    let held = rw c.in-Ok.is at c.in_ok-recipe.ensures.recipe in
    let read = c.in_ok-recipe.ensures in
    IfOk-weaker c.sort_of.result _ _
    (λ report has. sort_ends c.in-Ok.recipe _ _ _ _ _ _ _ _ read.same held (λ tells. c.sort_of.ensures.others (read.tells ∙ tells)) (rw read.tells at has)) c.sort_of.ensures.report

pub returns-in-Ok-clause-left : goal.returns-in-Ok-clause-left
returns-in-Ok-clause-left g c = λ tells.
    let held = rw c.in-Ok.is at c.in_ok-recipe.ensures.recipe in
    let read = c.in_ok-recipe.ensures in
    sort_left c.in-Ok.recipe _ _ _ _ _ _ read.same held (c.sort_of.ensures.others (read.tells ∙ tells)) (c.sort_of.ensures.left (read.tells ∙ tells))

pub returns-in-Err-clause-report : goal.returns-in-Err-clause-report
returns-in-Err-clause-report g c = lacking_ends SortOf _ _ _ _ _ _ _ c.in_ok-recipe.ensures.same (rw c.in-Err.is at c.in_ok-recipe.ensures.refused)

pub returns-in-Err-clause-left : goal.returns-in-Err-clause-left
returns-in-Err-clause-left g c = λ tells. leaves_before (SortEnds c.args.name.now) _ _ _ _ c.in_ok-recipe.ensures.same

pub returns-in_err-recipe-clause-left : goal.returns-in_err-recipe-clause-left
returns-in_err-recipe-clause-left g c = λ tells. leaves_before (SortEnds c.args.name.now) _ _ _ _ c.in_err-recipe.ensures.same
