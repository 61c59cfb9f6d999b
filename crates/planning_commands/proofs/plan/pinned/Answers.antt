use Rattle.std.proofs.Common.{◌∙◌}
use Rattle.std.proofs.lemmas.Result.{IfOk-weaker}
use Rattle.command_endings.proofs.CreatingLemmas.{leaves_before}
use Rattle.planning_commands.specs.Plan.{PinnedEnds, PinnedOf}
use Rattle.planning_commands.proofs.SearchLemmas.{lacking_ends, pinned_ends, pinned_left}
use Rattle.planning_commands.proofs.plan.pinned.Goals as goal

pub returns-in-Ok-clause-report : goal.returns-in-Ok-clause-report
returns-in-Ok-clause-report g c =
    let held = rw c.in-Ok.is at c.in_ok-recipe.ensures.recipe in
    let read = c.in_ok-recipe.ensures in
    let aim = c.args.aim in
    IfOk-weaker c.pinned_of.result _ _
    (λ report ended. pinned_ends c.in-Ok.recipe aim.target aim.slack aim.nodes c.args.go.now c.args.stay.now _ _ _ _ _ read.same _ _ _ held (λ tells. c.pinned_of.ensures.others (read.tells ∙ tells)) (rw read.tells at ended))
    (rw (c.as_bytes.ensures.value, c.as_bytes-in-Ok.ensures.value) at c.pinned_of.ensures.report)

pub returns-in-Ok-clause-left : goal.returns-in-Ok-clause-left
returns-in-Ok-clause-left g c = λ tells.
    let held = rw c.in-Ok.is at c.in_ok-recipe.ensures.recipe in
    let read = c.in_ok-recipe.ensures in
    let aim = c.args.aim in
    pinned_left c.in-Ok.recipe aim.target aim.slack aim.nodes c.args.go.now c.args.stay.now _ _ _ _ _ read.same _ held (c.pinned_of.ensures.others (read.tells ∙ tells))
    (rw (c.as_bytes.ensures.value, c.as_bytes-in-Ok.ensures.value) at (c.pinned_of.ensures.left (read.tells ∙ tells)))

pub returns-in-Err-clause-report : goal.returns-in-Err-clause-report
returns-in-Err-clause-report g c =
    let aim = c.args.aim in
    lacking_ends (PinnedOf aim.target aim.slack aim.nodes c.args.go.now c.args.stay.now) _ _ _ _ _ _ _ c.in_ok-recipe.ensures.same (rw c.in-Err.is at c.in_ok-recipe.ensures.refused)

pub returns-in-Err-clause-left : goal.returns-in-Err-clause-left
returns-in-Err-clause-left g c = λ tells.
    leaves_before (PinnedEnds c.args.name.now c.args.aim.target c.args.aim.slack c.args.aim.nodes c.args.go.now c.args.stay.now) _ _ _ _ c.in_ok-recipe.ensures.same

pub returns-in_err-recipe-clause-left : goal.returns-in_err-recipe-clause-left
returns-in_err-recipe-clause-left g c = λ tells.
    leaves_before (PinnedEnds c.args.name.now c.args.aim.target c.args.aim.slack c.args.aim.nodes c.args.go.now c.args.stay.now) _ _ _ _ c.in_err-recipe.ensures.same
