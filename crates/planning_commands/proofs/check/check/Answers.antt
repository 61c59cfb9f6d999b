use Rattle.std.proofs.Common.{◌∙◌, subst}
use Rattle.seed_io.specs.Shelf.{Told}
use Rattle.planning_commands.specs.Check.{CheckOf}
use Rattle.planning_commands.proofs.CheckLemmas.{check_over, check_refused, ok_both}
use Rattle.planning_commands.proofs.check.check.Goals as goal

pub returns-in-Ok-clause-report : goal.returns-in-Ok-clause-report
returns-in-Ok-clause-report g c =
    let held = rw c.in-Ok.is at c.in_ok-recipe.ensures.recipe in
    let read = c.in_ok-recipe.ensures in
    ok_both c.check_by.result (λ tells. c.check_by.ensures.told (read.tells ∙ tells)) c.check_by.ensures.heard
    (λ report told heard. check_over _ _ _ _ c.in-Ok.recipe _ _ held (λ tells. subst (λ (map : Told). CheckOf map c.args.certificate.now report.status report.text.items c.in-Ok.recipe) read.same (told tells)) heard)

pub returns-in-Err-clause-report : goal.returns-in-Err-clause-report
returns-in-Err-clause-report g c = check_refused _ _ _ c.args.certificate.now _ _ (rw c.in-Err.is at c.in_ok-recipe.ensures.refused)
