use Rattle.std.proofs.Common.{◌∙◌, subst}
use Rattle.seed_io.specs.Shelf.{Told}
use Rattle.planning_commands.proofs.CheckLemmas.{ok_both}
use Rattle.trial_commands.specs.Gap.{GapOf}
use Rattle.trial_commands.proofs.TrialLemmas.{gap_over, gap_refused}
use Rattle.trial_commands.proofs.gap.gap.Goals as goal

pub returns-in-Ok-clause-report : goal.returns-in-Ok-clause-report
returns-in-Ok-clause-report g c =
    let held = rw c.in-Ok.is at c.in_ok-recipe.ensures.recipe in
    let read = c.in_ok-recipe.ensures in
    ok_both c.gap_by.result (λ tells. c.gap_by.ensures.told (read.tells ∙ tells)) c.gap_by.ensures.heard
    (λ report told heard. gap_over _ _ _ _ c.in-Ok.recipe _ _ held (λ tells. subst (λ (map : Told). GapOf map c.args.certificate.now report.status report.text.items c.in-Ok.recipe) read.same (told tells)) heard)

pub returns-in-Err-clause-report : goal.returns-in-Err-clause-report
returns-in-Err-clause-report g c = gap_refused _ _ _ c.args.certificate.now _ _ (rw c.in-Err.is at c.in_ok-recipe.ensures.refused)
