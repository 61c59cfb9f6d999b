use Rattle.command_texts.proofs.HaltLemmas.{through_halt}
use Rattle.planning_commands.proofs.MadeCause.{made_cause}
use Rattle.planning_commands.proofs.ReadingLemmas.{ends_read}
use Rattle.trial_commands.proofs.greedy.greedy.Goals as goal

pub returns-in-Ok-clause-report : goal.returns-in-Ok-clause-report
returns-in-Ok-clause-report g c =
    let held = rw c.in-Ok.is at c.in_ok-recipe.ensures.recipe in
    through_halt _ _ c.greedy_of.result c.or_halt.result c.or_halt.ensures.ok c.greedy_of.ensures (λ report rest. ends_read _ _ _ _ _ c.in-Ok.recipe _ held rest)

pub returns-in-Ok-clause-cause : goal.returns-in-Ok-clause-cause
returns-in-Ok-clause-cause g c = made_cause _ _ c.recipe_named.result _ c.or_halt.result c.in_ok-recipe.was c.recipe_named.ensures.cause c.or_halt.ensures.err
