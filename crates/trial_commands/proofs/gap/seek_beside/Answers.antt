use Rattle.trial_commands.proofs.TrialLemmas.{tries_root}
use Rattle.trial_commands.proofs.gap.seek_beside.Goals as goal

pub report_beside-requires-clause-tried : goal.report_beside-requires-clause-tried
report_beside-requires-clause-tried c = tries_root c.args.recipe.now c.args.checked.now.range c.in_ok-tried.tried c.args.checked.now.pins _ c.as_ref.ensures.value c.in_ok-tried.ensures
