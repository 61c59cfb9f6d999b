use Rattle.trial_commands.proofs.GenLemmas.{leaves_none}
use Rattle.trial_commands.proofs.drawing.plan_drawn.Goals as goal

pub returns-in-Err-clause-left : goal.returns-in-Err-clause-left
returns-in-Err-clause-left g c = λ tells. leaves_none _ _ _
