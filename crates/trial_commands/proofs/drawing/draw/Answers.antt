use Rattle.std.proofs.lemmas.Result.{IfOk-weaker}
use Rattle.trial_commands.proofs.GenLemmas.{gen_over, leaves_drawn, leaves_nothing}
use Rattle.trial_commands.proofs.drawing.draw.Goals as goal

pub returns-in-Ok-clause-report : goal.returns-in-Ok-clause-report
returns-in-Ok-clause-report g c = IfOk-weaker c.plan_drawn.result _ _ (λ report gives. gen_over _ _ _ c.in-Ok.drawn c.in-Ok.ensures _ _ _ _ gives) c.plan_drawn.ensures.report

pub returns-in-Ok-clause-left : goal.returns-in-Ok-clause-left
returns-in-Ok-clause-left g c = λ tells. leaves_drawn _ _ c.in-Ok.drawn c.in-Ok.ensures _ _ (c.plan_drawn.ensures.left tells)

pub returns-in-Err-clause-left : goal.returns-in-Err-clause-left
returns-in-Err-clause-left g c = λ tells. leaves_nothing _ _ _
