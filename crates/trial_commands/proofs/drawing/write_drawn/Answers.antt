use Rattle.std.proofs.Common.{◌∙◌}
use Rattle.std.proofs.lemmas.Result.{IfOk-weaker}
use Rattle.trial_commands.proofs.GenLemmas.{gives_both, leaves_both, leaves_first}
use Rattle.trial_commands.proofs.drawing.write_drawn.Goals as goal

pub returns-in-Ok-clause-report : goal.returns-in-Ok-clause-report
returns-in-Ok-clause-report g c =
    let made = rw c.deref.ensures.value at c.create_with.ensures in
    IfOk-weaker c.search_drawn.result _ _ (λ report searched. gives_both _ _ _ _ _ _ _ _ (λ told. c.search_drawn.ensures.others (made.tells ∙ told)) made.others (λ told. rw c.deref.ensures.value at (c.in-Ok.ensures.whole told)) (rw made.tells at searched))
    c.search_drawn.ensures.report

pub returns-in-Ok-clause-left : goal.returns-in-Ok-clause-left
returns-in-Ok-clause-left g c = λ told.
    let made = rw c.deref.ensures.value at c.create_with.ensures in
    leaves_both _ _ _ _ _ (c.search_drawn.ensures.others (made.tells ∙ told)) (made.others told) (made.front told) (c.search_drawn.ensures.left (made.tells ∙ told))

pub returns-in-Err-clause-left : goal.returns-in-Err-clause-left
returns-in-Err-clause-left g c = λ told.
    let made = rw c.deref.ensures.value at c.create_with.ensures in
    leaves_first _ _ _ _ (made.others told) (made.front told)
