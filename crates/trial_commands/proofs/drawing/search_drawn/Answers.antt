use Rattle.std.proofs.Common.{◌∙◌}
use Rattle.planning_commands.proofs.CheckLemmas.{ok_both}
use Rattle.trial_commands.proofs.GenLemmas.{held_valid, leaves_document, searched_over}
use Rattle.trial_commands.proofs.drawing.search_drawn.Goals as goal

pub returns-in-Ok-clause-report : goal.returns-in-Ok-clause-report
returns-in-Ok-clause-report g c =
    let has = rw (c.range_within-range.ensures.range, c.total.ensures.total) at c.in-Ok.ensures.report in
    let tell = c.search_by.ensures.tells in
    ok_both c.judge.result (λ told. c.judge.ensures.told (tell ∙ told) (held_valid _ _ _ _ _ has told)) c.judge.ensures.heard
    (λ report passes judges. searched_over _ _ _ _ _ _ _ _ c.judge.ensures.same has passes judges)

pub returns-in-Ok-clause-left : goal.returns-in-Ok-clause-left
returns-in-Ok-clause-left g c = λ told. rw c.judge.ensures.same (leaves_document _ _ _ (rw (c.range_within-range.ensures.range, c.total.ensures.total) at (c.search_by.ensures.left told)))

pub returns-in-Err-clause-left : goal.returns-in-Err-clause-left
returns-in-Err-clause-left g c = λ told. leaves_document _ _ _ (rw (c.range_within-range.ensures.range, c.total.ensures.total) at (c.search_by.ensures.left told))
