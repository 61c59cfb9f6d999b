use Rattle.std.proofs.Common.{refl, inl}
use Rattle.planning_commands.proofs.plan.search_of.Goals as goal

pub returns-in-Ok-clause-left : goal.returns-in-Ok-clause-left
returns-in-Ok-clause-left g c = λ tells. rw (c.range_within-range.ensures.range, c.total.ensures.total) at (c.search_by.ensures.left tells)

pub returns-in-Err-clause-left : goal.returns-in-Err-clause-left
returns-in-Err-clause-left g c = λ tells. inl refl
