-- How each command on plans ends, by the values of its operands, and what two ends over the same byte strings have in common.
use Rattle.goseed_words.specs.Asked.{Takes}
use Rattle.goseed_words.specs.Commands.{Best, Weigh, Check, Relax, Plan, Pinned, row}
use Rattle.command_endings.specs.Laws.{Common, IsSameEnd, IsSameEndWith}
use Rattle.command_endings.specs.Worlds.{Ending, Creating, Reading, OnShelf}
use Rattle.planning_commands.specs.Best.{BestEnds}
use Rattle.planning_commands.specs.Check.{CheckEnds}
use Rattle.planning_commands.specs.Plan.{PlanEnds, PinnedEnds, IsOneSearch}
use Rattle.planning_commands.specs.Relax.{RelaxEnds, IsOneValue}
use Rattle.planning_commands.specs.Weigh.{WeighEnds}

abbrev pub best_ends : Takes (row Best).operands Ending
best_ends = λ recipe target slack. OnShelf (Reading (BestEnds recipe target slack))

abbrev pub weigh_ends : Takes (row Weigh).operands Ending
weigh_ends = λ recipe set. OnShelf (Reading (WeighEnds recipe set))

abbrev pub check_ends : Takes (row Check).operands Ending
check_ends = λ recipe certificate. OnShelf (Reading (CheckEnds recipe certificate))

abbrev pub relax_ends : Takes (row Relax).operands Ending
relax_ends = λ recipe target slack inside outside. OnShelf (Reading (RelaxEnds recipe target slack inside outside))

abbrev pub plan_ends : Takes (row Plan).operands Ending
plan_ends = λ recipe document target slack nodes. OnShelf (Creating document (PlanEnds recipe target slack nodes))

abbrev pub pinned_ends : Takes (row Pinned).operands Ending
pinned_ends = λ recipe document target slack nodes go stay. OnShelf (Creating document (PinnedEnds recipe target slack nodes go stay))

-- one status and one text
abbrev pub best_common : Takes (row Best).operands Common
best_common = λ recipe target slack. IsSameEnd

abbrev pub weigh_common : Takes (row Weigh).operands Common
weigh_common = λ recipe set. IsSameEnd

abbrev pub check_common : Takes (row Check).operands Common
check_common = λ recipe certificate. IsSameEnd

-- one status, and one text or one value
abbrev pub relax_common : Takes (row Relax).operands Common
relax_common = λ recipe target slack inside outside. IsSameEndWith IsOneValue

-- one refusal, or answers that agree
abbrev pub plan_common : Takes (row Plan).operands Common
plan_common = λ recipe document target slack nodes. IsOneSearch document

abbrev pub pinned_common : Takes (row Pinned).operands Common
pinned_common = λ recipe document target slack nodes go stay. IsOneSearch document
