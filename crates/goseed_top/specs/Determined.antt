-- Words and what a command finds determine how it ends.
use Rattle.std.specs.Prelude.{ℕ, List, Result, Ok, Err}
use Rattle.goseed_words.specs.declared.order.Order.{Order}
use Rattle.goseed_words.specs.declared.order.WordError.{WordError}
use Rattle.goseed_words.specs.Commands.{Command, Best, Weigh, Check, Relax, Plan, Pinned, Gen, Greedy, Gap, Sort, Carry, row}
use Rattle.goseed_words.specs.Asked.{Asked, Takes}
use Rattle.goseed_words.specs.Orders.{Means, asked_of}
use Rattle.command_endings.specs.Laws.{Common, IsSameEnd, IsDetermined, common_with}
use Rattle.order_commands.specs.Endings.{carry_common, sort_common}
use Rattle.planning_commands.specs.Endings.{best_common, weigh_common, check_common, relax_common, plan_common, pinned_common}
use Rattle.trial_commands.specs.Endings.{gen_common, greedy_common, gap_common}
use Rattle.goseed_top.specs.Endings.{Ends}

-- What two ends of each command have in common: one status and one text, but for these. Of `relax` a text with a value is
-- determined as far as the value. Of a search it is determined which answers exclude one another, how many bytes a best plan
-- replicates, and all names but that of the certificate; of `gen` the text too, where one certificate is left; and of `carry` all but
-- how its certificate shows the plan.
abbrev pub command_common : (command : Command) → Takes (row command).operands Common
command_common Best = best_common
command_common Weigh = weigh_common
command_common Check = check_common
command_common Relax = relax_common
command_common Plan = plan_common
command_common Pinned = pinned_common
command_common Gen = gen_common
command_common Greedy = greedy_common
command_common Gap = gap_common
command_common Sort = sort_common
command_common Carry = carry_common

abbrev pub AskedCommon : Asked → Common
AskedCommon asked = common_with asked.command (command_common asked.command) asked.values

-- the same of words that mean this: words that mean no order have one status and one text
abbrev pub MeaningCommon : Result Order WordError → Common
MeaningCommon (Ok order) = AskedCommon (asked_of order)
MeaningCommon (Err error) = IsSameEnd

-- whatever a command with these words finds, two of its ends have this in common
abbrev pub OneEnding : Type 0
OneEnding = (words : List (List ℕ)) (meaning : Result Order WordError) → Means words meaning → IsDetermined (MeaningCommon meaning) (Ends words)
