-- How each of these commands ends, by the values of its operands, and what two ends over the same byte strings have in common.
use Rattle.goseed_words.specs.Asked.{Takes}
use Rattle.goseed_words.specs.Commands.{Gen, Greedy, Gap, row}
use Rattle.command_endings.specs.Laws.{Common, IsSameEnd}
use Rattle.command_endings.specs.Worlds.{Ending, Reading, OnShelf}
use Rattle.trial_commands.specs.Gap.{GapEnds}
use Rattle.trial_commands.specs.Gen.{GenEnds, AgreeInDrawn}
use Rattle.trial_commands.specs.Greedy.{GreedyEnds}

abbrev pub gen_ends : Takes (row Gen).operands Ending
gen_ends = λ number files. OnShelf (GenEnds number files)

abbrev pub greedy_ends : Takes (row Greedy).operands Ending
greedy_ends = λ recipe target slack. OnShelf (Reading (GreedyEnds recipe target slack))

abbrev pub gap_ends : Takes (row Gap).operands Ending
gap_ends = λ recipe certificate. OnShelf (Reading (GapEnds recipe certificate))

-- answers that agree, and one text where one certificate is left
abbrev pub gen_common : Takes (row Gen).operands Common
gen_common = λ number files. AgreeInDrawn

-- one status and one text
abbrev pub greedy_common : Takes (row Greedy).operands Common
greedy_common = λ recipe target slack. IsSameEnd

abbrev pub gap_common : Takes (row Gap).operands Common
gap_common = λ recipe certificate. IsSameEnd
