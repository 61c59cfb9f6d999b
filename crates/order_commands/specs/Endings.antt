-- How each of these commands ends, by the values of its operands, and what two ends over the same byte strings have in common.
use Rattle.goseed_words.specs.Asked.{Takes}
use Rattle.goseed_words.specs.Commands.{Carry, Sort, row}
use Rattle.command_endings.specs.Laws.{Common, IsSameEnd}
use Rattle.command_endings.specs.Worlds.{Creating, Ending, OnShelf}
use Rattle.order_commands.specs.Carry.{CarryEnds, IsOneCarry}
use Rattle.order_commands.specs.Sort.{SortEnds}

abbrev pub sort_ends : Takes (row Sort).operands Ending
sort_ends = λ recipe out. OnShelf (Creating out (SortEnds recipe))

abbrev pub carry_ends : Takes (row Carry).operands Ending
carry_ends = λ recipe document other out. OnShelf (Creating out (CarryEnds recipe document other out))

-- one status, one text, and one thing left behind each name
abbrev pub sort_common : Takes (row Sort).operands Common
sort_common = λ recipe out. IsSameEnd

-- one refusal, or one status and one text
abbrev pub carry_common : Takes (row Carry).operands Common
carry_common = λ recipe document other out. IsOneCarry out
