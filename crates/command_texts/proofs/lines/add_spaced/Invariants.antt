use Rattle.std.proofs.Common.{◌≡◌, ◌++◌, take}
use Rattle.command_texts.specs.Lines.{spaced}
use Rattle.command_texts.proofs.lines.add_spaced.Given as goal

abbrev pub invariant-loop-number : goal.invariant-loop-number
invariant-loop-number l = l.text.items ≡ l.fn.text.items ++ spaced (take l.number-index l.numbers)
