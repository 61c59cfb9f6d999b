use Rattle.std.proofs.Common.{take}
use Rattle.recipe_order.specs.Matching.{AreNumbers}
use Rattle.recipe_order.proofs.name_table.file_numbers.Given as goal

abbrev pub invariant-loop-file : goal.invariant-loop-file
invariant-loop-file l = AreNumbers l.whole.files (take l.file l.part.files) l.numbers.items
