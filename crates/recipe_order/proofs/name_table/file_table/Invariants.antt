use Rattle.std.proofs.Common.{◌≡◌, take}
use Rattle.recipe_order.proofs.name_table.file_table.Given as goal

abbrev pub invariant-loop-file : goal.invariant-loop-file
invariant-loop-file l = l.table ≡ take l.file l.recipe.files
