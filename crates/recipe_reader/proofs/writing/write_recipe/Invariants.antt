use Rattle.std.proofs.Common.{◌≡◌, Some}
use Rattle.std.specs.List.{flat_map, range_with_len}
use Rattle.csv_rows.specs.Rows.{rows_text}
use Rattle.recipe_reader.specs.WrittenRows.{chunks_used, file_rows}
use Rattle.recipe_reader.proofs.writing.write_recipe.Given as goal

abbrev pub invariant-loop-file : goal.invariant-loop-file
invariant-loop-file l = l.writer ≡ Some (rows_text (flat_map (λ file. file_rows l.recipe file (chunks_used l.recipe.pairs file)) (range_with_len 0 l.file)))
