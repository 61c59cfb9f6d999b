use Rattle.std.specs.Prelude.{map}
use Rattle.std.proofs.Common.{◌≡◌, take}
use Rattle.csv_rows.specs.Rows.{rows_text}
use Rattle.csv_rows.specs.Written.{with_more}
use Rattle.recipe_reader.specs.WrittenRows.{pair_row}
use Rattle.recipe_reader.proofs.writing.write_file.Given as goal

abbrev pub invariant-loop-chunk : goal.invariant-loop-chunk
invariant-loop-chunk l = l.writer ≡ with_more l.fn.writer (rows_text (map (pair_row l.recipe l.file) (take l.chunk-index l.chunks)))
