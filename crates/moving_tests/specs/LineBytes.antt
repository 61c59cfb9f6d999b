-- How many bytes the whole lines of a text have.
use Rattle.std.specs.Prelude.{ℕ, List, length, sum_by}
use Rattle.seed_io.specs.Lines.{LineText, Whole, Wide, Unended}

-- the bytes of a whole line, its LF not counted
abbrev pub size_of_line : LineText → ℕ
size_of_line (Whole line) = length line
size_of_line Wide = 0
size_of_line Unended = 0

abbrev pub bytes_of_lines : List LineText → ℕ
bytes_of_lines lines = sum_by size_of_line lines
