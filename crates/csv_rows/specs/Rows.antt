-- The rows of a text: the records that `csv` reads with no header, any lengths and no trimming.
use Rattle.std.specs.Prelude.{ℕ, List, [], ◌∷◌, ◌++◌}
use Rattle.csv.specs.Reading.{records, strip_bom, default_config}
use Rattle.csv.specs.Writing.{row_text, default_writer}

-- the rows, each a list of fields, each field its bytes
abbrev pub rows_of : List ℕ → List (List (List ℕ))
rows_of text = records default_config (strip_bom text)

-- the text of rows, as `csv` writes them by its defaults
unfoldable pub rows_text : List (List (List ℕ)) → List ℕ
rows_text [] = []
rows_text (row ∷ rows) = row_text default_writer row ++ rows_text rows
