-- Recipes drawn from a number.
use Rattle.std.specs.Prelude.{ℕ, zero, suc, ◌+◌, ◌*◌, ◌/◌, ◌%◌, ◌++◌, List, map, Some, codes}
use Rattle.std.specs.Fmt.{decimal}
use Rattle.std.specs.Int.{to_be_bytes, w32}
use Rattle.std.specs.List.{range_with_len}
use Rattle.recipe_reader.specs.Recipes.{NamedChunk, RecipeValue, empty_recipe}
use Rattle.recipe_reader.specs.RecipeRows.{Row, with_row}

-- a draw: the number that follows on a number
abbrev pub next_number : ℕ → ℕ
next_number x = (75 * x + 74) % 65537

-- the number that the draws have come to
abbrev pub number_drawn : ℕ → ℕ → ℕ
number_drawn number zero = number
number_drawn number (suc draws) = next_number (number_drawn number draws)

-- the chunk with a number: its name in four bytes, the most significant first, and its size
abbrev pub chunk_numbered : ℕ → NamedChunk
chunk_numbered c = record { name = to_be_bytes w32 c; size = 1000 + 377 * c % 9000 }

-- the name of the file with a number
abbrev pub file_named : ℕ → List ℕ
file_named file = codes "f" ++ decimal file

-- that a file uses the chunk with a number
abbrev pub row_of : List ℕ → ℕ → Row
row_of file chunk = record { file = file; chunk = Some (chunk_numbered chunk) }

-- what the draw behind so many others says: four draws for each file, and the chunk is the number drawn, modulo three
-- times the number of files
abbrev pub row_drawn : ℕ → ℕ → ℕ → Row
row_drawn number files draw = row_of (file_named (draw / 4)) (number_drawn number (suc draw) % (3 * files))

-- all that is drawn
abbrev pub rows_drawn : ℕ → ℕ → List Row
rows_drawn number files = map (row_drawn number files) (range_with_len 0 (4 * files))

-- the recipe of the first draws
abbrev pub recipe_drawn : ℕ → ℕ → ℕ → RecipeValue
recipe_drawn number files zero = empty_recipe
recipe_drawn number files (suc draws) = with_row (recipe_drawn number files draws) (row_drawn number files draws)
