-- The rows by which a recipe is written.
use Rattle.std.specs.Prelude.{ℕ, ◌==◌, List, [], ◌∷◌, length, map, filter, slice_index_or, codes}
use Rattle.std.specs.Fmt.{decimal}
use Rattle.std.specs.List.{flat_map, range_with_len}
use Rattle.hex.specs.Hex.{encode_lower}
use Rattle.recipe_reader.specs.Recipes.{RecipeValue, name_at, size_at}

-- the name of a file
abbrev pub file_at : RecipeValue → ℕ → List ℕ
file_at recipe file = slice_index_or recipe.files file []

-- the chunks that a file uses, by first appearance of its pairs
abbrev pub chunks_used : List (ℕ × ℕ) → ℕ → List ℕ
chunks_used pairs file = map (λ (p : ℕ × ℕ). p.1) (filter (λ (p : ℕ × ℕ). p.0 == file) pairs)

-- the row of a pair: the chunk's name in lower-case hex, and its size in decimal
abbrev pub pair_row : RecipeValue → ℕ → ℕ → List (List ℕ)
pair_row recipe file chunk = file_at recipe file ∷ encode_lower (name_at recipe chunk) ∷ decimal (size_at recipe chunk) ∷ []

-- the rows of a file that uses these chunks; one that uses none has a row all the same
abbrev pub file_rows : RecipeValue → ℕ → List ℕ → List (List (List ℕ))
file_rows recipe file [] = (file_at recipe file ∷ [] ∷ codes "0" ∷ []) ∷ []
file_rows recipe file (chunk ∷ chunks) = map (pair_row recipe file) (chunk ∷ chunks)

-- file by file
abbrev pub rows_of_recipe : RecipeValue → List (List (List ℕ))
rows_of_recipe recipe = flat_map (λ file. file_rows recipe file (chunks_used recipe.pairs file)) (range_with_len 0 (length recipe.files))
