-- The files of a recipe in another order.
use Rattle.std.specs.Prelude.{◌≡◌, ℕ, List, map}
use Rattle.std.specs.List.{fold}
use Rattle.recipe_reader.specs.Recipes.{NamedChunk, RecipeValue, empty_recipe, file_number, name_at, size_at, with_file, with_pair}
use Rattle.recipe_reader.specs.WrittenRows.{chunks_used, file_at}
use Rattle.recipe_order.specs.Orders.{IsOrder}
use Rattle.recipe_order.specs.Reordered.{IsReordered}

-- the chunk with a number
abbrev pub chunk_at : RecipeValue → ℕ → NamedChunk
chunk_at recipe chunk = record { name = name_at recipe chunk; size = size_at recipe chunk }

-- a recipe once a file of it uses these chunks of another one
abbrev pub with_chunks_of : RecipeValue → ℕ → RecipeValue → List ℕ → RecipeValue
with_chunks_of other file recipe chunks = fold (λ r chunk. with_pair r file (chunk_at other chunk)) recipe chunks

-- a recipe with a file of another one, and its chunks, in the order of the other's pairs
abbrev pub with_file_of : RecipeValue → RecipeValue → ℕ → RecipeValue
with_file_of other recipe file =
    let name = file_at other file in
    let named = with_file recipe name in
    with_chunks_of other (file_number named.files name) named (chunks_used other.pairs file)

-- the files of a recipe in an order; chunks by first appearance in it
abbrev pub in_order : RecipeValue → List ℕ → RecipeValue
in_order recipe order = fold (with_file_of recipe) empty_recipe order

-- a recipe sorted by falling shared bytes
pub record IsSorted (recipe sorted : RecipeValue) : Type 0 where
  pub order : List ℕ
  pub is_order : IsOrder recipe order
  pub is : sorted ≡ in_order recipe order
  pub files : sorted.files ≡ map (file_at recipe) order
  pub same : IsReordered recipe sorted
