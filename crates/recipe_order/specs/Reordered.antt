-- Recipes that are one but for the order of their files and chunks, and sets of files by name.
use Rattle.std.specs.Prelude.{ℕ, ◌↔◌, List, Bool, Contains}
use Rattle.recipe_reader.specs.Recipes.{NamedChunk, RecipeValue, file_number}
use Rattle.recipe_reader.specs.Same.{UsesByName}
use Rattle.recipe_reader.specs.WrittenRows.{file_at}

-- the same file names, the same chunks with their sizes, the same pairs by name
pub record IsReordered (a b : RecipeValue) : Type 0 where
  pub files : (name : List ℕ) → Contains a.files name ↔ Contains b.files name
  pub chunks : (chunk : NamedChunk) → Contains a.chunks chunk ↔ Contains b.chunks chunk
  pub pairs : (file chunk : List ℕ) → UsesByName a file chunk ↔ UsesByName b file chunk

-- the files that have one of these names
abbrev pub named_set : RecipeValue → (List ℕ → Bool) → ℕ → Bool
named_set recipe names file = names (file_at recipe file)

-- the names of the files of a set
abbrev pub names_of : RecipeValue → (ℕ → Bool) → List ℕ → Bool
names_of recipe set name = set (file_number recipe.files name)

-- the files of another recipe that have the names of a set's files
abbrev pub carried_set : RecipeValue → RecipeValue → (ℕ → Bool) → ℕ → Bool
carried_set from to set = named_set to (names_of from set)
