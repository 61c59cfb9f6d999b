-- Recipes: files and chunks by number, and who uses what.
use Rattle.std.specs.Prelude.{◌≡◌, ℕ, ◌==◌, ◌&&◌, List, [], Bool, length, sum_by, nat_eq, map, filter, slice_index_or, refl}
use Rattle.std.specs.List.{list_any, position_or_len, range_with_len}
use Rattle.std.specs.Cmp.Lexicographic.{pointwise}
use Rattle.std.specs.Coded.{Coded, code_by, coded×, coded_ℕ, coded_list}
pub use Rattle.list_facts.specs.Firsts.{with_new}
use Rattle.seed_model.specs.declared.table.Class.{Class}
use Rattle.seed_model.specs.Tables.{TableValue}

-- a chunk: the bytes of its name, and its size in bytes
pub record NamedChunk : Type 0 where
  pub name : List ℕ
  pub size : ℕ

-- Files and chunks are numbered from 0 by their places. A pair is a file's number and a chunk's number.
pub record RecipeValue : Type 0 where
  pub files : List (List ℕ)
  pub chunks : List NamedChunk
  pub pairs : List (ℕ × ℕ)

-- a chunk as a pair
abbrev pub chunk_code : Coded NamedChunk
chunk_code = code_by (List ℕ × ℕ) (coded× (coded_list coded_ℕ) coded_ℕ) (λ c. (c.name, c.size)) (λ p. record { name = p.0; size = p.1 }) (λ _. refl)

-- a recipe as a pair of a pair and a list
abbrev pub recipe_code : Coded RecipeValue
recipe_code =
    code_by ((List (List ℕ) × List NamedChunk) × List (ℕ × ℕ)) (coded× (coded× (coded_list (coded_list coded_ℕ)) (coded_list chunk_code)) (coded_list (coded× coded_ℕ coded_ℕ)))
    (λ r. ((r.files, r.chunks), r.pairs)) (λ p. record { files = p.0.0; chunks = p.0.1; pairs = p.1 }) (λ _. refl)

abbrev pub empty_recipe : RecipeValue
empty_recipe = record { files = []; chunks = []; pairs = [] }

-- whether a file has this name, a chunk has this name, a pair is this one
abbrev pub is_named : List ℕ → List ℕ → Bool
is_named name file = pointwise nat_eq name file

abbrev pub is_chunk : List ℕ → NamedChunk → Bool
is_chunk name chunk = pointwise nat_eq name chunk.name

abbrev pub is_pair : ℕ → ℕ → ℕ × ℕ → Bool
is_pair file chunk pair = (file == pair.0) && (chunk == pair.1)

-- the number of a file, and of a chunk, by name; past the last one where none has the name
abbrev pub file_number : List (List ℕ) → List ℕ → ℕ
file_number files name = position_or_len (is_named name) files

abbrev pub chunk_number : List NamedChunk → List ℕ → ℕ
chunk_number chunks name = position_or_len (is_chunk name) chunks

-- the recipe once this file is in it
abbrev pub with_file : RecipeValue → List ℕ → RecipeValue
with_file recipe name = record recipe { files = with_new (is_named name) recipe.files name }

-- the recipe has the file with this name, which has this number
pub record IsFileOf (recipe : RecipeValue) (name : List ℕ) (number : ℕ) : Type 0 where
  pub there : with_file recipe name ≡ recipe
  pub is : number ≡ file_number recipe.files name

-- the recipe once this file uses the chunk with this number
abbrev pub with_use : RecipeValue → ℕ → ℕ → RecipeValue
with_use recipe file chunk = record recipe { pairs = with_new (is_pair file chunk) recipe.pairs (file, chunk) }

-- the recipe once this file uses this chunk; a chunk that is known keeps its size
abbrev pub with_pair : RecipeValue → ℕ → NamedChunk → RecipeValue
with_pair recipe file chunk =
    let chunks = with_new (is_chunk chunk.name) recipe.chunks chunk in
    with_use (record recipe { chunks = chunks }) file (chunk_number chunks chunk.name)

-- the name and the size of the chunk with a number
abbrev pub name_at : RecipeValue → ℕ → List ℕ
name_at recipe chunk = slice_index_or (map (λ (c : NamedChunk). c.name) recipe.chunks) chunk []

abbrev pub size_at : RecipeValue → ℕ → ℕ
size_at recipe chunk = slice_index_or (map (λ (c : NamedChunk). c.size) recipe.chunks) chunk 0

-- the bytes of all chunks
abbrev pub bytes_of : RecipeValue → ℕ
bytes_of recipe = sum_by (λ c. c.size) recipe.chunks

-- the files that use a chunk, in order
abbrev pub users_of : RecipeValue → ℕ → List ℕ
users_of recipe chunk = filter (λ file. list_any (is_pair file chunk) recipe.pairs) (range_with_len 0 (length recipe.files))

-- the chunks that a file uses, in order
abbrev pub chunks_of : RecipeValue → ℕ → List ℕ
chunks_of recipe file = filter (λ chunk. list_any (is_pair file chunk) recipe.pairs) (range_with_len 0 (length recipe.chunks))

-- the chunk with a number, as a class of its own
abbrev pub chunk_class : RecipeValue → ℕ → Class
chunk_class recipe chunk = record { size = size_at recipe chunk; users = users_of recipe chunk }

-- the recipe as a table with one class for each chunk: what every sum of a set of files speaks of
abbrev pub table_of : RecipeValue → TableValue
table_of recipe = record { files = length recipe.files; classes = map (chunk_class recipe) (range_with_len 0 (length recipe.chunks)) }
