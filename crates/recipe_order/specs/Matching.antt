-- How one recipe's names are found in another.
use Rattle.std.specs.Prelude.{◌≡◌, ℕ, ◌<◌, List, All, length, map, true, slice_index}
use Rattle.std.specs.List.{list_any, position_or_len}
use Rattle.recipe_reader.specs.Recipes.{NamedChunk, RecipeValue, is_named, is_pair, size_at}

-- each of these names is among others
abbrev pub AreAmong : List (List ℕ) → List (List ℕ) → Type 0
AreAmong whole part = All (λ name. list_any (is_named name) whole ≡ true) part

-- it is, and these are their numbers there
pub record AreNumbers (whole part : List (List ℕ)) (numbers : List ℕ) : Type 0 where
  pub among : AreAmong whole part
  pub are : numbers ≡ map (λ name. position_or_len (is_named name) whole) part

-- the names of a recipe's chunks
abbrev pub chunk_names : RecipeValue → List (List ℕ)
chunk_names recipe = map (λ (c : NamedChunk). c.name) recipe.chunks

-- the chunks with these numbers have the sizes of another recipe's chunks
abbrev pub HaveSizesOf : RecipeValue → RecipeValue → List ℕ → Type 0
HaveSizesOf whole part numbers = (chunk : ℕ) → chunk < length part.chunks → size_at whole (slice_index numbers chunk) ≡ size_at part chunk

-- a pair stands in a recipe, by the numbers that its file and its chunk have there
abbrev pub StandsIn : RecipeValue → List ℕ → List ℕ → ℕ × ℕ → Type 0
StandsIn whole files chunks pair = list_any (is_pair (slice_index files pair.0) (slice_index chunks pair.1)) whole.pairs ≡ true

-- as many files, chunks and pairs
pub record AreAsLarge (a b : RecipeValue) : Type 0 where
  pub files : length a.files ≡ length b.files
  pub chunks : length a.chunks ≡ length b.chunks
  pub pairs : length a.pairs ≡ length b.pairs
