-- How large a recipe may be, and what it may take.
use Rattle.std.specs.Prelude.{◌≡◌, ◌<◌, ◌≤◌, length, Contains, Option, Some, None}
use Rattle.seed_model.specs.declared.limits.TheConstants.{MOST_FILES, MOST_CHUNKS, MOST_PAIRS, MOST_BYTES}
use Rattle.recipe_reader.specs.Recipes.{NamedChunk, RecipeValue, bytes_of}
use Rattle.recipe_reader.specs.declared.error.What.{What}
use Rattle.recipe_reader.specs.declared.error.What.TheVariants.{Files, Chunks, Bytes, Pairs}

-- the limits of a recipe
pub record IsWithinLimits (recipe : RecipeValue) : Type 0 where
  pub files : length recipe.files ≤ MOST_FILES
  pub chunks : length recipe.chunks ≤ MOST_CHUNKS
  pub bytes : bytes_of recipe ≤ MOST_BYTES
  pub pairs : length recipe.pairs ≤ MOST_PAIRS

-- the first limit that a recipe passes
abbrev pub PassesFirst : RecipeValue → What → Type 0
PassesFirst recipe Files = MOST_FILES < length recipe.files
PassesFirst recipe Chunks = (length recipe.files ≤ MOST_FILES) × (MOST_CHUNKS < length recipe.chunks)
PassesFirst recipe Bytes = (length recipe.files ≤ MOST_FILES) × (length recipe.chunks ≤ MOST_CHUNKS) × (MOST_BYTES < bytes_of recipe)
PassesFirst recipe Pairs = (length recipe.files ≤ MOST_FILES) × (length recipe.chunks ≤ MOST_CHUNKS) × (bytes_of recipe ≤ MOST_BYTES) × (MOST_PAIRS < length recipe.pairs)

-- the chunk, if any, has the size with which its name stands in the recipe, if it does
abbrev pub KeepsSize : RecipeValue → Option NamedChunk → Type 0
KeepsSize recipe None = Unit {0}
KeepsSize recipe (Some chunk) = (known : NamedChunk) → Contains recipe.chunks known → known.name ≡ chunk.name → known.size ≡ chunk.size
