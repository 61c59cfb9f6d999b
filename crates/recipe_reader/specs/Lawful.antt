-- What every recipe keeps.
use Rattle.std.specs.Prelude.{◌≡◌, ℕ, ◌<◌, ◌≤◌, List, length, All, true}
use Rattle.std.specs.List.{IsDistinct, list_any}
use Rattle.file_names.specs.FileNames.{IsFileName}
use Rattle.recipe_reader.specs.Limits.{IsWithinLimits}
use Rattle.recipe_reader.specs.Recipes.{NamedChunk, RecipeValue, is_named, is_chunk, is_pair}
use Rattle.recipe_reader.specs.declared.error.TheConstants.{LONGEST_CHUNK_NAME, GREATEST_SIZE}

-- bytes that may name a chunk
pub record IsChunkName (name : List ℕ) : Type 0 where
  pub bytes : All (λ b. b < 256) name
  pub some : 0 < length name
  pub short : length name ≤ LONGEST_CHUNK_NAME

pub record IsChunk (chunk : NamedChunk) : Type 0 where
  pub name : IsChunkName chunk.name
  pub small : chunk.size ≤ GREATEST_SIZE

-- a file and a chunk with these numbers are there
pub record IsPairBelow (files chunks : ℕ) (pair : ℕ × ℕ) : Type 0 where
  pub file : pair.0 < files
  pub chunk : pair.1 < chunks

-- within the limits; names and pairs stand once; every chunk has a user
pub record IsRecipe (recipe : RecipeValue) : Type 0 where
  pub limits : IsWithinLimits recipe
  pub files : All IsFileName recipe.files
  pub files_differ : IsDistinct is_named recipe.files
  pub chunks : All IsChunk recipe.chunks
  pub chunks_differ : IsDistinct (λ c. is_chunk c.name) recipe.chunks
  pub pairs : All (IsPairBelow (length recipe.files) (length recipe.chunks)) recipe.pairs
  pub pairs_differ : IsDistinct (λ p. is_pair p.0 p.1) recipe.pairs
  pub used : (chunk : ℕ) → chunk < length recipe.chunks → (file : ℕ) × (list_any (is_pair file chunk) recipe.pairs ≡ true)
