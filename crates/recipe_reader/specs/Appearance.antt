-- A recipe by all its rows at once: what appears first keeps its place.
use Rattle.std.specs.Prelude.{◌≡◌, ℕ, List, map, All, Option}
use Rattle.std.specs.List.{AllZip, filter_map}
use Rattle.std.specs.Option.{option_map}
pub use Rattle.list_facts.specs.Firsts.{firsts}
use Rattle.recipe_reader.specs.Limits.{KeepsSize}
use Rattle.recipe_reader.specs.Recipes.{NamedChunk, RecipeValue, is_named, is_chunk, is_pair, file_number, chunk_number}
use Rattle.recipe_reader.specs.RecipeRows.{Row, SpellsRow}

-- the numbers of the file and the chunk that a row names
abbrev pub pair_named : RecipeValue → Row → Option (ℕ × ℕ)
pair_named recipe row = option_map (λ (c : NamedChunk). (file_number recipe.files row.file, chunk_number recipe.chunks c.name)) row.chunk

-- the files, chunks and pairs are those that the rows name, by first appearance, and each row has its chunk's size
pub record Gathers (rows : List Row) (recipe : RecipeValue) : Type 0 where
  pub files : recipe.files ≡ firsts is_named (map (λ (row : Row). row.file) rows)
  pub chunks : recipe.chunks ≡ firsts (λ (c : NamedChunk). is_chunk c.name) (filter_map (λ (row : Row). row.chunk) rows)
  pub pairs : recipe.pairs ≡ firsts (λ (p : ℕ × ℕ). is_pair p.0 p.1) (filter_map (pair_named recipe) rows)
  pub sizes : All (λ (row : Row). KeepsSize recipe row.chunk) rows

-- rows that these fields spell, one by one, and that gather to the recipe
pub record IsGathered (fields : List (List (List ℕ))) (recipe : RecipeValue) : Type 0 where
  pub rows : List Row
  pub spelled : AllZip SpellsRow fields rows
  pub gathers : Gathers rows recipe
