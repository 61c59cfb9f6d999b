-- The rows of a recipe: a file name, a chunk name in hex and a size.
use Rattle.std.specs.Prelude.{◌≡◌, ℕ, ◌<◌, ◌≤◌, List, [], ◌∷◌, length, Option, Some, None, Ok, codes}
use Rattle.std.specs.Fmt.{decimal}
use Rattle.hex.specs.Hex.{decode_of}
use Rattle.file_names.specs.FileNames.{IsFileName}
use Rattle.recipe_reader.specs.Recipes.{NamedChunk, RecipeValue, with_file, with_pair, file_number}
use Rattle.recipe_reader.specs.declared.error.TheConstants.{LONGEST_CHUNK_NAME, GREATEST_SIZE}

-- what a row says: a file, and a chunk that it uses, if any
pub record Row : Type 0 where
  pub file : List ℕ
  pub chunk : Option NamedChunk

-- the text spells a chunk's name: pairs of hex digits in either case
pub record SpellsChunkName (text name : List ℕ) : Type 0 where
  pub digits : decode_of text ≡ Ok name
  pub some : 0 < length name
  pub short : length name ≤ LONGEST_CHUNK_NAME

-- the text spells a size
pub record SpellsSize (text : List ℕ) (size : ℕ) : Type 0 where
  pub digits : text ≡ decimal size
  pub small : size ≤ GREATEST_SIZE

-- the second and the third field spell a chunk, or none
abbrev pub SpellsChunk : List ℕ → List ℕ → Option NamedChunk → Type 0
SpellsChunk name size None = (name ≡ []) × (size ≡ codes "0")
SpellsChunk name size (Some chunk) = SpellsChunkName name chunk.name × SpellsSize size chunk.size

-- the fields spell the row
pub record SpellsRow (fields : List (List ℕ)) (row : Row) : Type 0 where
  pub name : List ℕ
  pub size : List ℕ
  pub three : fields ≡ row.file ∷ name ∷ size ∷ []
  pub file : IsFileName row.file
  pub chunk : SpellsChunk name size row.chunk

-- the recipe once a row is read
abbrev pub with_row : RecipeValue → Row → RecipeValue
with_row recipe row =
    let named = with_file recipe row.file in
    elim row.chunk [ None ↦ named | Some chunk ↦ with_pair named (file_number named.files row.file) chunk ]
