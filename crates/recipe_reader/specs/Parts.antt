-- The parts of a row that is judged.
use Rattle.std.specs.Prelude.{◌≡◌, ◌≢◌, ◌⊎◌, ℕ, List, [], ◌∷◌, Contains, Option, Some, None}
use Rattle.recipe_reader.specs.Limits.{KeepsSize, PassesFirst}
use Rattle.recipe_reader.specs.Recipes.{NamedChunk, RecipeValue}
use Rattle.recipe_reader.specs.RecipeRows.{Row, SpellsChunkName, with_row}
use Rattle.recipe_reader.specs.declared.error.AddError.{AddError}
use Rattle.recipe_reader.specs.declared.error.AddError.TheVariants as add
use Rattle.recipe_reader.specs.declared.error.RecipeError.{RecipeError}
use Rattle.recipe_reader.specs.declared.error.RecipeError.TheVariants.{BadRow, BadName, BadChunkName, BadSize, SizeClash, TooMany, Memory}

-- the text spells the name; or it is empty and so is the name
abbrev pub NamesChunk : List ℕ → List ℕ → Type 0
NamesChunk text name = ((text ≡ []) × (name ≡ [])) ⊎ SpellsChunkName text name

-- a chunk with this name and size; none where the name is empty
abbrev pub chunk_of : List ℕ → ℕ → Option NamedChunk
chunk_of [] size = None
chunk_of (byte ∷ name) size = Some record { name = byte ∷ name; size = size }

abbrev pub row_of : List ℕ → List ℕ → ℕ → Row
row_of file name size = record { file = file; chunk = chunk_of name size }

-- why a well spelled row is refused
abbrev pub IsRowFault : RecipeValue → ℕ → Row → RecipeError → Type 0
IsRowFault before number row (BadRow at) = ⊥
IsRowFault before number row (BadName at) = ⊥
IsRowFault before number row (BadChunkName at) = ⊥
IsRowFault before number row (BadSize at) = ⊥
IsRowFault before number row (SizeClash at first now) =
    (at ≡ number) × ((chunk : NamedChunk) × (row.chunk ≡ Some chunk) × (chunk.size ≡ now) × (first ≢ now) × Contains before.chunks (record { name = chunk.name; size = first }))
IsRowFault before number row (TooMany at what) = (at ≡ number) × KeepsSize before row.chunk × PassesFirst (with_row before row) what
IsRowFault before number row Memory = ⊥

-- why the row with this number is refused
abbrev pub fault_at : ℕ → AddError → RecipeError
fault_at number (add.Clash first now) = SizeClash number first now
fault_at number (add.TooMany what) = TooMany number what
fault_at number add.Memory = Memory
