-- What rows mean: a recipe, or the first fault of the first row at fault.
use Rattle.std.specs.Prelude.{◌≡◌, ◌≢◌, ◌⊎◌, ℕ, ◌+◌, List, [], ◌∷◌, ◌++◌, length, Contains, Some, codes}
use Rattle.file_names.specs.FileNames.{IsFileName}
use Rattle.recipe_reader.specs.Limits.{IsWithinLimits, PassesFirst, KeepsSize}
use Rattle.recipe_reader.specs.Recipes.{NamedChunk, RecipeValue}
use Rattle.recipe_reader.specs.RecipeRows.{Row, SpellsRow, SpellsChunkName, SpellsSize, with_row}
use Rattle.recipe_reader.specs.declared.error.RecipeError.{RecipeError}
use Rattle.recipe_reader.specs.declared.error.RecipeError.TheVariants.{BadRow, BadName, BadChunkName, BadSize, SizeClash, TooMany, Memory}

-- the row may follow
pub record MayFollow (before : RecipeValue) (row : Row) : Type 0 where
  pub size : KeepsSize before row.chunk
  pub limits : IsWithinLimits (with_row before row)

-- the fields spell a row that may follow, and it is taken
pub record TakesRow (before : RecipeValue) (fields : List (List ℕ)) (after : RecipeValue) : Type 0 where
  pub row : Row
  pub spelled : SpellsRow fields row
  pub follows : MayFollow before row
  pub taken : after ≡ with_row before row

-- the rows lead from one recipe to the other, each spelled well and lawful where it stands
abbrev pub Leads : RecipeValue → List (List (List ℕ)) → RecipeValue → Type 0
Leads before [] after = before ≡ after
Leads before (fields ∷ rows) after = (next : RecipeValue) × TakesRow before fields next × Leads next rows after

-- no name, or a well spelled one
abbrev pub HasChunkName : List ℕ → Type 0
HasChunkName text = (text ≡ []) ⊎ ((name : List ℕ) × SpellsChunkName text name)

-- the size is none, or not 0 where no chunk is named
abbrev pub HasBadSize : List ℕ → List ℕ → Type 0
HasBadSize name size = ((n : ℕ) → ¬ SpellsSize size n) ⊎ ((name ≡ []) × (size ≢ codes "0"))

-- the row with this number, behind rows that led to this recipe, has this fault first; want of memory is none
abbrev pub IsFault : RecipeValue → ℕ → List (List ℕ) → RecipeError → Type 0
IsFault before number fields (BadRow row) = (row ≡ number) × (length fields ≢ 3)
IsFault before number fields (BadName row) =
    (row ≡ number) × ((file name size : List ℕ) × (fields ≡ file ∷ name ∷ size ∷ []) × ¬ IsFileName file)
IsFault before number fields (BadChunkName row) =
    (row ≡ number) × ((file name size : List ℕ) × (fields ≡ file ∷ name ∷ size ∷ []) × IsFileName file × ¬ HasChunkName name)
IsFault before number fields (BadSize row) =
    (row ≡ number) × ((file name size : List ℕ) × (fields ≡ file ∷ name ∷ size ∷ []) × IsFileName file × HasChunkName name × HasBadSize name size)
IsFault before number fields (SizeClash row first now) =
    (row ≡ number) × ((spelled : Row) × (chunk known : NamedChunk) × SpellsRow fields spelled × (spelled.chunk ≡ Some chunk) × (chunk.size ≡ now)
    × Contains before.chunks known × (known.name ≡ chunk.name) × (known.size ≡ first) × (first ≢ now))
IsFault before number fields (TooMany row what) =
    (row ≡ number) × ((spelled : Row) × SpellsRow fields spelled × KeepsSize before spelled.chunk × PassesFirst (with_row before spelled) what)
IsFault before number fields Memory = ⊥

-- the first row at fault, and its fault
pub record IsFirstFault (start : RecipeValue) (rows : List (List (List ℕ))) (error : RecipeError) : Type 0 where
  pub front : List (List (List ℕ))
  pub fields : List (List ℕ)
  pub rest : List (List (List ℕ))
  pub before : RecipeValue
  pub split : rows ≡ front ++ fields ∷ rest
  pub lawful : Leads start front before
  pub fault : IsFault before (length front + 1) fields error
