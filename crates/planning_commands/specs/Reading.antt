-- Reading the recipe of a name.
use Rattle.std.specs.Prelude.{◌⊎◌, ℕ, List}
use Rattle.csv_rows.specs.Rows.{rows_of}
use Rattle.seed_io.specs.Shelf.{Told}
use Rattle.recipe_reader.specs.Recipes.{RecipeValue, empty_recipe}
use Rattle.recipe_reader.specs.Reading.{Leads, IsFirstFault}
use Rattle.recipe_reader.specs.declared.error.RecipeError.{RecipeError}
use Rattle.goseed_words.specs.Commands.{Recipe}
use Rattle.command_texts.specs.declared.status.Status.{Status}
use Rattle.command_texts.specs.Refusals.{Refuses, no_recipe}
use Rattle.command_endings.specs.Reading.{AsksForBytes, LacksName, HoldsTooMuch, Reads}

-- the bytes are no recipe's text, and the command is refused for the first fault
pub record RefusesText (bytes : List ℕ) (status : Status) (text : List ℕ) : Type 0 where
  pub error : RecipeError
  pub fault : IsFirstFault empty_recipe (rows_of bytes) error
  pub refuses : Refuses (no_recipe error) status text

-- the bytes of the name are no recipe's text, and the command is refused
pub record HoldsNoRecipe (given : Told) (name : List ℕ) (status : Status) (text : List ℕ) : Type 0 where
  pub bytes : List ℕ
  pub reads : Reads given name Recipe bytes
  pub refused : RefusesText bytes status text

-- the bytes of the name are the text of this recipe
pub record HoldsRecipe (given : Told) (name : List ℕ) (recipe : RecipeValue) : Type 0 where
  pub bytes : List ℕ
  pub reads : Reads given name Recipe bytes
  pub lawful : Leads empty_recipe (rows_of bytes) recipe

-- the name gives no recipe, and the command is refused
abbrev pub LacksRecipe : Told → List ℕ → Status → List ℕ → Type 0
LacksRecipe given name status text = LacksName given name status text ⊎ (HoldsTooMuch given name Recipe status text ⊎ HoldsNoRecipe given name status text)

-- the name gives a recipe, and the rest holds of it
pub record OfRecipe (given : Told) (name : List ℕ) (Rest : RecipeValue → Type 0) : Type 0 where
  pub recipe : RecipeValue
  pub held : HoldsRecipe given name recipe
  pub rest : Rest recipe

-- how a command ends that reads the recipe of a name
abbrev pub RecipeEnds : Told → List ℕ → Status → List ℕ → (RecipeValue → Type 0) → Type 0
RecipeEnds given name status text Rest = LacksRecipe given name status text ⊎ OfRecipe given name Rest

-- the words ask to read bytes as a recipe, whose first fault is this
pub record AsksForFault (given : Told) (words : List (List ℕ)) (error : RecipeError) : Type 0 where
  pub bytes : List ℕ
  pub asks : AsksForBytes given words Recipe bytes
  pub fault : IsFirstFault empty_recipe (rows_of bytes) error
