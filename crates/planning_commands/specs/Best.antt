-- How `best` ends.
use Rattle.std.specs.Prelude.{◌≡◌, ◌⊎◌, ℕ, ◌<◌, ◌≤◌, List, Bool, length}
use Rattle.seed_model.specs.declared.limits.TheConstants.{MOST_TRIED_FILES}
use Rattle.seed_model.specs.declared.range.Range.{Range}
use Rattle.seed_model.specs.Files.{holds}
use Rattle.seed_model.specs.Ranges.{range_around}
use Rattle.seed_model.specs.Best.{IsFirstBest, NoneInRange}
use Rattle.seed_io.specs.Shelf.{Told}
use Rattle.recipe_reader.specs.Recipes.{RecipeValue, bytes_of, table_of}
use Rattle.goseed_words.specs.declared.amount.Amount.{Amount}
use Rattle.goseed_words.specs.Amounts.{amount_in}
use Rattle.goseed_words.specs.Asked.{Asks, asking}
use Rattle.goseed_words.specs.Commands.{Best}
use Rattle.command_texts.specs.declared.status.Status.{Status}
use Rattle.command_texts.specs.declared.status.Status.TheVariants.{Done, No}
use Rattle.planning_commands.specs.Texts.{best_text, none_text}
use Rattle.command_texts.specs.Refusals.{Refuses, too_many_files}
use Rattle.planning_commands.specs.Reading.{HoldsRecipe, RecipeEnds}

-- the recipe has more files than those of which every set is tried
pub record HasTooManyFiles (recipe : RecipeValue) (status : Status) (text : List ℕ) : Type 0 where
  pub many : MOST_TRIED_FILES < length recipe.files
  pub refuses : Refuses (too_many_files (length recipe.files)) status text

-- a best set of files, the first of them, is printed
pub record PrintsBest (recipe : RecipeValue) (range : Range) (status : Status) (text : List ℕ) : Type 0 where
  pub plan : List Bool
  pub width : length plan ≡ length recipe.files
  pub best : IsFirstBest (table_of recipe) range (holds plan)
  pub answers : status ≡ Done
  pub prints : text ≡ best_text recipe plan

-- no set of files is in range, and that is printed
pub record PrintsNone (recipe : RecipeValue) (range : Range) (status : Status) (text : List ℕ) : Type 0 where
  pub none : NoneInRange (table_of recipe) range
  pub answers : status ≡ No
  pub prints : text ≡ none_text

-- every set of the recipe's files was tried
pub record TriesAll (recipe : RecipeValue) (range : Range) (status : Status) (text : List ℕ) : Type 0 where
  pub few : length recipe.files ≤ MOST_TRIED_FILES
  pub answer : PrintsBest recipe range status text ⊎ PrintsNone recipe range status text

-- the range of a target and a slack, percents being those of the recipe's bytes
abbrev pub range_in : RecipeValue → Amount → Amount → Range
range_in recipe target slack = range_around (amount_in (bytes_of recipe) target) (amount_in (bytes_of recipe) slack)

-- how `best` ends over its recipe
abbrev pub BestOf : Amount → Amount → Status → List ℕ → RecipeValue → Type 0
BestOf target slack status text recipe = HasTooManyFiles recipe status text ⊎ TriesAll recipe (range_in recipe target slack) status text

-- how `best RECIPE TARGET SLACK` ends over these byte strings
abbrev pub BestEnds : List ℕ → Amount → Amount → Told → Status → List ℕ → Type 0
BestEnds name target slack given status text = RecipeEnds given name status text (BestOf target slack status text)

-- the words ask for the best set of the files of this recipe
pub record AsksBest (given : Told) (words : List (List ℕ)) (recipe : RecipeValue) (target slack : Amount) : Type 0 where
  pub name : List ℕ
  pub asks : Asks words (asking Best name target slack)
  pub held : HoldsRecipe given name recipe

-- why `best` is done: the recipe has few files, and there is a best set of them
pub record HasBest (given : Told) (words : List (List ℕ)) : Type 0 where
  pub recipe : RecipeValue
  pub target : Amount
  pub slack : Amount
  pub asks : AsksBest given words recipe target slack
  pub few : length recipe.files ≤ MOST_TRIED_FILES
  pub plan : List Bool
  pub best : IsFirstBest (table_of recipe) (range_in recipe target slack) (holds plan)

-- why its answer is no: the recipe has few files, and no set of them is in range
pub record HasNone (given : Told) (words : List (List ℕ)) : Type 0 where
  pub recipe : RecipeValue
  pub target : Amount
  pub slack : Amount
  pub asks : AsksBest given words recipe target slack
  pub few : length recipe.files ≤ MOST_TRIED_FILES
  pub none : NoneInRange (table_of recipe) (range_in recipe target slack)

-- why it is refused for its recipe: that has many files
pub record HasMany (given : Told) (words : List (List ℕ)) : Type 0 where
  pub recipe : RecipeValue
  pub target : Amount
  pub slack : Amount
  pub asks : AsksBest given words recipe target slack
  pub many : MOST_TRIED_FILES < length recipe.files
