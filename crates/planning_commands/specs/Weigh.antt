-- How `weigh` ends.
use Rattle.std.specs.Prelude.{◌≡◌, ◌≢◌, ◌⊎◌, ℕ, List, Bool, length}
use Rattle.seed_io.specs.Shelf.{Told}
use Rattle.seed_text.specs.SetTexts.{set_text}
use Rattle.recipe_reader.specs.Recipes.{RecipeValue}
use Rattle.goseed_words.specs.Asked.{Asks, asking}
use Rattle.goseed_words.specs.Commands.{Weigh}
use Rattle.command_texts.specs.declared.status.Status.{Status}
use Rattle.command_texts.specs.declared.status.Status.TheVariants.{Done}
use Rattle.planning_commands.specs.Texts.{weigh_text}
use Rattle.command_texts.specs.Refusals.{Refuses, bad_word}
use Rattle.planning_commands.specs.Reading.{HoldsRecipe, RecipeEnds}

-- the word is the text of no set of so many files: it has another width, or a bit for no file, or is spelled otherwise
abbrev pub IsNoSet : ℕ → List ℕ → Type 0
IsNoSet files word = (set : List Bool) → length set ≡ files → word ≢ set_text set

-- the word is the text of this set of so many files
pub record SpellsSet (files : ℕ) (word : List ℕ) (set : List Bool) : Type 0 where
  pub width : length set ≡ files
  pub spelled : word ≡ set_text set

-- the word is no set of the recipe's files, and the command is refused for it
pub record HasBadSet (recipe : RecipeValue) (word : List ℕ) (status : Status) (text : List ℕ) : Type 0 where
  pub none : IsNoSet (length recipe.files) word
  pub refuses : Refuses (bad_word 3) status text

-- the sums of the set and its classes are printed
pub record PrintsSums (recipe : RecipeValue) (word : List ℕ) (status : Status) (text : List ℕ) : Type 0 where
  pub set : List Bool
  pub spells : SpellsSet (length recipe.files) word set
  pub answers : status ≡ Done
  pub prints : text ≡ weigh_text recipe set

-- how `weigh` ends over its recipe
abbrev pub WeighOf : List ℕ → Status → List ℕ → RecipeValue → Type 0
WeighOf word status text recipe = HasBadSet recipe word status text ⊎ PrintsSums recipe word status text

-- how `weigh RECIPE SET` ends over these byte strings
abbrev pub WeighEnds : List ℕ → List ℕ → Told → Status → List ℕ → Type 0
WeighEnds name word given status text = RecipeEnds given name status text (WeighOf word status text)

-- the words ask to weigh what this word spells, of the files of this recipe
pub record AsksWeigh (given : Told) (words : List (List ℕ)) (recipe : RecipeValue) (word : List ℕ) : Type 0 where
  pub name : List ℕ
  pub asks : Asks words (asking Weigh name word)
  pub held : HoldsRecipe given name recipe

-- why `weigh` is done: the word is a set of the recipe's files
pub record HasSet (given : Told) (words : List (List ℕ)) : Type 0 where
  pub recipe : RecipeValue
  pub word : List ℕ
  pub asks : AsksWeigh given words recipe word
  pub set : List Bool
  pub spells : SpellsSet (length recipe.files) word set

-- why it is refused for its set: the word is none of the recipe's files
pub record HasNoSet (given : Told) (words : List (List ℕ)) : Type 0 where
  pub recipe : RecipeValue
  pub word : List ℕ
  pub asks : AsksWeigh given words recipe word
  pub none : IsNoSet (length recipe.files) word
