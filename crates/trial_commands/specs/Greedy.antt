-- How `greedy` ends.
use Rattle.std.specs.Prelude.{◌≡◌, ◌⊎◌, ℕ, List, Bool, MatchOption, length}
use Rattle.seed_model.specs.declared.node.Node.{Node}
use Rattle.seed_model.specs.declared.range.Range.{Range}
use Rattle.seed_model.specs.Files.{holds}
use Rattle.seed_model.specs.Nodes.{IsAdmitted, undecided_node}
use Rattle.seed_io.specs.Shelf.{Told}
use Rattle.recipe_reader.specs.Recipes.{RecipeValue, table_of}
use Rattle.greedy_seed.specs.declared.tried.Tried.{Tried}
use Rattle.greedy_seed.specs.Greedy.{Finds, FindsNone}
use Rattle.goseed_words.specs.declared.amount.Amount.{Amount}
use Rattle.goseed_words.specs.Asked.{Asks, asking}
use Rattle.goseed_words.specs.Commands.{Greedy}
use Rattle.command_texts.specs.declared.status.Status.{Status}
use Rattle.command_texts.specs.declared.status.Status.TheVariants.{Done, No}
use Rattle.planning_commands.specs.Best.{range_in}
use Rattle.planning_commands.specs.Check.{judged_table}
use Rattle.planning_commands.specs.Reading.{HoldsRecipe, RecipeEnds}
use Rattle.trial_commands.specs.Texts.{greedy_text, stuck_text}

-- a set of the recipe's files was found greedily with these pins, in so many turns and rounds: it is in range and keeps to the pins
pub record FindsSet (recipe : RecipeValue) (range : Range) (pins : Node) (set : List Bool) (turns rounds : ℕ) : Type 0 where
  pub finds : Finds (judged_table recipe) range pins set turns rounds
  pub width : length set ≡ length recipe.files
  pub admitted : IsAdmitted (table_of recipe) range pins (holds set)

-- in some turns and rounds
pub record IsFound (recipe : RecipeValue) (range : Range) (pins : Node) (set : List Bool) : Type 0 where
  pub turns : ℕ
  pub rounds : ℕ
  pub finds : FindsSet recipe range pins set turns rounds

-- what was tried: a set is found, or the turns got stuck
abbrev pub TriesSet : RecipeValue → Range → Node → Tried → Type 0
TriesSet recipe range pins tried =
    MatchOption tried.set (FindsNone (judged_table recipe) range pins tried.turns) (λ set. FindsSet recipe range pins set tried.turns tried.rounds)

-- a set was found, and is printed
pub record PrintsFound (recipe : RecipeValue) (range : Range) (status : Status) (text : List ℕ) : Type 0 where
  pub set : List Bool
  pub turns : ℕ
  pub rounds : ℕ
  pub found : FindsSet recipe range (undecided_node (length recipe.files)) set turns rounds
  pub answers : status ≡ Done
  pub prints : text ≡ greedy_text recipe set turns rounds

-- the turns got stuck, and that is printed; it does not say that no set is in range
pub record PrintsStuck (recipe : RecipeValue) (range : Range) (status : Status) (text : List ℕ) : Type 0 where
  pub turns : ℕ
  pub none : FindsNone (judged_table recipe) range (undecided_node (length recipe.files)) turns
  pub answers : status ≡ No
  pub prints : text ≡ stuck_text turns

-- how `greedy` ends over its recipe and a range
abbrev pub PrintsGreedy : RecipeValue → Range → Status → List ℕ → Type 0
PrintsGreedy recipe range status text = PrintsFound recipe range status text ⊎ PrintsStuck recipe range status text

abbrev pub GreedyOf : Amount → Amount → Status → List ℕ → RecipeValue → Type 0
GreedyOf target slack status text recipe = PrintsGreedy recipe (range_in recipe target slack) status text

-- how `greedy RECIPE TARGET SLACK` ends over these byte strings
abbrev pub GreedyEnds : List ℕ → Amount → Amount → Told → Status → List ℕ → Type 0
GreedyEnds name target slack given status text = RecipeEnds given name status text (GreedyOf target slack status text)

-- the words ask for a greedy set of the files of this recipe
pub record AsksGreedy (given : Told) (words : List (List ℕ)) (recipe : RecipeValue) (target slack : Amount) : Type 0 where
  pub name : List ℕ
  pub asks : Asks words (asking Greedy name target slack)
  pub held : HoldsRecipe given name recipe

-- why `greedy` is done: a set is found
pub record HasFound (given : Told) (words : List (List ℕ)) : Type 0 where
  pub recipe : RecipeValue
  pub target : Amount
  pub slack : Amount
  pub asks : AsksGreedy given words recipe target slack
  pub set : List Bool
  pub turns : ℕ
  pub rounds : ℕ
  pub found : FindsSet recipe (range_in recipe target slack) (undecided_node (length recipe.files)) set turns rounds

-- why its answer is no: none is found
pub record HasStuck (given : Told) (words : List (List ℕ)) : Type 0 where
  pub recipe : RecipeValue
  pub target : Amount
  pub slack : Amount
  pub asks : AsksGreedy given words recipe target slack
  pub turns : ℕ
  pub none : FindsNone (judged_table recipe) (range_in recipe target slack) (undecided_node (length recipe.files)) turns
