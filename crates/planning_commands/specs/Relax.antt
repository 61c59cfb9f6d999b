-- How `relax` ends.
use Rattle.std.specs.Prelude.{◌≡◌, ◌⊎◌, ℕ, List, [], ◌∷◌, ◌++◌, length, codes}
use Rattle.std.specs.Fmt.{decimal}
use Rattle.seed_model.specs.declared.node.Node.{Node}
use Rattle.seed_model.specs.declared.node.Mix.{Mix}
use Rattle.seed_model.specs.declared.range.Range.{Range}
use Rattle.seed_model.specs.Tables.{TableValue}
use Rattle.seed_model.specs.Nodes.{IsLow, IsHigh, HasValue, weight_of, mixed_replicated}
use Rattle.seed_ratio.specs.Fractions.{IsLowest}
use Rattle.seed_text.specs.SetTexts.{set_text}
use Rattle.seed_io.specs.Shelf.{Told}
use Rattle.bound_cert.specs.declared.multipliers.Multipliers.{Multipliers}
use Rattle.hull_bound.specs.Relaxations.{IsRelaxation}
use Rattle.recipe_reader.specs.Recipes.{RecipeValue, table_of}
use Rattle.goseed_words.specs.declared.amount.Amount.{Amount}
use Rattle.goseed_words.specs.Asked.{Asks, asking}
use Rattle.goseed_words.specs.Commands.{Relax}
use Rattle.command_texts.specs.declared.status.Status.{Status}
use Rattle.command_texts.specs.declared.status.Status.TheVariants.{Done}
use Rattle.command_texts.specs.Lines.{line, numbers_line}
use Rattle.planning_commands.specs.Best.{range_in}
use Rattle.planning_commands.specs.Check.{judged_table}
use Rattle.planning_commands.specs.Nodes.{SpellsNode, IsBadNode, RefusesNode}
use Rattle.planning_commands.specs.Reading.{HoldsRecipe, RecipeEnds}

-- a value as a fraction
abbrev pub value_line : ℕ → ℕ → List ℕ
value_line over under = line (codes "value " ++ decimal over ++ codes " " ++ decimal under)

-- the slope of multipliers
abbrev pub slope_line : ℕ → ℕ → List ℕ
slope_line p q = numbers_line (codes "multipliers") (p ∷ q ∷ [])

-- two sets and their weights
abbrev pub mix_line : Mix → List ℕ
mix_line mix = line (codes "mix " ++ set_text mix.first ++ codes " " ++ set_text mix.second ++ codes " " ++ decimal mix.alpha ++ codes " " ++ decimal mix.beta)

abbrev pub bound_text : ℕ → ℕ → ℕ → ℕ → Mix → List ℕ
bound_text over under p q mix = value_line over under ++ (slope_line p q ++ mix_line mix)

-- the value of a mix by a table, as a fraction in lowest terms, with a slope and the mix
pub record PrintsBound (table : TableValue) (p q : ℕ) (mix : Mix) (text : List ℕ) : Type 0 where
  pub over : ℕ
  pub under : ℕ
  pub value : IsLowest (mixed_replicated table mix) (weight_of mix) over under
  pub prints : text ≡ bound_text over under p q mix

-- the node is low: no member migrates enough
pub record PrintsLow (recipe : RecipeValue) (range : Range) (node : Node) (text : List ℕ) : Type 0 where
  pub low : IsLow (table_of recipe) range node
  pub prints : text ≡ line (codes "low")

-- it is not low and high: every member migrates too much
pub record PrintsHigh (recipe : RecipeValue) (range : Range) (node : Node) (text : List ℕ) : Type 0 where
  pub not_low : ¬ IsLow (table_of recipe) range node
  pub high : IsHigh (table_of recipe) range node
  pub prints : text ≡ line (codes "high")

-- It is neither, and its value is printed: the least that any mix of the node replicates, as a fraction in lowest terms; with
-- the slope of multipliers that prove it, and a mix of the node that attains it, which is that of the search rule. The
-- multipliers are of the recipe's classes.
pub record PrintsValue (recipe : RecipeValue) (range : Range) (node : Node) (text : List ℕ) : Type 0 where
  pub not_low : ¬ IsLow (table_of recipe) range node
  pub not_high : ¬ IsHigh (table_of recipe) range node
  pub multipliers : Multipliers
  pub mix : Mix
  pub least : HasValue (table_of recipe) range node mix
  pub relaxation : IsRelaxation (judged_table recipe) range node multipliers mix
  pub printed : PrintsBound (table_of recipe) multipliers.p multipliers.q mix text

-- what is printed of a node of the recipe's files
abbrev pub PrintsNode : RecipeValue → Range → Node → List ℕ → Type 0
PrintsNode recipe range node text = PrintsLow recipe range node text ⊎ (PrintsHigh recipe range node text ⊎ PrintsValue recipe range node text)

-- the words spell a node of the recipe's files, and what it is is printed
pub record PrintsRelaxed (recipe : RecipeValue) (range : Range) (inside outside : List ℕ) (status : Status) (text : List ℕ) : Type 0 where
  pub node : Node
  pub spells : SpellsNode (length recipe.files) inside outside node
  pub answers : status ≡ Done
  pub printed : PrintsNode recipe range node text

-- how `relax` ends over its recipe; the words of the node stand at the places 5 and 6
abbrev pub RelaxOf : Amount → Amount → List ℕ → List ℕ → Status → List ℕ → RecipeValue → Type 0
RelaxOf target slack inside outside status text recipe =
    RefusesNode (length recipe.files) inside outside 5 status text ⊎ PrintsRelaxed recipe (range_in recipe target slack) inside outside status text

-- how `relax RECIPE TARGET SLACK IN OUT` ends over these byte strings
abbrev pub RelaxEnds : List ℕ → Amount → Amount → List ℕ → List ℕ → Told → Status → List ℕ → Type 0
RelaxEnds name target slack inside outside given status text = RecipeEnds given name status text (RelaxOf target slack inside outside status text)

-- the text begins with this line
abbrev pub BeginsWith : List ℕ → List ℕ → Type 0
BeginsWith front text = (rest : List ℕ) × (text ≡ front ++ rest)

-- two texts print one value
pub record ShareValue (text told : List ℕ) : Type 0 where
  pub over : ℕ
  pub under : ℕ
  pub first : BeginsWith (value_line over under) text
  pub second : BeginsWith (value_line over under) told

-- Two texts are one, or print one value. At a corner of the hull more than one slope fits, so of the text of a value only the
-- value is determined.
abbrev pub IsOneValue : List ℕ → List ℕ → Type 0
IsOneValue text told = (text ≡ told) ⊎ ShareValue text told

-- the words ask for what these words spell, of the files of this recipe
pub record AsksRelax (given : Told) (words : List (List ℕ)) (recipe : RecipeValue) (inside outside : List ℕ) : Type 0 where
  pub name : List ℕ
  pub target : Amount
  pub slack : Amount
  pub asks : Asks words (asking Relax name target slack inside outside)
  pub held : HoldsRecipe given name recipe

-- why `relax` is done: the words spell a node of the recipe's files
pub record HasNode (given : Told) (words : List (List ℕ)) : Type 0 where
  pub recipe : RecipeValue
  pub inside : List ℕ
  pub outside : List ℕ
  pub asks : AsksRelax given words recipe inside outside
  pub node : Node
  pub spells : SpellsNode (length recipe.files) inside outside node

-- why it is refused for its node: they spell none
pub record HasNoNode (given : Told) (words : List (List ℕ)) : Type 0 where
  pub recipe : RecipeValue
  pub inside : List ℕ
  pub outside : List ℕ
  pub asks : AsksRelax given words recipe inside outside
  pub bad : ℕ
  pub fault : IsBadNode (length recipe.files) inside outside 5 bad
