-- What words and names give is one.
use Rattle.std.specs.Prelude.{◌≡◌, ℕ, List}
use Rattle.seed_io.specs.Shelf.{Told}
use Rattle.seed_model.specs.declared.node.Node.{Node}
use Rattle.recipe_reader.specs.Recipes.{RecipeValue}
use Rattle.command_texts.specs.declared.status.Status.{Status}
use Rattle.planning_commands.specs.Nodes.{SpellsNode, IsBadNode}
use Rattle.planning_commands.specs.Reading.{HoldsRecipe, LacksRecipe}

-- A name gives one recipe, or none. Two words spell one node, or none.
pub record GiveOne : Type 0 where
  pub recipe : (given : Told) (name : List ℕ) (one other : RecipeValue) → HoldsRecipe given name one → HoldsRecipe given name other → one ≡ other
  pub lacking : (given : Told) (name : List ℕ) (recipe : RecipeValue) (status : Status) (text : List ℕ) → HoldsRecipe given name recipe → ¬ LacksRecipe given name status text
  pub node : (files : ℕ) (inside outside : List ℕ) (one other : Node) → SpellsNode files inside outside one → SpellsNode files inside outside other → one ≡ other
  pub bad : (files : ℕ) (inside outside : List ℕ) (place bad : ℕ) (node : Node) → SpellsNode files inside outside node → ¬ IsBadNode files inside outside place bad
