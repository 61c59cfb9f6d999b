use Rattle.std.specs.Prelude.{◌≡◌}
use Rattle.recipe_reader.specs.Lawful.{IsRecipe}
use Rattle.recipe_reader.specs.Recipes.{RecipeValue, bytes_of}
use Rattle.recipe_reader.specs.declared.recipe.Recipe.TheInside.{Inside}

abbrev pub view_of : Inside → RecipeValue
view_of a = record { files = a.files; chunks = a.chunks; pairs = a.pairs }

-- the running total is that of all chunks
pub record KeepsRecipe (a : Inside) : Type 0 where
  pub recipe : IsRecipe (view_of a)
  pub total : a.total ≡ bytes_of (view_of a)
