use Rattle.std.proofs.Common.{◌≡◌, ◌+◌, ◌≤◌, ◌++◌, ℕ, List, length}
use Rattle.csv_rows.specs.Rows.{rows_of}
use Rattle.recipe_reader.specs.Reading.{Leads}
use Rattle.recipe_reader.specs.Recipes.{empty_recipe}
use Rattle.recipe_reader.proofs.reading.read_recipe.Given as goal

-- the rows so far lead to the recipe, and the rows left follow them
abbrev pub invariant-loop-before : goal.invariant-loop-before
invariant-loop-before l = record {
  front : List (List (List ℕ));
  split : rows_of l.text ≡ front ++ l.rows;
  count : l.before ≡ length front;
  few : l.before + length l.rows ≤ length l.text;
  lawful : Leads empty_recipe front l.recipe;
}
