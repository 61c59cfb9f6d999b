use Rattle.recipe_reader.specs.RecipeInside.{view_of}
use Rattle.recipe_reader.proofs.Keeping.{tried_keeps}
use Rattle.recipe_reader.proofs.recipe.Recipe.add_use.Goals as goal

pub invariant_of-self : goal.invariant_of-self
invariant_of-self c =
    let there = rw (← c.self.view_is) at c.requires in
    let added = c.add.ensures in
    record {
      recipe = tried_keeps (view_of c.self.inside) c.add.new.self c.args.file c.args.chunk c.add.result c.self.invariant.recipe there.file there.chunk added.ok added.room added.err;
      total = c.self.invariant.total;
    }

pub returns-clause-recipe : goal.returns-clause-recipe
returns-clause-recipe c = (invariant_of-self c).recipe
