use Rattle.std.proofs.Common.{◌∙◌, arith, sym}
use Rattle.recipe_reader.specs.Recipes.{is_named}
use Rattle.recipe_reader.specs.RecipeInside.{view_of}
use Rattle.recipe_reader.proofs.Keeping.{file_keeps, named_equiv}
use Rattle.list_facts.proofs.Numbering.{place}
use Rattle.recipe_reader.proofs.OnePairMore.{number_last}
use Rattle.recipe_reader.proofs.recipe.Recipe.add_file.Goals as goal

pub overflow_cast-result : goal.overflow_cast-result
overflow_cast-result c =
    let found = place (is_named c.args.name.now) c.self.inside.files c.in-Some.ensures.0 in
    let within = found.within in
    let limit = c.self.invariant.recipe.limits.files in
    omega (arith, within, c.in-Some.ensures.1, limit)

pub invariant_of-self-2 : goal.invariant_of-self-2
invariant_of-self-2 c =
    rw c.in-Ok.ensures.ok record {
      recipe = file_keeps (view_of c.self.inside) c.args.name.now c.self.invariant.recipe c.requires c.in_default.ensures (omega (arith, c.len-number.ensures));
      total = c.self.invariant.total;
    }

pub returns-clause-number : goal.returns-clause-number
returns-clause-number c =
    rw c.in-Ok.ensures.ok (c.len-number.ensures ∙ sym (number_last (is_named c.args.name.now) c.self.inside.files c.args.name.now c.in_default.ensures (named_equiv.refl c.args.name.now)))

pub returns-clause-recipe : goal.returns-clause-recipe
returns-clause-recipe c = (invariant_of-self-2 c).recipe
