use Rattle.recipe_reader.specs.Limits.{KeepsSize}
use Rattle.recipe_reader.specs.RecipeInside.{view_of}
use Rattle.recipe_reader.specs.Recipes.{NamedChunk, RecipeValue}
use Rattle.std.proofs.Common.{Some, subst}
use Rattle.recipe_reader.proofs.Sizes.{keeps_known, keeps_new}
use Rattle.recipe_reader.proofs.recipe.Recipe.other_size.Goals as goal

pub returns-else-first-size-clause-none : goal.returns-else-first-size-clause-none
returns-else-first-size-clause-none c =
    let chunk : NamedChunk = record { name = c.args.chunk.now; size = c.args.size } in
    let Keeps : RecipeValue → Type 0 = λ a. KeepsSize a (Some chunk) in
    subst Keeps c.self.view_is (keeps_known (view_of c.self.inside) c.in-Some.field-0-0 chunk c.self.invariant.recipe.chunks_differ (rw c.if-first-size.false at c.in-Some.ensures.size))

pub returns-in-None-clause-none : goal.returns-in-None-clause-none
returns-in-None-clause-none c =
    let chunk : NamedChunk = record { name = c.args.chunk.now; size = c.args.size } in
    let Keeps : RecipeValue → Type 0 = λ a. KeepsSize a (Some chunk) in
    subst Keeps c.self.view_is (keeps_new (view_of c.self.inside) chunk c.in-None.ensures.number)
