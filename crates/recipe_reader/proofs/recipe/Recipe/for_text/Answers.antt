use Rattle.std.proofs.Common.{refl}
use Rattle.recipe_reader.proofs.Keeping.{empty_keeps}
use Rattle.recipe_reader.proofs.recipe.Recipe.for_text.Goals as goal

pub invariant_of-result : goal.invariant_of-result
invariant_of-result c = rw (c.new.ensures, c.with_room.ensures, c.with_room-2.ensures) record { recipe = empty_keeps; total = refl }
