use Rattle.recipe_reader.proofs.Grouping.{no_groups}
use Rattle.recipe_reader.proofs.grouped.GroupedPairs.with_room.Goals as goal

pub invariant_of-result : goal.invariant_of-result
invariant_of-result c = rw (c.room_for.ensures, c.new.ensures.items) no_groups
