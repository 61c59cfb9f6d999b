use Rattle.std.proofs.Common.{◌≡◌, take}
use Rattle.recipe_reader.proofs.grouped.GroupedPairs.to_set.Given as goal

abbrev pub invariant-loop-pair : goal.invariant-loop-pair
invariant-loop-pair l = l.set.keys ≡ take l.pair-index l.self
