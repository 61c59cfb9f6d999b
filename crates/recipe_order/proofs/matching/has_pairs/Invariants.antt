use Rattle.std.specs.Prelude.{All}
use Rattle.std.proofs.Common.{take}
use Rattle.recipe_order.specs.Matching.{StandsIn}
use Rattle.recipe_order.proofs.matching.has_pairs.Given as goal

abbrev pub invariant-loop-pair : goal.invariant-loop-pair
invariant-loop-pair l = All (StandsIn l.whole l.files l.chunks) (take l.pair-index l.part.pairs)
