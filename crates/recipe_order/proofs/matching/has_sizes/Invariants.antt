use Rattle.std.proofs.Common.{◌≡◌, ◌<◌, ℕ, get_or}
use Rattle.recipe_reader.specs.Recipes.{size_at}
use Rattle.recipe_order.proofs.matching.has_sizes.Given as goal

abbrev pub invariant-loop-chunk : goal.invariant-loop-chunk
invariant-loop-chunk l = (k : ℕ) → k < l.chunk → size_at l.whole (get_or l.numbers k 0) ≡ size_at l.part k
