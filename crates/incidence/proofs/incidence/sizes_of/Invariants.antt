use Rattle.std.proofs.Common.{◌≡◌}
use Rattle.std.specs.Prelude.{map}
use Rattle.std.specs.List.{range_with_len}
use Rattle.recipe_reader.specs.Recipes.{size_at}
use Rattle.incidence.proofs.incidence.sizes_of.Given as goal

abbrev pub invariant-loop-chunk : goal.invariant-loop-chunk
invariant-loop-chunk l = l.sizes.items ≡ map (size_at l.recipe) (range_with_len 0 l.chunk)
