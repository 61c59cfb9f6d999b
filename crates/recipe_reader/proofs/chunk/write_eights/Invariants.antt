use Rattle.std.proofs.Common.{◌≡◌}
use Rattle.std.specs.Prelude.{map}
use Rattle.std.specs.List.{fold, range_with_len}
use Rattle.recipe_reader.specs.Eights.{eight_at}
use Rattle.recipe_reader.proofs.chunk.write_eights.Given as goal

abbrev pub invariant-loop-place : goal.invariant-loop-place
invariant-loop-place g l = l.state ≡ fold g.H.Hasher.write l.fn.state (map (eight_at l.bytes) (range_with_len 0 l.place))
