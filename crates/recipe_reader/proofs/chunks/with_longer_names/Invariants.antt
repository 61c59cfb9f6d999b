use Rattle.std.proofs.Common.{◌≡◌, take}
use Rattle.recipe_reader.proofs.chunks.with_longer_names.Given as goal

abbrev pub invariant-loop-chunk : goal.invariant-loop-chunk
invariant-loop-chunk l = l.long.keys ≡ take l.chunk-index l.short.keys
