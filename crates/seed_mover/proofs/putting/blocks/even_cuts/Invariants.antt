use Rattle.std.proofs.Common.{◌≡◌}
use Rattle.std.specs.Prelude.{map as each}
use Rattle.std.specs.List.{range_with_len}
use Rattle.seed_mover.proofs.BlockLists.{even_end}
use Rattle.seed_mover.proofs.putting.blocks.even_cuts.Given as goal

abbrev pub invariant-loop-block : goal.invariant-loop-block
invariant-loop-block l = l.ends.items ≡ each (even_end l.fn.len) (range_with_len 0 l.block)
