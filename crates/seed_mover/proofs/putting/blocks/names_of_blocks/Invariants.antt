use Rattle.std.proofs.Common.{◌≡◌, take}
use Rattle.std.specs.Prelude.{map as each}
use Rattle.sha2.specs.Sha256.{sha256}
use Rattle.seed_mover.specs.Putting.{blocks_of}
use Rattle.seed_mover.proofs.putting.blocks.names_of_blocks.Given as goal

abbrev pub invariant-loop-block : goal.invariant-loop-block
invariant-loop-block l = l.names.items ≡ each sha256 (take l.block (blocks_of l.bytes l.ends))
