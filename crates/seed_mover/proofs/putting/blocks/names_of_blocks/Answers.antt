use Rattle.std.proofs.Common.{ap, ◌∙◌, arith}
use Rattle.std.specs.Prelude.{map as each}
use Rattle.std.proofs.lemmas.List.{take_all}
use Rattle.sha2.specs.Sha256.{sha256}
use Rattle.seed_mover.specs.Putting.{blocks_of}
use Rattle.seed_mover.proofs.BlockLists.{count_blocks}
use Rattle.seed_mover.proofs.putting.blocks.names_of_blocks.Goals as goal

pub returns : goal.returns
returns c =
    let blocks = blocks_of c.args.bytes.now c.args.ends.now in
    c.loop-block.invariant ∙ ap (each sha256) (take_all c.loop-block.block blocks (omega (arith, c.loop-block-test.false, count_blocks 0 c.args.bytes.now c.args.ends.now)))
