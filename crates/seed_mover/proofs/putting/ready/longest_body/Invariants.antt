use Rattle.std.proofs.Common.{◌+◌, ◌≤◌, length, take}
use Rattle.std.specs.Prelude.{All}
use Rattle.seed_mover.specs.Putting.{blocks_of}
use Rattle.seed_mover.proofs.putting.ready.longest_body.Given as goal

abbrev pub invariant-loop-block : goal.invariant-loop-block
invariant-loop-block l = record { all : All (λ block. 33 + length block ≤ l.longest) (take l.block (blocks_of l.bytes l.ends)); least : 33 ≤ l.longest; most : l.longest ≤ 1048609 }
