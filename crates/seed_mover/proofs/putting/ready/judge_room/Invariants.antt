use Rattle.std.proofs.Common.{take}
use Rattle.seed_mover.specs.Putting.{blocks_of}
use Rattle.seed_mover.proofs.PutRoom.{RoomSoFar}
use Rattle.seed_mover.proofs.putting.ready.judge_room.Given as goal

abbrev pub invariant-loop-block : goal.invariant-loop-block
invariant-loop-block l = RoomSoFar l.volume (take l.block (blocks_of l.bytes l.ends)) l.end
