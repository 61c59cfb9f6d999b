use Rattle.std.proofs.Common.{arith}
use Rattle.seed_mover.proofs.BlockLists.{names_many}
use Rattle.seed_mover.proofs.putting.ready.ready_volume.Goals as goal

pub first_places-requires : goal.first_places-requires
first_places-requires g c = omega (arith, c.requires.few, names_many c.args.bytes.now c.args.ends.now c.args.names.now c.requires.names)
