use Rattle.std.proofs.Common.{arith}
use Rattle.volume_disk.proofs.Marks.{copied}
use Rattle.volume_disk.proofs.device.copy_range.Goals as goal

pub returns : goal.returns
returns c = λ i within. copied c.args.to.now _ c.args.from.now c.args.start _ i (omega arith) (omega arith) c.copy_from_slice.ensures.after
