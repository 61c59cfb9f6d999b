use Rattle.std.proofs.Common.{arith}
use Rattle.volume_disk.proofs.Marks.{marked}
use Rattle.volume_disk.proofs.device.mark.Goals as goal

pub returns : goal.returns
returns c = λ i within. marked c.args.touched.now _ c.args.start _ _ i (omega arith) (omega (arith, c.fill.ensures.len)) (c.fill.ensures.after (λ y e. e))
