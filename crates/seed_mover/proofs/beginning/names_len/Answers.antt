use Rattle.std.proofs.Common.{arith}
use Rattle.move_journal.proofs.Measured.{measured_length}
use Rattle.seed_mover.proofs.beginning.names_len.Goals as goal

pub loop-place-preserved : goal.loop-place-preserved
loop-place-preserved c = record {
  names = c.loop-place.invariant.names;
  len = omega (arith, c.loop-place.invariant.len, measured_length c.args.names.now c.loop-place.place c.get.result.now c.get.ensures.name);
  most = omega (arith, c.loop-place.invariant.most, c.get.ensures.lawful.short);
}
