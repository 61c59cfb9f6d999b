use Rattle.std.proofs.Common.{arith}
use Rattle.chunk_volume.proofs.Fronts.{chunk_spelled}
use Rattle.chunk_volume.proofs.records.chunk_in.Goals as goal

pub returns-clause-some : goal.returns-clause-some
returns-clause-some c = record {
  some = omega (arith, c.if-len-le-CHUNK_FRONT.false);
  most = omega (arith, c.if-len.false);
  record_is = λ body long is.
      chunk_spelled c.args.front.now body c.copy_from_slice.new.self c.args.len c.requires.kind (omega (arith, c.if-len-le-CHUNK_FRONT.false)) (omega (arith, c.if-len.false)) long is c.copy_from_slice.ensures.after;
}
