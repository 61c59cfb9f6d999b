use Rattle.std.proofs.Common.{arith}
use Rattle.seed_model.proofs.Decimals.{room_next, shown_at, shown_end}
use Rattle.seed_model.proofs.numbers.write_digits.Goals as goal

pub loop-rest-init : goal.loop-rest-init
loop-rest-init c = record {
  place = omega arith;
  room = omega arith;
  less = omega arith;
  text = shown_end c.args.n c.args.digits.now (omega arith) (omega arith);
}

pub loop-rest-preserved : goal.loop-rest-preserved
loop-rest-preserved c =
    let inv = c.loop-rest.invariant in
    let next = room_next c.loop-rest.start c.loop-rest.rest (omega arith) inv.room in
    record {
      place = omega arith;
      room = next.1;
      less = omega arith;
      text = shown_at c.args.n c.loop-rest.rest c.loop-rest.start c.loop-rest.digits (omega arith) (omega arith) next.0 (omega arith) inv.text;
    }
