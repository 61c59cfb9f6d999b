use Rattle.std.proofs.Common.{◌<◌, ◌≤◌, ◌^◌, drop}
use Rattle.seed_model.proofs.Decimals.{IsShown}
use Rattle.seed_model.proofs.numbers.write_digits.Given as goal

abbrev pub invariant-loop-rest : goal.invariant-loop-rest
invariant-loop-rest l = record {
  place : l.start < 39;
  room : l.rest < 10 ^ l.start;
  less : l.rest ≤ l.n;
  text : IsShown l.n l.rest (drop l.start l.digits);
}

abbrev pub decreases-loop-rest : goal.decreases-loop-rest
decreases-loop-rest l = l.rest
