use Rattle.recipe_order.proofs.Alike.{carries_best, carries_range, carries_sums, keeps_best, keeps_none, keeps_range}
use Rattle.recipe_order.proofs.NamedSums.{keeps_bytes, keeps_sums}
use Rattle.recipe_order.proofs.laws.order_laws.Goals as goal

pub returns : goal.returns
returns c = record {
  sums = keeps_sums;
  bytes = keeps_bytes;
  range = keeps_range;
  best = keeps_best;
  none = keeps_none;
  carried_sums = carries_sums;
  carried_range = carries_range;
  carried_best = carries_best;
}
