use Rattle.recipe_order.proofs.OneOrder.{has_one_order, has_one_sorted}
use Rattle.recipe_order.proofs.laws.one_order_laws.Goals as goal

pub returns : goal.returns
returns c = record { order = has_one_order; sorted = has_one_sorted }
