use Rattle.recipe_order.proofs.Pinned.{has_one_member}
use Rattle.recipe_order.proofs.pins.pins_laws.Goals as goal

pub returns : goal.returns
returns c = has_one_member
