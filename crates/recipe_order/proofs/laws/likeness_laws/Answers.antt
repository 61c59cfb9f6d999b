use Rattle.recipe_order.proofs.Alike.{holds_of_same, is_reflexive, is_symmetric, is_transitive}
use Rattle.recipe_order.proofs.laws.likeness_laws.Goals as goal

pub returns : goal.returns
returns c = record { reflexive = is_reflexive; symmetric = is_symmetric; transitive = is_transitive; same = holds_of_same }
