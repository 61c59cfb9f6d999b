use Rattle.hull_bound.proofs.OneSlope.{one_bound}
use Rattle.hull_bound.proofs.laws.relaxation_laws.Goals as goal

pub returns : goal.returns
returns c = one_bound
