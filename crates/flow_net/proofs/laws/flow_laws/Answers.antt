use Rattle.flow_net.proofs.Values.{sides_bound, tight_sides_are_carried}
use Rattle.flow_net.proofs.laws.flow_laws.Goals as goal

pub returns-clause-bound : goal.returns-clause-bound
returns-clause-bound c = sides_bound

pub returns-clause-tight : goal.returns-clause-tight
returns-clause-tight c = tight_sides_are_carried
