use Rattle.greedy_seed.proofs.Bounds.{keeps_bound}
use Rattle.greedy_seed.proofs.Members.{found_is_admitted}
use Rattle.greedy_seed.proofs.laws.greedy_laws.Goals as goal

pub returns : goal.returns
returns c = record { admitted = found_is_admitted; bound = keeps_bound }
