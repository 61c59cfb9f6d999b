use Rattle.incidence.proofs.Exact.{users_exact, chunks_exact, of_recipes}
use Rattle.incidence.proofs.laws.incidence_laws.Goals as goal

pub returns : goal.returns
returns c = record { users = users_exact; chunks = chunks_exact; recipes = of_recipes }
