use Rattle.std.proofs.lemmas.Nat.Gcd.{IsGcd-from_mod}
use Rattle.seed_ratio.proofs.fractions.+gcd.Goals as goal

pub returns-else-b-eq0-clause-divisor : goal.returns-else-b-eq0-clause-divisor
returns-else-b-eq0-clause-divisor t c = IsGcd-from_mod c.args.a c.args.b c.gcd.result c.gcd.ensures.divisor
