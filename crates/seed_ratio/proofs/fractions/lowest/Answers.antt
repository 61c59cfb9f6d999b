use Rattle.seed_ratio.proofs.Ratios.{lowest_terms}
use Rattle.seed_ratio.proofs.fractions.lowest.Goals as goal

pub returns : goal.returns
returns c = lowest_terms c.args.a c.args.b c.gcd-divisor.result c.requires c.gcd-divisor.ensures.divisor
