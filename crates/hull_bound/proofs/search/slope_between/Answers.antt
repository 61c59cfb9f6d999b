use Rattle.std.proofs.Common.{◌≤◌, ◌-◌, arith}
use Rattle.hull_bound.proofs.Lowest.{lowest_small}
use Rattle.hull_bound.proofs.search.slope_between.Goals as goal
use Rattle.hull_bound.proofs.search.slope_between.Goals.{After-lowest-p}

small : (c : After-lowest-p) → (c.lowest-p.result.0 ≤ c.args.stretch.now.upper.touched - c.args.stretch.now.lower.touched) × (c.lowest-p.result.1 ≤ c.args.stretch.now.upper.migrated - c.args.stretch.now.lower.migrated)
small c =
    lowest_small (c.args.stretch.now.upper.touched - c.args.stretch.now.lower.touched) (c.args.stretch.now.upper.migrated - c.args.stretch.now.lower.migrated) c.lowest-p.result.0 c.lowest-p.result.1
    (omega (arith, c.requires.migrated)) c.lowest-p.ensures

pub overflow_cast-result : goal.overflow_cast-result
overflow_cast-result c = omega (arith, (small (goal.at.overflow_cast-result c).After-lowest-p).0, c.requires.few_touched)

pub overflow_cast-result-2 : goal.overflow_cast-result-2
overflow_cast-result-2 c = omega (arith, (small (goal.at.overflow_cast-result-2 c).After-lowest-p).1, c.requires.few_migrated)

pub returns-clause-p : goal.returns-clause-p
returns-clause-p c = omega (arith, (small (goal.at.returns-clause-p c).After-lowest-p).0, c.requires.few_touched)

pub returns-clause-q : goal.returns-clause-q
returns-clause-q c = omega (arith, (small (goal.at.returns-clause-q c).After-lowest-p).1, c.requires.few_migrated)
