use Rattle.hull_bound.specs.Corners.{IsBetween, aim_of, width_of}
use Rattle.hull_bound.proofs.search.seek.Given as goal

abbrev pub invariant-turns : goal.invariant-turns
invariant-turns g l = record { between : IsBetween l.table l.node l.short (aim_of l.range l.short) l.stretch }

abbrev pub decreases-turns : goal.decreases-turns
decreases-turns g l = width_of l.stretch
