use Rattle.site_core.specs.Cursors.{LackedBefore}
use Rattle.site_core.proofs.search.first_held.Given as goal

abbrev pub invariant-loop-place : goal.invariant-loop-place
invariant-loop-place l = LackedBefore l.source.shape l.names l.place
