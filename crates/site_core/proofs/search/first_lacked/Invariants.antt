use Rattle.site_core.specs.Cursors.{HeldBefore}
use Rattle.site_core.proofs.search.first_lacked.Given as goal

abbrev pub invariant-loop-place : goal.invariant-loop-place
invariant-loop-place l = HeldBefore l.target.shape l.names l.place
