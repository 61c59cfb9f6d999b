use Rattle.site_core.specs.Cursors.{CopiedBefore, IsPast}
use Rattle.site_core.proofs.search.first_to_copy.Given as goal

abbrev pub invariant-loop-place : goal.invariant-loop-place
invariant-loop-place l = CopiedBefore l.source.shape l.target.shape l.names l.place l.from × IsPast l.name l.chunk l.place l.from
