use Rattle.site_forms.proofs.Distinct.{AreSeen}
use Rattle.site_forms.proofs.names.Names.are_distinct.Given as goal

abbrev pub invariant-loop-place : goal.invariant-loop-place
invariant-loop-place l = AreSeen l.seen.keys l.self l.place
