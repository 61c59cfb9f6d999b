use Rattle.site_core.specs.Fitting.{HasNamed}
use Rattle.site_core.proofs.merged.add_named.Given as goal

abbrev pub invariant-names : goal.invariant-names
invariant-names l = HasNamed l.whole.shape l.names l.place l.index.shape
