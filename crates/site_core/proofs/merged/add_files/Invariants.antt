use Rattle.site_core.specs.Fitting.{HasUpto}
use Rattle.site_core.proofs.merged.add_files.Given as goal

abbrev pub invariant-files : goal.invariant-files
invariant-files l = HasUpto l.fn.index.shape l.holding.shape l.place l.index.shape
