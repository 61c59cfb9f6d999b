use Rattle.site_core.proofs.Fitting.{tidy_judged}
use Rattle.site_core.proofs.fit.is_tidy.Goals as goal

pub returns : goal.returns
returns c = tidy_judged c.args.volume.now.shape c.first_orphan.result c.is_none.result c.file_count-files.ensures.keeps c.first_orphan.ensures c.is_none.ensures
