use Rattle.site_core.proofs.Fitting.{all_names_held}
use Rattle.site_core.proofs.fit.holds_all_names.Goals as goal

pub returns : goal.returns
returns c = all_names_held c.args.volume.now.shape c.args.names.now c.first_lacked.result c.len.result c.len.ensures.count c.first_lacked.ensures.within c.first_lacked.ensures.held c.first_lacked.ensures.lacks
