use Rattle.site_core.proofs.Fitting.{no_name_held}
use Rattle.site_core.proofs.fit.holds_no_name.Goals as goal

pub returns : goal.returns
returns c = no_name_held c.args.volume.now.shape c.args.names.now c.first_held.result c.len.result c.len.ensures.count c.first_held.ensures.within c.first_held.ensures.lacked c.first_held.ensures.holds
