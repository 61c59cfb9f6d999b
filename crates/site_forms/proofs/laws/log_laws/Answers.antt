use Rattle.site_forms.proofs.Logs.{blank, agree, extend}
use Rattle.site_forms.proofs.Walks.{ends, bodies_in, within}
use Rattle.site_forms.proofs.Whole.{whole_log}
use Rattle.site_forms.proofs.laws.log_laws.Goals as goal

pub returns : goal.returns
returns g = record { blank = blank; agree = agree; extend = extend; ends = ends; lawful = bodies_in; within = within; whole = whole_log }
