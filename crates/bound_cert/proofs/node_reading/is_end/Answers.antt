use Rattle.std.proofs.Common.{refl}
use Rattle.bound_cert.proofs.Heads.{end_is_last}
use Rattle.bound_cert.proofs.node_reading.is_end.Goals as goal

pub returns-in-End : goal.returns-in-End
returns-in-End c = (λ t. end_is_last c.args.lines.now c.first_of.result.1.now c.first_of.result.0 c.requires c.first_of.ensures c.in-End.is, λ e. refl)
