use Rattle.cert_rules.proofs.Rules.{unruled_keep_all}
use Rattle.cert_rules.proofs.unruled_laws.Goals as goal

pub returns : goal.returns
returns c = unruled_keep_all
