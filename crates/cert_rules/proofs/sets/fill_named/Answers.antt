use Rattle.std.proofs.Common.{length}
use Rattle.cert_rules.proofs.Named.{named, names_set}
use Rattle.cert_rules.proofs.sets.fill_named.Goals as goal

pub returns-clause-named : goal.returns-clause-named
returns-clause-named c = names_set c.fill_set.result (length c.args.set.now) c.args.word.now c.fill_set.ensures.text

pub returns-clause-set : goal.returns-clause-set
returns-clause-set c = λ t. named (length c.args.set.now) c.args.word.now c.fill_set.new.set c.fill_set.ensures.stays (c.fill_set.ensures.set t)
