use Rattle.std.proofs.Common.{sym}
use Rattle.std.proofs.lemmas.List.{drop-drop}
use Rattle.hull_bound.proofs.gives.charges_of.Goals as goal

pub returns-else-forced-clause-pipe : goal.returns-else-forced-clause-pipe
returns-else-forced-clause-pipe c = rw c.if-forced.false (sym (drop-drop 1 c.args.first c.args.amounts.flow.now.amounts))
