use Rattle.goseed_top.proofs.CommandLemmas.{one_ending}
use Rattle.goseed_top.proofs.laws.ending_laws.Goals as goal

pub returns : goal.returns
returns c = one_ending c.command_laws.ensures c.word_laws.ensures
