use Rattle.trial_commands.proofs.TrialLemmas.{ok_tries}
use Rattle.trial_commands.proofs.seeking.seek_at.Goals as goal

pub returns : goal.returns
returns c = ok_tries c.merge_laws.ensures.sums _ _ _ _ c.requires.table c.greedy.result c.greedy.ensures.tried c.greedy.ensures.admitted
