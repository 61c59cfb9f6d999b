use Rattle.seed_text.proofs.SetBits.{one_spelling}
use Rattle.seed_text.proofs.set_text_laws.Goals as goal

pub returns : goal.returns
returns c = record { one_spelling = one_spelling }
