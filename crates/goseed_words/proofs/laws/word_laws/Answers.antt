use Rattle.goseed_words.proofs.MeaningLemmas.{one_meaning}
use Rattle.goseed_words.proofs.laws.word_laws.Goals as goal

pub returns : goal.returns
returns c = one_meaning
