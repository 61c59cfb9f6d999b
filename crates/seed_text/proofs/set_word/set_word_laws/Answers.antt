use Rattle.seed_text.proofs.SetWordLemmas.{set_word}
use Rattle.seed_text.proofs.set_word.set_word_laws.Goals as goal

pub returns : goal.returns
returns c = set_word
