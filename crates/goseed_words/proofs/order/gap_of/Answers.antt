use Rattle.std.proofs.Common.{refl}
use Rattle.goseed_words.specs.Commands.{Gap}
use Rattle.goseed_words.proofs.WordLemmas.{reading_row}
use Rattle.goseed_words.proofs.order.gap_of.Goals as goal

pub returns-clause-meaning : goal.returns-clause-meaning
returns-clause-meaning c = rw c.in-Some.ensures.found (record { fits = reading_row Gap _ refl refl; say = (refl, (refl, tt)) })
