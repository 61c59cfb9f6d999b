use Rattle.std.proofs.Common.{refl}
use Rattle.goseed_words.specs.Commands.{Gen}
use Rattle.goseed_words.proofs.WordLemmas.{reading_row, bad_at}
use Rattle.goseed_words.proofs.order.gen_of.Goals as goal

pub returns-in_err-number-clause-meaning : goal.returns-in_err-number-clause-meaning
returns-in_err-number-clause-meaning c = rw c.in-Some.ensures.found
    (bad_at _ Gen (reading_row Gen _ refl refl) 0 _ _ c.from_residual.ensures.1 c.in_err-number.ensures.error c.in_err-number.ensures.none)

pub returns-in_err-files-clause-meaning : goal.returns-in_err-files-clause-meaning
returns-in_err-files-clause-meaning c = rw c.in-Some.ensures.found
    (bad_at _ Gen (reading_row Gen _ refl refl) 1 _ _ c.from_residual-in_err-files.ensures.1 c.in_err-files.ensures.error
    ((c.in_ok-number.number, c.in_ok-number.ensures.found), c.in_err-files.ensures.none))

pub returns-clause-meaning : goal.returns-clause-meaning
returns-clause-meaning c = rw c.in-Some.ensures.found (record { fits = reading_row Gen _ refl refl; say = (c.in_ok-number.ensures.found, (c.in_ok-files.ensures.found, tt)) })
