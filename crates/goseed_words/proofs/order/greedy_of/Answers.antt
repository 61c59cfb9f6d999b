use Rattle.std.proofs.Common.{refl}
use Rattle.goseed_words.specs.Commands.{Greedy}
use Rattle.goseed_words.proofs.WordLemmas.{reading_row, bad_at}
use Rattle.goseed_words.proofs.order.greedy_of.Goals as goal

pub returns-in_err-target-clause-meaning : goal.returns-in_err-target-clause-meaning
returns-in_err-target-clause-meaning c = rw c.in-Some.ensures.found
    (bad_at _ Greedy (reading_row Greedy _ refl refl) 1 _ _ c.from_residual.ensures.1 c.in_err-target.ensures.error ((c.in-Some.recipe.now, refl), c.in_err-target.ensures.none))

pub returns-in_err-slack-clause-meaning : goal.returns-in_err-slack-clause-meaning
returns-in_err-slack-clause-meaning c = rw c.in-Some.ensures.found
    (bad_at _ Greedy (reading_row Greedy _ refl refl) 2 _ _ c.from_residual-in_err-slack.ensures.1 c.in_err-slack.ensures.error
    ((c.in-Some.recipe.now, refl), ((c.in_ok-target.target, c.in_ok-target.ensures.found), c.in_err-slack.ensures.none)))

pub returns-clause-meaning : goal.returns-clause-meaning
returns-clause-meaning c = rw c.in-Some.ensures.found (record { fits = reading_row Greedy _ refl refl; say = (refl, (c.in_ok-target.ensures.found, (c.in_ok-slack.ensures.found, tt))) })
