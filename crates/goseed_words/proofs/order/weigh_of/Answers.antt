use Rattle.std.proofs.Common.{refl}
use Rattle.goseed_words.specs.Commands.{Weigh}
use Rattle.goseed_words.proofs.WordLemmas.{reading_row, bad_at}
use Rattle.goseed_words.proofs.order.weigh_of.Goals as goal

pub returns-in_err-set-clause-meaning : goal.returns-in_err-set-clause-meaning
returns-in_err-set-clause-meaning c = rw c.in-Some.ensures.found
    (bad_at _ Weigh (reading_row Weigh _ refl refl) 1 _ _ c.from_residual.ensures.1 c.in_err-set.ensures.error
    ((c.in-Some.recipe.now, refl), λ set says. c.in_err-set.ensures.none says.1))

pub returns-clause-meaning : goal.returns-clause-meaning
returns-clause-meaning c = rw (c.in-Some.ensures.found, c.in_ok-set.ensures.found.0) (record { fits = reading_row Weigh _ refl refl; say = (refl, ((refl, c.in_ok-set.ensures.found.1), tt)) })
