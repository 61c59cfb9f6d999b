use Rattle.std.proofs.Common.{refl}
use Rattle.goseed_words.specs.Commands.{Relax}
use Rattle.goseed_words.proofs.WordLemmas.{reading_row, bad_at}
use Rattle.goseed_words.proofs.order.relax_of.Goals as goal

pub returns-in_err-target-clause-meaning : goal.returns-in_err-target-clause-meaning
returns-in_err-target-clause-meaning c = rw c.in-Some.ensures.found
    (bad_at _ Relax (reading_row Relax _ refl refl) 1 _ _ c.from_residual.ensures.1 c.in_err-target.ensures.error ((c.in-Some.recipe.now, refl), c.in_err-target.ensures.none))

pub returns-in_err-slack-clause-meaning : goal.returns-in_err-slack-clause-meaning
returns-in_err-slack-clause-meaning c = rw c.in-Some.ensures.found
    (bad_at _ Relax (reading_row Relax _ refl refl) 2 _ _ c.from_residual-in_err-slack.ensures.1 c.in_err-slack.ensures.error
    ((c.in-Some.recipe.now, refl), ((c.in_ok-target.target, c.in_ok-target.ensures.found), c.in_err-slack.ensures.none)))

pub returns-in_err-inside-clause-meaning : goal.returns-in_err-inside-clause-meaning
returns-in_err-inside-clause-meaning c = rw c.in-Some.ensures.found
    (bad_at _ Relax (reading_row Relax _ refl refl) 3 _ _ c.from_residual-in_err-inside.ensures.1 c.in_err-inside.ensures.error
    ((c.in-Some.recipe.now, refl), ((c.in_ok-target.target, c.in_ok-target.ensures.found), ((c.in_ok-slack.slack, c.in_ok-slack.ensures.found), λ set says. c.in_err-inside.ensures.none says.1))))

pub returns-in_err-outside-clause-meaning : goal.returns-in_err-outside-clause-meaning
returns-in_err-outside-clause-meaning c = rw c.in-Some.ensures.found
    (bad_at _ Relax (reading_row Relax _ refl refl) 4 _ _ c.from_residual-in_err-outside.ensures.1 c.in_err-outside.ensures.error (
      (c.in-Some.recipe.now, refl),
      (
        (c.in_ok-target.target, c.in_ok-target.ensures.found),
        (
          (c.in_ok-slack.slack, c.in_ok-slack.ensures.found),
          ((c.in-Some.inside.now, (refl, c.in_ok-inside.ensures.found.1)), λ set says. c.in_err-outside.ensures.none says.1),
        ),
      ),
    ))

pub returns-clause-meaning : goal.returns-clause-meaning
returns-clause-meaning c = rw (c.in-Some.ensures.found, c.in_ok-inside.ensures.found.0, c.in_ok-outside.ensures.found.0)
    (record { fits = reading_row Relax _ refl refl; say = (refl, (c.in_ok-target.ensures.found, (c.in_ok-slack.ensures.found, ((refl, c.in_ok-inside.ensures.found.1), ((refl, c.in_ok-outside.ensures.found.1), tt))))) })
