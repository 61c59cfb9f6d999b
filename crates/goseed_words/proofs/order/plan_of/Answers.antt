use Rattle.std.proofs.Common.{◌∷◌, [], refl, sym, inl, inr}
use Rattle.std.specs.Cmp.Lexicographic.{same_text, other_text}
use Rattle.goseed_words.specs.Commands.{Recipe, AnAmount, ANumber, Plan}
use Rattle.goseed_words.proofs.MeaningLemmas.{not_apart}
use Rattle.goseed_words.proofs.WordLemmas.{creating_row, bad_at}
use Rattle.goseed_words.proofs.order.plan_of.Goals as goal

pub returns-then-eq-clause-meaning : goal.returns-then-eq-clause-meaning
returns-then-eq-clause-meaning c = rw c.in-Some.ensures.found (not_apart Plan _ c.in-Some.recipe.now Recipe (inr (inl (refl, sym (same_text c.in-Some.recipe.now c.in-Some.document.now c.if-eq.ensures)))) (inl (refl, refl)))

pub returns-in_err-target-clause-meaning : goal.returns-in_err-target-clause-meaning
returns-in_err-target-clause-meaning c = rw c.in-Some.ensures.found
    (bad_at _ Plan (creating_row Plan Recipe (AnAmount ∷ AnAmount ∷ ANumber 65535 ∷ []) _ _ _ refl refl refl refl (other_text c.in-Some.recipe.now c.in-Some.document.now c.if-eq.ensures)) 2 _ _ c.from_residual.ensures.1 c.in_err-target.ensures.error
    ((c.in-Some.recipe.now, refl), ((c.in-Some.document.now, refl), c.in_err-target.ensures.none)))

pub returns-in_err-slack-clause-meaning : goal.returns-in_err-slack-clause-meaning
returns-in_err-slack-clause-meaning c = rw c.in-Some.ensures.found
    (bad_at _ Plan (creating_row Plan Recipe (AnAmount ∷ AnAmount ∷ ANumber 65535 ∷ []) _ _ _ refl refl refl refl (other_text c.in-Some.recipe.now c.in-Some.document.now c.if-eq.ensures)) 3 _ _ c.from_residual-in_err-slack.ensures.1 c.in_err-slack.ensures.error
    ((c.in-Some.recipe.now, refl), ((c.in-Some.document.now, refl), ((c.in_ok-target.target, c.in_ok-target.ensures.found), c.in_err-slack.ensures.none))))

pub returns-in_err-nodes-clause-meaning : goal.returns-in_err-nodes-clause-meaning
returns-in_err-nodes-clause-meaning c = rw c.in-Some.ensures.found
    (bad_at _ Plan (creating_row Plan Recipe (AnAmount ∷ AnAmount ∷ ANumber 65535 ∷ []) _ _ _ refl refl refl refl (other_text c.in-Some.recipe.now c.in-Some.document.now c.if-eq.ensures)) 4 _ _ c.from_residual-in_err-nodes.ensures.1 c.in_err-nodes.ensures.error
    ((c.in-Some.recipe.now, refl), ((c.in-Some.document.now, refl), ((c.in_ok-target.target, c.in_ok-target.ensures.found), ((c.in_ok-slack.slack, c.in_ok-slack.ensures.found), c.in_err-nodes.ensures.none)))))

pub returns-clause-meaning : goal.returns-clause-meaning
returns-clause-meaning c = rw c.in-Some.ensures.found
    (record { fits = creating_row Plan Recipe (AnAmount ∷ AnAmount ∷ ANumber 65535 ∷ []) _ _ _ refl refl refl refl (other_text c.in-Some.recipe.now c.in-Some.document.now c.if-eq.ensures); say = (refl, (refl, (c.in_ok-target.ensures.found, (c.in_ok-slack.ensures.found, (c.in_ok-nodes.ensures.found, tt))))) })
