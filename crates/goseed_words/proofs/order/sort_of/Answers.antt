use Rattle.std.proofs.Common.{[], refl, sym, inl, inr}
use Rattle.std.specs.Cmp.Lexicographic.{same_text, other_text}
use Rattle.goseed_words.specs.Commands.{Recipe, Sort}
use Rattle.goseed_words.proofs.MeaningLemmas.{not_apart}
use Rattle.goseed_words.proofs.WordLemmas.{creating_row}
use Rattle.goseed_words.proofs.order.sort_of.Goals as goal

pub returns-then-eq-clause-meaning : goal.returns-then-eq-clause-meaning
returns-then-eq-clause-meaning c = rw c.in-Some.ensures.found (not_apart Sort _ c.in-Some.recipe.now Recipe (inr (inl (refl, sym (same_text c.in-Some.recipe.now c.in-Some.out.now c.if-eq.ensures)))) (inl (refl, refl)))

pub returns-clause-meaning : goal.returns-clause-meaning
returns-clause-meaning c = rw c.in-Some.ensures.found
    (record { fits = creating_row Sort Recipe [] _ _ _ refl refl refl refl (other_text c.in-Some.recipe.now c.in-Some.out.now c.if-eq.ensures); say = (refl, (refl, tt)) })
