use Rattle.std.proofs.Common.{refl, sym, inl, inr}
use Rattle.std.specs.Cmp.Lexicographic.{same_text, other_text}
use Rattle.goseed_words.specs.Commands.{Recipe, Certificate, Carry}
use Rattle.goseed_words.proofs.MeaningLemmas.{not_apart}
use Rattle.goseed_words.proofs.WordLemmas.{creating_last_row}
use Rattle.goseed_words.proofs.order.carry_of.Goals as goal

pub returns-then-eq-clause-meaning : goal.returns-then-eq-clause-meaning
returns-then-eq-clause-meaning c = rw c.in-Some.ensures.found
    (not_apart Carry _ c.in-Some.recipe.now Recipe (inr (inr (inr (inl (refl, sym (same_text c.in-Some.recipe.now c.in-Some.out.now c.if-eq.ensures)))))) (inl (refl, refl)))

pub returns-then-eq-2-clause-meaning : goal.returns-then-eq-2-clause-meaning
returns-then-eq-2-clause-meaning c = rw c.in-Some.ensures.found
    (not_apart Carry _ c.in-Some.document.now Certificate (inr (inr (inr (inl (refl, sym (same_text c.in-Some.document.now c.in-Some.out.now c.if-eq-2.ensures)))))) (inr (inl (refl, refl))))

pub returns-then-eq-3-clause-meaning : goal.returns-then-eq-3-clause-meaning
returns-then-eq-3-clause-meaning c = rw c.in-Some.ensures.found
    (not_apart Carry _ c.in-Some.other.now Recipe (inr (inr (inr (inl (refl, sym (same_text c.in-Some.other.now c.in-Some.out.now c.if-eq-3.ensures)))))) (inr (inr (inl (refl, refl)))))

pub returns-clause-meaning : goal.returns-clause-meaning
returns-clause-meaning c = rw c.in-Some.ensures.found (record {
  fits = creating_last_row Carry Recipe Certificate Recipe _ _ _ _ refl (other_text c.in-Some.recipe.now c.in-Some.out.now c.if-eq.ensures)
      (other_text c.in-Some.document.now c.in-Some.out.now c.if-eq-2.ensures) (other_text c.in-Some.other.now c.in-Some.out.now c.if-eq-3.ensures);
  say = (refl, (refl, (refl, (refl, tt))));
})
