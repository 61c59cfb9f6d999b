use Rattle.std.proofs.Common.{◌≡◌, ◌∙◌, ◌++◌, ◌∷◌, [], ap, sym, ℕ}
use Rattle.goseed_words.proofs.AmountLemmas.{none_spelled}
use Rattle.goseed_words.proofs.amount.amount_of.Goals as goal

pub returns-in-Some-eq37-default-clause-none : goal.returns-in-Some-eq37-default-clause-none
returns-in-Some-eq37-default-clause-none c =
    let arm = c.in-Some-eq37-default in
    let split : c.args.word.now ≡ arm.digits.now ++ 37 ∷ [] = sym c.as_bytes.ensures.value ∙ (arm.ensures.cases.0 ∙ ap (λ (b : ℕ). arm.digits.now ++ b ∷ []) arm.field-0-0-test) in
    none_spelled c.percent_of.result c.args.word.now arm.digits.now split c.percent_of.ensures.none
