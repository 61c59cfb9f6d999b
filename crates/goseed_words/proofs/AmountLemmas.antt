-- The digits of a number do not end with a percent sign.
use Rattle.std.proofs.Common.{◌≡◌, ◌≢◌, ◌∙◌, ◌+◌, ◌%◌, ◌^◌, ◌<◌, ◌≤◌, ◌∷◌, ◌++◌, [], ℕ, List, refl, sym, arith}
use Rattle.std.specs.Prelude.{Option, Some, None, IfNone}
use Rattle.std.specs.Fmt.{decimal}
use Rattle.std.proofs.lemmas.Fmt.{decimal_by_steps_wide}
use Rattle.std.proofs.lemmas.List.{same_from_push}
use Rattle.goseed_words.specs.declared.amount.Amount.{Amount}
use Rattle.goseed_words.specs.declared.amount.Amount.TheVariants.{Bytes, Percent}
use Rattle.goseed_words.specs.Amounts.{SpellsAmount, IsAmount}

-- a last byte that is a digit
record EndsInDigit (text : List ℕ) : Type 0 where
  front : List ℕ
  last : ℕ
  split : text ≡ front ++ last ∷ []
  digit : 48 ≤ last

ends_in_digit : (n : ℕ) → n < 10 ^ 64 → EndsInDigit (decimal n)
ends_in_digit n small =
    decimal_by_steps_wide (λ n ds. EndsInDigit ds) (λ n one. record { front = []; last = 48 + n; split = refl; digit = omega arith })
    (λ n ds more h. record { front = ds; last = 48 + n % 10; split = refl; digit = omega arith }) n small

pub no_percent : (n last : ℕ) (front : List ℕ) → n < 10 ^ 64 → decimal n ≡ front ++ last ∷ [] → last ≢ 37
no_percent n last front small e = λ is.
    let d = ends_in_digit n small in
    let same = same_from_push d.front front d.last last (sym d.split ∙ e) in
    omega (arith, d.digit, same.1, is)

-- digits that spell no percents, and a percent sign
spells_none : (word digits : List ℕ) → word ≡ digits ++ 37 ∷ [] → ((k : ℕ) → digits ≡ decimal k → 100 < k) → (amount : Amount) → ¬ SpellsAmount word amount
spells_none word digits e none (Bytes n) = λ s. no_percent n 37 digits (omega (arith, s.1)) (sym s.0 ∙ e) refl
spells_none word digits e none (Percent k) = λ s.
    let same = same_from_push digits (decimal k) 37 37 (sym e ∙ s.0) in
    omega (arith, none k same.0, s.1)

pub none_spelled : (found : Option Amount) (word digits : List ℕ) → word ≡ digits ++ 37 ∷ [] → IfNone found ((k : ℕ) → digits ≡ decimal k → 100 < k)
    → IfNone found ((amount : Amount) → ¬ SpellsAmount word amount)
none_spelled None word digits e none = spells_none word digits e none
none_spelled (Some amount) word digits e none = none

pub spelled_lawful : (word : List ℕ) (amount : Amount) → SpellsAmount word amount → IsAmount amount
spelled_lawful word (Bytes n) spelled = spelled.1
spelled_lawful word (Percent k) spelled = spelled.1
