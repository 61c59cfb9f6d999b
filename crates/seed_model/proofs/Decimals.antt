-- How `decimal` spells numbers below 10 ^ 64.
use Rattle.std.proofs.Common.{◌≡◌, ◌∙◌, sym, ap, ℕ, zero, suc, ◌+◌, ◌-◌, ◌*◌, ◌/◌, ◌%◌, ◌^◌, ◌<◌, ◌≤◌, List, [], ◌∷◌, ◌++◌, true, length, take, drop, get_or, refl, inl, inr, arith, append_assoc, length-append}
use Rattle.std.specs.Fmt.{decimal}
use Rattle.std.specs.Char.{digit_value}
use Rattle.seed_model.specs.Numbers.{IsNumeral}
use Rattle.std.specs.Int.{IsInRange}
use Rattle.std.specs.Str.{all_ascii_digits}
use Rattle.std.specs.Str.Parse.{AllDigits, digits_value, digits_value_after}
use Rattle.std.proofs.lemmas.List.{append-nil, drop-set, drop_all, get_or_default, length-take-le}
use Rattle.std.proofs.Math.ListN.{set}
use Rattle.std.proofs.lemmas.Fmt.{decimal_digit, decimal_step_wide, decimal_by_steps_wide, decimal_is_IsNumeral_wide, length-decimal-le_wide}
use Rattle.std.proofs.lemmas.Str.{digit_value_digit}
use Rattle.std.proofs.lemmas.Str.Parse.{digit_at, digit_from_value, digits_value-take-le, IsNumeralModel, numerals_by_value, tells_all_ascii_digits}
use Rattle.std.proofs.lemmas.Int.Digits.{digits_value-lt, digits_value_more, digits_more}
use Rattle.std.proofs.Math.Nat.{pow-suc}
use Rattle.std.proofs.lemmas.Bool.{cases_lt}

-- more digits make no smaller number
value_after-ge : (n : ℕ) (ds : List ℕ) → n ≤ digits_value_after 10 n ds
value_after-ge n [] = omega arith
value_after-ge n (c ∷ cs) = omega (arith, value_after-ge (n * 10 + digit_value c) cs)

-- the digits of a number, then more digits, spell the number that they make together
spell_after : (n : ℕ) (ds : List ℕ) → 0 < n → AllDigits 10 ds → digits_value_after 10 n ds < 10 ^ 64 → decimal (digits_value_after 10 n ds) ≡ decimal n ++ ds
spell_after n [] some d small = sym (append-nil (decimal n))
spell_after n (c ∷ cs) some d small =
    let m : ℕ = n * 10 + digit_value c in
    let k = digit_value_digit c (digit_from_value c d.0) in
    let front : m / 10 ≡ n = omega (arith, d.0) in
    let end : 48 + m % 10 ≡ c = omega (arith, d.0) in
    spell_after m cs (omega arith) d.1 small
    ∙ ap (λ x. x ++ cs) (decimal_step_wide m (omega arith) (omega (arith, value_after-ge m cs)) ∙ (λ i. decimal (front i) ++ (end i ∷ [])))
    ∙ append_assoc (decimal n) (c ∷ []) cs

-- digits with no leading zero, or just `0`, are the spelling of the number that they make
pub spell_value : (ds : List ℕ) → AllDigits 10 ds → 0 < length ds → (get_or ds 0 0 ≡ 48 → length ds ≡ 1) → digits_value 10 ds < 10 ^ 64 → decimal (digits_value 10 ds) ≡ ds
spell_value [] d some lead small = absurd (omega arith)
spell_value (c ∷ []) d some lead small =
    let k = digit_value_digit c (digit_from_value c d.0) in
    decimal_digit (0 * 10 + digit_value c) (omega (arith, d.0)) ∙ ap (λ x. x ∷ []) (omega arith)
spell_value (c ∷ e ∷ cs) d some lead small =
    let k = digit_value_digit c (digit_from_value c d.0) in
    let no : c ≡ 48 → ⊥ = λ z. omega (arith, lead z) in
    let is : 48 + (0 * 10 + digit_value c) ≡ c = omega arith in
    spell_after (0 * 10 + digit_value c) (e ∷ cs) (omega arith) d.1 small
    ∙ ap (λ x. x ++ (e ∷ cs)) (decimal_digit (0 * 10 + digit_value c) (omega (arith, d.0)) ∙ ap (λ x. x ∷ []) is)

-- no two numbers are spelled alike
pub spelled_apart : (m n : ℕ) → m < 10 ^ 64 → n < 10 ^ 64 → decimal m ≡ decimal n → m ≡ n
spelled_apart m n p q e = sym (decimal_is_IsNumeral_wide m p).1 ∙ ap (digits_value 10) e ∙ (decimal_is_IsNumeral_wide n q).1

-- a text has a first byte above `0`, or is one digit
pub record BeginsAsNumber (n : ℕ) (ds : List ℕ) : Type 0 where
  pub some : 0 < length ds
  pub lead : 0 < n → 48 < get_or ds 0 0
  pub zero : n ≡ 0 → length ds ≡ 1

first_append : (ds es : List ℕ) → 0 < length ds → get_or (ds ++ es) 0 0 ≡ get_or ds 0 0
first_append [] es h = absurd (omega arith)
first_append (d ∷ ds) es h = refl

-- the spelling of a number begins so
pub begun : (n : ℕ) → n < 10 ^ 64 → BeginsAsNumber n (decimal n)
begun = decimal_by_steps_wide BeginsAsNumber
    (λ n small. record { some = omega arith; lead = λ h. omega arith; zero = λ h. refl })
    (λ n ds big h. record {
      some = omega (arith, length-append ds ((48 + n % 10) ∷ []), h.some);
      lead = λ _. rw (first_append ds ((48 + n % 10) ∷ []) h.some) (h.lead (omega arith));
      zero = λ z. absurd (omega arith);
    })

-- digits as a test
pub by_test : IsNumeralModel (λ ds. all_ascii_digits ds ≡ true) (digits_value 10)
by_test = numerals_by_value _ tells_all_ascii_digits

-- the number so far, one digit on
pub value_next : (ds : List ℕ) (i n : ℕ) → i < length ds → IsInRange 48 57 (get_or ds i 0) → n ≡ digits_value 10 (take i ds)
    → n * 10 + (get_or ds i 0 - 48) ≡ digits_value 10 (take (i + 1) ds)
value_next ds i n h r e =
    let k = digit_value_digit (get_or ds i 0) r in
    let m = digits_value_more 10 ds i h in
    omega (arith, k, m, e, r.0)

-- the digits so far, one digit on
pub digits_next : (ds : List ℕ) (i : ℕ) → i < length ds → IsInRange 48 57 (get_or ds i 0) → AllDigits 10 (take i ds) → AllDigits 10 (take (i + 1) ds)
digits_next ds i h r d =
    let k = digit_value_digit (get_or ds i 0) r in
    digits_more 10 ds i h d (omega (arith, k, r.1))

-- a number that passes the bound with some of the digits passes it with all
pub too_great : (ds : List ℕ) (i n : ℕ) → i < length ds → n ≡ digits_value 10 (take i ds) → ¬ (n * 10 < 2 ^ 128) → 2 ^ 128 ≤ digits_value 10 ds
too_great ds i n h e over =
    let more = digits_value_more 10 ds i h in
    let all = digits_value-take-le 10 ds (i + 1) (omega arith) in
    omega (arith, more, all, e, over)

pub too_great_next : (ds : List ℕ) (i n : ℕ) → i < length ds → IsInRange 48 57 (get_or ds i 0) → n ≡ digits_value 10 (take i ds)
    → ¬ (n * 10 + (get_or ds i 0 - 48) < 2 ^ 128) → 2 ^ 128 ≤ digits_value 10 ds
too_great_next ds i n h r e over =
    let next = value_next ds i n h r e in
    let all = digits_value-take-le 10 ds (i + 1) (omega arith) in
    omega (arith, next, all, over)

-- what is left to write of a number, and what is shown of it
pub record IsShown (n rest : ℕ) (shown : List ℕ) : Type 0 where
  pub more : 0 < rest → decimal n ≡ decimal rest ++ shown
  pub done : rest ≡ 0 → decimal n ≡ shown

-- the first step
pub shown_first : (n : ℕ) → n < 10 ^ 64 → IsShown n (n / 10) ((48 + n % 10) ∷ [])
shown_first n small = record {
  more = λ h. decimal_step_wide n (omega arith) small;
  done = λ h. let same : n % 10 ≡ n = omega arith in rw same (decimal_digit n (omega arith));
}

-- a further step
pub shown_next : (n rest : ℕ) (shown : List ℕ) → rest < 10 ^ 64 → 0 < rest → IsShown n rest shown → IsShown n (rest / 10) ((48 + rest % 10) ∷ shown)
shown_next n rest shown small some s =
    let first = shown_first rest small in
    record {
      more = λ h. s.more some ∙ ap (λ x. x ++ shown) (first.more h) ∙ append_assoc (decimal (rest / 10)) ((48 + rest % 10) ∷ []) shown;
      done = λ h. s.more some ∙ ap (λ x. x ++ shown) (first.done h);
    }

-- room for the digits of what is left
pub room_next : (start rest : ℕ) → 0 < rest → rest < 10 ^ start → (0 < start) × (rest / 10 < 10 ^ (start - 1))
room_next zero rest some room = absurd (omega arith)
room_next (suc k) rest some room =
    let p = pow-suc 10 k in
    let less : suc k - 1 ≡ k = omega arith in
    (omega arith, rw less (omega (arith, p, room)))

-- a first byte `0` is that of zero
not_first : (n : ℕ) (ds : List ℕ) → BeginsAsNumber n ds → get_or ds 0 0 ≡ 48 → n ≡ 0
not_first zero ds l z = refl
not_first (suc k) ds l z = absurd (omega (arith, l.lead (omega arith), z))

-- ten to a greater power is no less
pow_ten : (i j : ℕ) → 10 ^ i ≤ 10 ^ (i + j)
pow_ten i zero = let same : i + zero ≡ i = omega arith in rw same (omega arith)
pow_ten i (suc j) =
    let next : i + suc j ≡ suc (i + j) = omega arith in
    rw (next, pow-suc 10 (i + j)) (omega (arith, pow_ten i j))

-- the spelling of a number is a numeral
pub is_numeral : (text : List ℕ) (n : ℕ) → n < 10 ^ 64 → text ≡ decimal n → IsNumeral text × (length text ≤ 64)
is_numeral text n small e =
    let k = decimal_is_IsNumeral_wide n small in
    let l = begun n small in
    let numeral : IsNumeral (decimal n) = record {
      some = k.0.0;
      digits = by_test.from (decimal n) k.0.1;
      leading = λ z. l.zero (not_first n (decimal n) l z);
    } in
    rw e (numeral, length-decimal-le_wide 64 n (omega arith) small small)

-- a numeral is the spelling of its number
pub spelled_by : (text : List ℕ) → IsNumeral text → length text ≤ 64 → (n : ℕ) × (n < 10 ^ 64) × (text ≡ decimal n)
spelled_by text h short =
    let d = by_test.to text h.digits in
    let below = digits_value-lt 10 text d in
    let small : digits_value 10 text < 10 ^ 64 =
    let sum : length text + (64 - length text) ≡ 64 = omega arith in
    omega (arith, below, rw sum at (pow_ten (length text) (64 - length text))) in
    (digits_value 10 text, small, sym (spell_value text d h.some h.leading small))

-- a text that is no numeral of a number below 10 ^ 64 spells none
pub spells_none_unless_begun : (text : List ℕ) → ¬ ((0 < length text) × (get_or text 0 0 ≡ 48 → length text ≡ 1)) → (n : ℕ) → n < 10 ^ 64 → ¬ (text ≡ decimal n)
spells_none_unless_begun text unled n small e = let h = is_numeral text n small e in unled (h.0.some, h.0.leading)

-- a text that spells a number is digits with that value
pub value_of_spelling : (text : List ℕ) (n : ℕ) → n < 10 ^ 64 → text ≡ decimal n → AllDigits 10 text × (digits_value 10 text ≡ n)
value_of_spelling text n small e = let k = decimal_is_IsNumeral_wide n small in rw e (k.0.1, k.1)

-- the digit of a step stands in front of those before
pub shown_at : (n rest start : ℕ) (digits : List ℕ) → rest < 10 ^ 64 → 0 < rest → 0 < start → start ≤ length digits
    → IsShown n rest (drop start digits) → IsShown n (rest / 10) (drop (start - 1) (set digits (start - 1) (48 + rest % 10)))
shown_at n rest start digits small some above within s =
    let at : start - 1 < length digits = omega arith in
    let same : start - 1 + 1 ≡ start = omega arith in
    rw (drop-set digits (start - 1) (48 + rest % 10) at, same) (shown_next n rest (drop start digits) small some s)

-- the first digit stands last
pub shown_end : (n : ℕ) (digits : List ℕ) → n < 10 ^ 64 → length digits ≡ 39 → IsShown n (n / 10) (drop 38 (set digits 38 (48 + n % 10)))
shown_end n digits small long =
    let at : 38 < length digits = omega arith in
    let ends = drop_all 39 digits (omega arith) in
    rw (drop-set digits 38 (48 + n % 10) at, ends) (shown_first n small)

-- a text spells only numbers past a limit, if so of those below 10 ^ 64
pub spells_past : (text : List ℕ) (limit : ℕ) → limit < 2 ^ 128 → ((n : ℕ) → n < 10 ^ 64 → text ≡ decimal n → limit < n) → (n : ℕ) → text ≡ decimal n → limit < n
spells_past text limit low below n e = elim (cases_lt n (10 ^ 64)) [
  | inl small ↦ below n small e
  | inr big ↦ omega arith
]

-- the bytes of a number's text are digits, and so above a space
pub above_spaces : (n k d : ℕ) → n < 10 ^ 64 → k < length (decimal n) → 32 < get_or (decimal n) k d
above_spaces n k d small lt =
    let digit = digit_at (decimal n) k (decimal_is_IsNumeral_wide n small).0.1 lt in
    rw (get_or_default (decimal n) k d 0 lt) (above (get_or (decimal n) k 0) digit)
  where
    above : (byte : ℕ) → IsInRange 48 57 byte → 32 < byte
    above byte digit = grind (arith, digit)

-- one digit more than a few is below 2 ^ 64
pub few_next : (ds : List ℕ) (i n : ℕ) → i < length ds → length ds ≤ 19 → AllDigits 10 (take i ds) → n ≡ digits_value 10 (take i ds) → n * 10 + 9 < 2 ^ 64
few_next ds i n h few d e =
    let below = digits_value-lt 10 (take i ds) d in
    let long = length-take-le i ds (omega arith) in
    let sum : i + (18 - i) ≡ 18 = omega arith in
    let power = rw sum at (pow_ten i (18 - i)) in
    omega (arith, rw long at below, power, e)
