use Rattle.std.proofs.Common.{arith, get_or}
use Rattle.std.specs.Int.{IsInRange}
use Rattle.std.proofs.lemmas.Str.Parse.{digit_at}
use Rattle.seed_model.proofs.Decimals.{value_next, digits_next, too_great, too_great_next}
use Rattle.seed_model.proofs.numbers.read_many_digits.Goals as goal

pub returns-then-not-is_ascii_digit-clause-none : goal.returns-then-not-is_ascii_digit-clause-none
returns-then-not-is_ascii_digit-clause-none c = λ d.
    let r = digit_at c.args.text.now c.loop-byte.byte-index d c.loop-byte-test.true in
    absurd (omega (arith, r, c.if-not-is_ascii_digit.ensures.cases))

pub returns-in_default-clause-none : goal.returns-in_default-clause-none
returns-in_default-clause-none c = λ d.
    too_great c.args.text.now c.loop-byte.byte-index c.loop-byte.number c.loop-byte-test.true c.loop-byte.invariant.value c.in_default.ensures

pub returns-in_default-checked_add-clause-none : goal.returns-in_default-checked_add-clause-none
returns-in_default-checked_add-clause-none c = λ d.
    let r = digit_at c.args.text.now c.loop-byte.byte-index d c.loop-byte-test.true in
    too_great_next c.args.text.now c.loop-byte.byte-index c.loop-byte.number c.loop-byte-test.true r c.loop-byte.invariant.value
    (λ h. c.in_default-checked_add.ensures (omega (arith, c.in-Some.ensures, h)))

pub loop-byte-preserved : goal.loop-byte-preserved
loop-byte-preserved c =
    let r : IsInRange 48 57 (get_or c.args.text.now c.loop-byte.byte-index 0) = c.if-not-is_ascii_digit.ensures.cases in
    let next = value_next c.args.text.now c.loop-byte.byte-index c.loop-byte.number c.loop-byte-test.true r c.loop-byte.invariant.value in
    record {
      digits = digits_next c.args.text.now c.loop-byte.byte-index c.loop-byte-test.true r c.loop-byte.invariant.digits;
      value = omega (arith, next, c.in-Some.ensures, c.in-Some-checked_add.ensures);
    }
