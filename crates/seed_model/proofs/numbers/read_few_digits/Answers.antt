use Rattle.std.proofs.Common.{arith, get_or}
use Rattle.std.specs.Int.{IsInRange}
use Rattle.std.proofs.lemmas.Str.Parse.{digit_at}
use Rattle.seed_model.proofs.Decimals.{value_next, digits_next, few_next}
use Rattle.seed_model.proofs.numbers.read_few_digits.Goals as goal

pub returns-then-not-is_ascii_digit-clause-none : goal.returns-then-not-is_ascii_digit-clause-none
returns-then-not-is_ascii_digit-clause-none c = λ d.
    let r = digit_at c.args.text.now c.loop-byte.byte-index d c.loop-byte-test.true in
    absurd (omega (arith, r, c.if-not-is_ascii_digit.ensures.cases))

pub loop-byte-preserved : goal.loop-byte-preserved
loop-byte-preserved c =
    let r : IsInRange 48 57 (get_or c.args.text.now c.loop-byte.byte-index 0) = c.if-not-is_ascii_digit.ensures.cases in
    let next = value_next c.args.text.now c.loop-byte.byte-index c.loop-byte.number c.loop-byte-test.true r c.loop-byte.invariant.value in
    record {
      digits = digits_next c.args.text.now c.loop-byte.byte-index c.loop-byte-test.true r c.loop-byte.invariant.digits;
      value = omega (arith, next);
    }

pub overflow_mul-number : goal.overflow_mul-number
overflow_mul-number c =
    let below = few_next c.args.text.now c.loop-byte.byte-index c.loop-byte.number c.loop-byte-test.true c.requires c.loop-byte.invariant.digits c.loop-byte.invariant.value in
    omega (arith, below)

pub overflow_add-number : goal.overflow_add-number
overflow_add-number c =
    let r : IsInRange 48 57 (get_or c.args.text.now c.loop-byte.byte-index 0) = c.if-not-is_ascii_digit.ensures.cases in
    let below = few_next c.args.text.now c.loop-byte.byte-index c.loop-byte.number c.loop-byte-test.true c.requires c.loop-byte.invariant.digits c.loop-byte.invariant.value in
    omega (arith, below, r.1)
