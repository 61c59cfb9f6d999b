use Rattle.std.proofs.Common.{◌≡◌, ◌∙◌, ◌*◌, ◌<◌, ℕ, length, get_or, refl, sym, ap, inl, inr, arith}
use Rattle.std.proofs.lemmas.Bool.{cases_lt}
use Rattle.seed_text.specs.SetDigits.{digit_of, hex_digit}
use Rattle.seed_text.specs.SetTexts.{byte_count}
use Rattle.seed_text.proofs.SetDigitLemmas.{digit_same, digit_small, digit_there, from_digits, length_there, one_digit, refused, taken}
use Rattle.seed_text.proofs.read.fill_set.Goals as goal

pub returns-then-text-digits-clause-text : goal.returns-then-text-digits-clause-text
returns-then-text-digits-clause-text c = refused c.args.text.now (length c.args.set.now) (λ s len e.
    let some : 0 < length c.args.set.now = omega arith in
    c.if-text-digits.true (omega (arith, length_there c.args.text.now s (length c.args.set.now) some len e)))

pub loop-place-init : goal.loop-place-init
loop-place-init c = record { stays = refl; told = λ k lt. absurd (omega arith) }

pub returns-in_default-clause-text : goal.returns-in_default-clause-text
returns-in_default-clause-text c = refused c.args.text.now (length c.args.set.now) (λ s len e.
    let some : 0 < length c.args.set.now = omega arith in
    let place : c.loop-place.place < 2 * byte_count (length c.args.set.now) = omega arith in
    c.in_default.ensures.none (digit_of s c.loop-place.place) (digit_small s c.loop-place.place) (digit_there c.args.text.now s (length c.args.set.now) c.loop-place.place some len e place))

pub returns-in_default-clause-stays : goal.returns-in_default-clause-stays
returns-in_default-clause-stays c = c.loop-place.invariant.stays

pub returns-then-not-put_digit-clause-text : goal.returns-then-not-put_digit-clause-text
returns-then-not-put_digit-clause-text c = refused c.args.text.now (length c.args.set.now) (λ s len e.
    let some : 0 < length c.args.set.now = omega arith in
    let place : c.loop-place.place < 2 * byte_count (length c.args.set.now) = omega arith in
    let there = digit_there c.args.text.now s (length c.args.set.now) c.loop-place.place some len e place in
    let found = c.in-Some.ensures.found in
    let same = one_digit c.in-Some.value (digit_of s c.loop-place.place) found.0 (digit_small s c.loop-place.place) (sym found.1 ∙ there) in
    c.if-not-put_digit.ensures.other refl s (len ∙ sym c.loop-place.invariant.stays) (sym same))

pub returns-then-not-put_digit-clause-stays : goal.returns-then-not-put_digit-clause-stays
returns-then-not-put_digit-clause-stays c = c.put_digit.ensures.stays ∙ c.loop-place.invariant.stays

pub loop-place-preserved : goal.loop-place-preserved
loop-place-preserved c = record {
  stays = c.put_digit.ensures.stays ∙ c.loop-place.invariant.stays;
  told = λ k lt. elim (cases_lt k c.loop-place.place) [
    | inl before ↦
        c.loop-place.invariant.told k before
        ∙ ap hex_digit (sym (digit_same c.put_digit.new.set c.loop-place.set k (λ file low. c.put_digit.ensures.before file (omega (arith, low, before)))))
    | inr after ↦
        let at : k ≡ c.loop-place.place = omega arith in
        let put = c.if-not-put_digit.ensures.told refl in
        ap (λ (j : ℕ). get_or c.args.text.now j 0) at ∙ (c.in-Some.ensures.found.1 ∙ ap hex_digit (sym put ∙ ap (digit_of c.put_digit.new.set) (sym at)))
  ];
}

pub returns-clause-text : goal.returns-clause-text
returns-clause-text c =
    let stays = c.loop-place.invariant.stays in
    taken c.args.text.now (length c.args.set.now) c.loop-place.set stays
    (from_digits c.args.text.now c.loop-place.set (omega arith) (omega arith) (λ j lt. c.loop-place.invariant.told j (omega arith)))

pub returns-clause-set : goal.returns-clause-set
returns-clause-set c = λ t. from_digits c.args.text.now c.loop-place.set (omega (arith, c.loop-place.invariant.stays)) (omega (arith, c.loop-place.invariant.stays)) (λ j lt. c.loop-place.invariant.told j (omega arith))

pub returns-clause-stays : goal.returns-clause-stays
returns-clause-stays c = c.loop-place.invariant.stays
