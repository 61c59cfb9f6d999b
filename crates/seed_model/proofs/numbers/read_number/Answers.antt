use Rattle.std.proofs.Common.{arith, refl, sym}
use Rattle.seed_model.proofs.Decimals.{spells_past, spell_value, value_of_spelling, spells_none_unless_begun}
use Rattle.seed_model.proofs.numbers.read_number.Goals as goal

pub returns-then-not-begins_as_number-clause-none : goal.returns-then-not-begins_as_number-clause-none
returns-then-not-begins_as_number-clause-none c = spells_past c.args.text.now c.args.limit (omega arith)
    (λ n small e. absurd (spells_none_unless_begun c.args.text.now (λ h. let no = c.if-not-begins_as_number.ensures.1 h in cc) n small e))

pub returns-in_default-clause-none : goal.returns-in_default-clause-none
returns-in_default-clause-none c = spells_past c.args.text.now c.args.limit (omega arith)
    (λ n small e. let v = value_of_spelling c.args.text.now n small e in
    let big = c.in_default.ensures.none v.0 in omega (arith, v.1, big))

pub returns-then-number-limit-clause-none : goal.returns-then-number-limit-clause-none
returns-then-number-limit-clause-none c = spells_past c.args.text.now c.args.limit (omega arith)
    (λ n small e. let v = value_of_spelling c.args.text.now n small e in omega (arith, v.1, c.in-Some.ensures.found.1))

pub returns-clause-found : goal.returns-clause-found
returns-clause-found c =
    let begun = c.if-not-begins_as_number.ensures.0 refl in
    let read = c.in-Some.ensures.found in
    let spelled = spell_value c.args.text.now read.0 begun.0 begun.1 (omega (arith, read.1)) in
    (sym (rw (← read.1) at spelled), omega arith)

pub returns-clause-only : goal.returns-clause-only
returns-clause-only c = λ other small e. let v = value_of_spelling c.args.text.now other (omega (arith, small)) e in omega (arith, v.1, c.in-Some.ensures.found.1)
