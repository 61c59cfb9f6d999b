use Rattle.std.proofs.Common.{arith}
use Rattle.bound_cert.proofs.LineTexts.{decimal_apart}
use Rattle.bound_cert.proofs.words.next_number.Goals as goal

pub returns-clause-only : goal.returns-clause-only
returns-clause-only c = λ n ws h e.
    decimal_apart n c.in_ok-number.number (omega arith) (omega (arith, c.in_ok-number.ensures.found)) (cc (c.in_ok-word.ensures.some, c.in_ok-number.ensures.found.0, e))
