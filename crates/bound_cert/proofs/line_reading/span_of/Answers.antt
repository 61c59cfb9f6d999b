use Rattle.std.proofs.Common.{arith}
use Rattle.bound_cert.proofs.LineTexts.{behind}
use Rattle.bound_cert.proofs.line_reading.span_of.Goals as goal

pub returns-in_err-high-clause-none : goal.returns-in_err-high-clause-none
returns-in_err-high-clause-none c = rw c.from_residual-in_err-high.ensures (λ a b h e.
    let e1 = behind c.in_ok-low.ensures.some.1 e in
    c.in_err-high.ensures.none b _ (omega (arith, h.1)) e1)

pub returns-then-low-high-clause-none : goal.returns-then-low-high-clause-none
returns-then-low-high-clause-none c = λ a b h e.
    let e1 = behind c.in_ok-low.ensures.some.1 e in
    let y = c.in_ok-low.ensures.only a _ (omega (arith, h.0, h.1)) e in
    let z = c.in_ok-high.ensures.only b _ (omega (arith, h.1)) e1 in
    omega (arith, h.0)
