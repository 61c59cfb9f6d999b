use Rattle.std.proofs.Common.{arith}
use Rattle.bound_cert.proofs.LineTexts.{behind}
use Rattle.bound_cert.proofs.line_reading.leaf_of.Goals as goal

pub returns-in_err-q-clause-none : goal.returns-in_err-q-clause-none
returns-in_err-q-clause-none c = rw c.from_residual-in_err-q.ensures (λ p q k h e.
    let e1 = behind c.in_ok-p.ensures.some.1 e in
    c.in_err-q.ensures.none q _ h.2 e1)

pub returns-in_err-gives-clause-none : goal.returns-in_err-gives-clause-none
returns-in_err-gives-clause-none c = rw c.from_residual-in_err-gives.ensures (λ p q k h e.
    let e1 = behind c.in_ok-p.ensures.some.1 e in
    let e2 = behind c.in_ok-q.ensures.some.1 e1 in
    c.in_err-gives.ensures.none k _ h.3 e2)

pub returns-then-q-eq0-clause-none : goal.returns-then-q-eq0-clause-none
returns-then-q-eq0-clause-none c = λ p q k h e.
    let e1 = behind c.in_ok-p.ensures.some.1 e in
    let z = c.in_ok-q.ensures.only q _ h.2 e1 in
    omega arith
