use Rattle.std.proofs.Common.{arith}
use Rattle.bound_cert.proofs.LineTexts.{behind}
use Rattle.bound_cert.proofs.line_reading.branch_of.Goals as goal

pub returns-in_err-first-clause-none : goal.returns-in_err-first-clause-none
returns-in_err-first-clause-none c = rw c.from_residual-in_err-first.ensures (λ f p q a b h e.
    let e1 = behind c.in_ok-file.ensures.some.1 e in
    c.in_err-first.ensures.none p _ h.1 e1)

pub returns-in_err-second-clause-none : goal.returns-in_err-second-clause-none
returns-in_err-second-clause-none c = rw c.from_residual-in_err-second.ensures (λ f p q a b h e.
    let e1 = behind c.in_ok-file.ensures.some.1 e in
    let e2 = behind c.in_ok-first.ensures.some.1 e1 in
    c.in_err-second.ensures.none q _ h.2 e2)

pub returns-in_err-alpha-clause-none : goal.returns-in_err-alpha-clause-none
returns-in_err-alpha-clause-none c = rw c.from_residual-in_err-alpha.ensures (λ f p q a b h e.
    let e1 = behind c.in_ok-file.ensures.some.1 e in
    let e2 = behind c.in_ok-first.ensures.some.1 e1 in
    let e3 = behind c.in_ok-second.ensures.some.1 e2 in
    c.in_err-alpha.ensures.none a _ (omega (arith, h.3)) e3)

pub returns-in_err-beta-clause-none : goal.returns-in_err-beta-clause-none
returns-in_err-beta-clause-none c = rw c.from_residual-in_err-beta.ensures (λ f p q a b h e.
    let e1 = behind c.in_ok-file.ensures.some.1 e in
    let e2 = behind c.in_ok-first.ensures.some.1 e1 in
    let e3 = behind c.in_ok-second.ensures.some.1 e2 in
    let e4 = behind c.in_ok-alpha.ensures.some.1 e3 in
    c.in_err-beta.ensures.none b _ (omega (arith, h.4)) e4)
