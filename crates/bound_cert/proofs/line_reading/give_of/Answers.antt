use Rattle.std.proofs.Common.{arith}
use Rattle.bound_cert.proofs.LineTexts.{behind}
use Rattle.bound_cert.proofs.line_reading.give_of.Goals as goal

pub returns-in_err-file-clause-none : goal.returns-in_err-file-clause-none
returns-in_err-file-clause-none c = rw c.from_residual-in_err-file.ensures (λ k f a b h e.
    let e1 = behind c.in_ok-class.ensures.some.1 e in
    c.in_err-file.ensures.none f _ (omega (arith, h.1)) e1)

pub returns-in_err-charge-clause-none : goal.returns-in_err-charge-clause-none
returns-in_err-charge-clause-none c = rw c.from_residual-in_err-charge.ensures (λ k f a b h e.
    let e1 = behind c.in_ok-class.ensures.some.1 e in
    let e2 = behind c.in_ok-file.ensures.some.1 e1 in
    c.in_err-charge.ensures.none a _ (omega (arith, h.2)) e2)

pub returns-in_err-reward-clause-none : goal.returns-in_err-reward-clause-none
returns-in_err-reward-clause-none c = rw c.from_residual-in_err-reward.ensures (λ k f a b h e.
    let e1 = behind c.in_ok-class.ensures.some.1 e in
    let e2 = behind c.in_ok-file.ensures.some.1 e1 in
    let e3 = behind c.in_ok-charge.ensures.some.1 e2 in
    c.in_err-reward.ensures.none b _ (omega (arith, h.3)) e3)

pub returns-then-reward-eq0-clause-none : goal.returns-then-reward-eq0-clause-none
returns-then-reward-eq0-clause-none c = λ k f a b h e.
    let e1 = behind c.in_ok-class.ensures.some.1 e in
    let e2 = behind c.in_ok-file.ensures.some.1 e1 in
    let e3 = behind c.in_ok-charge.ensures.some.1 e2 in
    let z = c.in_ok-charge.ensures.only a _ (omega (arith, h.2)) e2 in
    let y = c.in_ok-reward.ensures.only b _ (omega (arith, h.3)) e3 in
    omega arith
