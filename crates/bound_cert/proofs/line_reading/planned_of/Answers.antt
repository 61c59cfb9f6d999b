use Rattle.std.proofs.Common.{arith}
use Rattle.bound_cert.proofs.LineTexts.{behind}
use Rattle.bound_cert.proofs.line_reading.planned_of.Goals as goal

pub returns-in_err-set-clause-none : goal.returns-in_err-set-clause-none
returns-in_err-set-clause-none c = rw c.from_residual.ensures (λ s m r h e. c.in_err-set.ensures.none s _ h.0 e)

pub returns-in_err-replicated-clause-none : goal.returns-in_err-replicated-clause-none
returns-in_err-replicated-clause-none c = rw c.from_residual-in_err-replicated.ensures (λ s m r h e.
    let e1 = behind c.in_ok-set.ensures.some.1 e in
    let e2 = behind c.in_ok-migrated.ensures.some.1 e1 in
    c.in_err-replicated.ensures.none r _ (omega (arith, h.2)) e2)
