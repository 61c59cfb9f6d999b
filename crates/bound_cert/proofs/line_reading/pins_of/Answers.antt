use Rattle.bound_cert.proofs.LineTexts.{behind}
use Rattle.bound_cert.proofs.line_reading.pins_of.Goals as goal

pub returns-in_err-go-clause-none : goal.returns-in_err-go-clause-none
returns-in_err-go-clause-none c = rw c.from_residual.ensures (λ g s h e. c.in_err-go.ensures.none g _ h.0 e)

pub returns-in_err-stay-clause-none : goal.returns-in_err-stay-clause-none
returns-in_err-stay-clause-none c = rw c.from_residual-in_err-stay.ensures (λ g s h e.
    let e1 = behind c.in_ok-go.ensures.some.1 e in
    c.in_err-stay.ensures.none s _ h.1 e1)
