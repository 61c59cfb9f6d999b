use Rattle.bound_cert.proofs.FirstLines.{no_lf_no_line, line_is_front}
use Rattle.bound_cert.proofs.line_list.first_line.Goals as goal

pub returns-in_err-place-clause-none : goal.returns-in_err-place-clause-none
returns-in_err-place-clause-none c = rw c.from_residual.ensures (λ e more h is. no_lf_no_line c.args.text.now e more c.in_err-place.ensures.none h is)

pub returns-in_err-line-clause-none : goal.returns-in_err-line-clause-none
returns-in_err-line-clause-none c = rw c.from_residual-in_err-line.ensures (λ e more h is.
    let at = c.in_ok-place.ensures.some in
    c.in_err-line.ensures.none e h (line_is_front c.args.text.now c.in_ok-place.place e more at.0 at.1 at.2 h is))
