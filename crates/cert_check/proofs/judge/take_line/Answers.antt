use Rattle.seed_io.specs.Lines.{Wide, Unended}
use Rattle.cert_check.proofs.LineTaking.{as_line, takes_none}
use Rattle.cert_check.proofs.judge.take_line.Goals as goal

pub returns-in-Wide : goal.returns-in-Wide
returns-in-Wide c = rw c.in-Wide.is
    (as_line c.args.table.now c.args.number c.args.kept.now c.args.kept.now Wide _ c.no_line.result c.no_line.ensures
    (takes_none c.args.table.now c.args.number c.args.kept.now c.args.kept.now Wide (λ e l may is. cc)))

pub returns-in-Unended : goal.returns-in-Unended
returns-in-Unended c = rw c.in-Unended.is
    (as_line c.args.table.now c.args.number c.args.kept.now c.args.kept.now Unended _ c.no_line-in-Unended.result c.no_line-in-Unended.ensures
    (takes_none c.args.table.now c.args.number c.args.kept.now c.args.kept.now Unended (λ e l may is. cc)))
