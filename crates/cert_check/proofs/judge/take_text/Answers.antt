use Rattle.std.proofs.Common.{ℕ, List, sym, subst}
use Rattle.seed_io.specs.Lines.{Whole}
use Rattle.cert_check.specs.Judging.{TakesLine}
use Rattle.cert_check.proofs.LineTaking.{as_line, takes_none, no_text}
use Rattle.cert_check.proofs.judge.take_text.Goals as goal

pub returns-in-Some : goal.returns-in-Some
returns-in-Some c =
    subst (λ (text : List ℕ). TakesLine c.args.table.now c.args.number c.args.kept.now c.take_read.new.kept (Whole text) c.take_read.result) (sym c.in-Some.ensures.found.1) c.take_read.ensures

pub returns-in-None : goal.returns-in-None
returns-in-None c =
    as_line c.args.table.now c.args.number c.args.kept.now c.args.kept.now (Whole c.args.text.now) _ c.no_line.result c.no_line.ensures
    (takes_none c.args.table.now c.args.number c.args.kept.now c.args.kept.now (Whole c.args.text.now) (no_text c.args.text.now c.args.kept.now.place c.in-None.ensures.none))
