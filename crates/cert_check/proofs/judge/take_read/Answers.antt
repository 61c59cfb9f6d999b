use Rattle.std.proofs.Common.{refl, sym}
use Rattle.bound_cert.specs.Lines.{entry_of, line_text}
use Rattle.cert_check.specs.Histories.{whole_line}
use Rattle.cert_check.proofs.LineTaking.{as_line, takes_none, takes_said, no_place}
use Rattle.cert_check.proofs.judge.take_read.Goals as goal

pub returns-in-Some : goal.returns-in-Some
returns-in-Some c =
    let e = entry_of c.args.line.now in
    as_line c.args.table.now c.args.number c.args.kept.now c.take.new.self (whole_line e) _ c.said.result c.said.ensures
    (takes_said c.args.table.now c.args.number c.args.kept.now c.take.new.self e c.in-Some.next c.take.result c.requires.lawful (sym c.in-Some.ensures) c.take.ensures)

pub returns-in-None : goal.returns-in-None
returns-in-None c =
    let e = entry_of c.args.line.now in
    as_line c.args.table.now c.args.number c.args.kept.now c.args.kept.now (whole_line e) _ c.no_line.result c.no_line.ensures
    (takes_none c.args.table.now c.args.number c.args.kept.now c.args.kept.now (whole_line e) (no_place (line_text e) c.args.kept.now.place e c.requires.lawful refl (sym c.in-None.ensures)))
