use Rattle.std.proofs.Common.{sym, refl}
use Rattle.std.proofs.lemmas.Bool.{eqb-true}
use Rattle.std.proofs.lemmas.List.{nil_from_length}
use Rattle.csv_rows.proofs.PlainRows.{no_rows}
use Rattle.csv_rows.proofs.reader.RowReader.next_row.Goals as goal

pub returns-then-is_empty-clause-ok : goal.returns-then-is_empty-clause-ok
returns-then-is_empty-clause-ok c =
    let left = c.skip_line_feeds-left.result.now in
    let none = nil_from_length left (eqb-true _ 0 (sym c.if-is_empty.ensures)) in
    (rw (← c.self.view_is, c.if-self.false, c.in-Some.is, ← c.without_mark.ensures, ← c.skip_line_feeds-left.ensures.rows) (no_rows left none), refl)
