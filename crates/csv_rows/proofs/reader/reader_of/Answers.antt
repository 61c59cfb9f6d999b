use Rattle.std.proofs.Common.{refl}
use Rattle.csv_rows.proofs.reader.reader_of.Goals as goal

pub returns-clause-rows : goal.returns-clause-rows
returns-clause-rows c =
    let made = c.from_reader.ensures in
    rw (made.state, made.source) refl
