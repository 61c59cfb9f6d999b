use Rattle.csv_rows.proofs.Mark.{field_keeps}
use Rattle.csv_rows.proofs.Written.{read-rows_text}
use Rattle.csv_rows.proofs.facts.round_trip.Goals as goal

pub returns-clause-reads_back : goal.returns-clause-reads_back
returns-clause-reads_back c = read-rows_text

pub returns-clause-unmarked : goal.returns-clause-unmarked
returns-clause-unmarked c = field_keeps
