use Rattle.csv_rows.proofs.Next.{few_text}
use Rattle.csv_rows.proofs.reader.RowReader.new.Goals as goal

pub returns-clause-few : goal.returns-clause-few
returns-clause-few c = few_text c.args.text.now
