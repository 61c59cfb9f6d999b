use Rattle.std.proofs.Common.{◌∙◌, inl}
use Rattle.csv.specs.Records.{fields_of}
use Rattle.csv_rows.proofs.Next.{first_row, no_row}
use Rattle.csv_rows.proofs.reader.read_row.Goals as goal

pub returns-in-Ok-clause-row : goal.returns-in-Ok-clause-row
returns-in-Ok-clause-row c = λ found.
    let b = c.requires in
    let got = c.in-Ok.ensures.reads b.trim b.ready in
    (first_row c.args.reader.now c.read_byte_record.new.self (fields_of c.read_byte_record.new.row) b (rw found at got)).0

pub returns-in-Ok-clause-none : goal.returns-in-Ok-clause-none
returns-in-Ok-clause-none c = λ none.
    let b = c.requires in
    let got = c.in-Ok.ensures.reads b.trim b.ready in
    no_row c.args.reader.now c.read_byte_record.new.self (fields_of c.read_byte_record.new.row) b (rw none at got)

pub returns-in-Ok-clause-between : goal.returns-in-Ok-clause-between
returns-in-Ok-clause-between c = λ found.
    let b = c.requires in
    let got = c.in-Ok.ensures.reads b.trim b.ready in
    let first = first_row c.args.reader.now c.read_byte_record.new.self (fields_of c.read_byte_record.new.row) b (rw found at got) in
    record {
      trim = got.3 ∙ b.trim;
      ready = inl (c.in-Ok.ensures.ready b.trim);
      config = got.2 ∙ b.config;
      between = first.1;
      flexible = c.in-Ok.ensures.flexible ∙ b.flexible;
      works = c.in-Ok.ensures.goes ∙ b.works;
    }
