use Rattle.std.proofs.Common.{◌≡◌, [], length}
use Rattle.csv.specs.Records.{fields_of, partial_of}
use Rattle.csv_rows.proofs.PlainRows.{IsAt}
use Rattle.csv_rows.proofs.plain.take_fields.Given as goal

abbrev pub invariant-fields : goal.invariant-fields
invariant-fields l = record {
  partial : partial_of l.row ≡ [];
  at : IsAt l.text (fields_of l.row) l.left;
}

abbrev pub decreases-fields : goal.decreases-fields
decreases-fields l = length l.left
