use Rattle.csv_rows.specs.Plain.{IsPlainFront}
use Rattle.csv_rows.proofs.plain.plain_bytes.Given as goal

abbrev pub invariant-loop-place : goal.invariant-loop-place
invariant-loop-place l = IsPlainFront l.text l.place
