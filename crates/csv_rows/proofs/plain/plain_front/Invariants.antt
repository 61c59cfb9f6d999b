use Rattle.std.proofs.Common.{◌≤◌, ◌-◌, length}
use Rattle.csv_rows.specs.Plain.{IsPlainFront}
use Rattle.csv_rows.proofs.plain.plain_front.Given as goal

abbrev pub invariant-eights : goal.invariant-eights
invariant-eights l = record {
  within : l.place ≤ length l.text;
  plain : IsPlainFront l.text l.place;
}

abbrev pub decreases-eights : goal.decreases-eights
decreases-eights l = length l.text - l.place
