use Rattle.std.proofs.Common.{◌≡◌, Some, length}
use Rattle.csv.specs.declared.parser.State.TheVariants.{StartRecord}
use Rattle.csv_rows.specs.Left.{rows_from}
use Rattle.csv_rows.proofs.plain.skip_line_feeds.Given as goal

abbrev pub invariant-feeds : goal.invariant-feeds
invariant-feeds l = rows_from StartRecord (Some l.rest) ≡ rows_from StartRecord (Some l.text)

abbrev pub decreases-feeds : goal.decreases-feeds
decreases-feeds l = length l.rest
