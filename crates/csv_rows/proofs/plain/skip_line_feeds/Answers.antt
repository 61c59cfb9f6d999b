use Rattle.std.proofs.Common.{◌∙◌, ◌≡◌, ◌<◌, Some, arith, ap, drop, length, sym}
use Rattle.std.proofs.lemmas.Bool.{eqb-false}
use Rattle.std.proofs.lemmas.List.{take_rest}
use Rattle.csv.specs.declared.parser.State.TheVariants.{StartRecord}
use Rattle.csv_rows.specs.Left.{rows_from}
use Rattle.csv_rows.proofs.PlainRows.{begins_with, feed_passed}
use Rattle.csv_rows.proofs.plain.skip_line_feeds.Goals as goal

pub feeds-preserved : goal.feeds-preserved
feeds-preserved c =
    let rest = c.feeds.rest.now in
    let filled : length rest ≡ 0 → ⊥ = eqb-false (length rest) 0 (sym c.feeds-test.ensures) in
    let some : 0 < length rest = omega arith in
    rw take_rest (sym (ap (λ xs. rows_from StartRecord (Some xs)) (begins_with rest 10 some c.if-rest-eq10.true) ∙ feed_passed (drop 1 rest)) ∙ c.feeds.invariant)
