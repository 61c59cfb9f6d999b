use Rattle.std.proofs.Common.{◌∙◌, arith, sym}
use Rattle.std.proofs.lemmas.List.{take_rest}
use Rattle.csv_rows.proofs.PlainRows.{marked, unmarked}
use Rattle.csv_rows.proofs.plain.without_mark.Goals.{else-text-ge3-via-then-text-ge3+then-text+then-text-2+else-text-3, else-text-ge3-via-then-text-ge3+then-text+else-text-2, else-text-ge3-via-then-text-ge3+else-text, else-text-ge3-via-else-text-ge3}
use Rattle.csv_rows.proofs.plain.without_mark.Goals as goal

pub returns-then-text-3 : goal.returns-then-text-3
returns-then-text-3 c = take_rest c.args.text.now 3 ∙ sym (marked c.args.text.now (omega arith) c.if-text.true c.if-text-2.true c.if-text-3.true)

pub returns : goal.returns
returns c = elim c.else-text-ge3.branch [
  | else-text-ge3-via-then-text-ge3+then-text+then-text-2+else-text-3 w ↦ sym (unmarked c.args.text.now (λ long x y z. omega (arith, w.if-text-3.false)))
  | else-text-ge3-via-then-text-ge3+then-text+else-text-2 w ↦ sym (unmarked c.args.text.now (λ long x y z. omega (arith, w.if-text-2.false)))
  | else-text-ge3-via-then-text-ge3+else-text w ↦ sym (unmarked c.args.text.now (λ long x y z. omega (arith, w.if-text.false)))
  | else-text-ge3-via-else-text-ge3 w ↦ sym (unmarked c.args.text.now (λ long x y z. omega (arith, w.if-text-ge3.false)))
]
