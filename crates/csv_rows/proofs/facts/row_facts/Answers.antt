use Rattle.std.proofs.Common.{refl}
use Rattle.csv.proofs.OnLiterals.{csv_on_literals}
use Rattle.csv_rows.proofs.facts.row_facts.Goals as goal

pub returns-clause-nothing : goal.returns-clause-nothing
unfolding csv_on_literals
returns-clause-nothing c = refl

pub returns-clause-empty_lines : goal.returns-clause-empty_lines
unfolding csv_on_literals
returns-clause-empty_lines c = refl

pub returns-clause-no_last_lf : goal.returns-clause-no_last_lf
unfolding csv_on_literals
returns-clause-no_last_lf c = refl

pub returns-clause-lone_cr : goal.returns-clause-lone_cr
unfolding csv_on_literals
returns-clause-lone_cr c = refl

pub returns-clause-comma_line : goal.returns-clause-comma_line
unfolding csv_on_literals
returns-clause-comma_line c = refl

pub returns-clause-blank_line : goal.returns-clause-blank_line
unfolding csv_on_literals
returns-clause-blank_line c = refl

pub returns-clause-two_quotes : goal.returns-clause-two_quotes
unfolding csv_on_literals
returns-clause-two_quotes c = refl

pub returns-clause-open_quote : goal.returns-clause-open_quote
unfolding csv_on_literals
returns-clause-open_quote c = refl

pub returns-clause-quote_inside : goal.returns-clause-quote_inside
unfolding csv_on_literals
returns-clause-quote_inside c = refl

pub returns-clause-after_quote : goal.returns-clause-after_quote
unfolding csv_on_literals
returns-clause-after_quote c = refl

pub returns-clause-mark : goal.returns-clause-mark
unfolding csv_on_literals
returns-clause-mark c = refl

pub returns-clause-flexible : goal.returns-clause-flexible
unfolding csv_on_literals
returns-clause-flexible c = refl

pub returns-clause-any_byte : goal.returns-clause-any_byte
unfolding csv_on_literals
returns-clause-any_byte c = refl
