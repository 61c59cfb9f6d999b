use Rattle.std.specs.Prelude.{map, true, if◌then◌else◌, Option, Some, None}
use Rattle.std.proofs.Common.{◌≡◌, ◌∙◌, ◌++◌, ap, sym, Bool, List, ℕ}
use Rattle.csv.specs.Writing.{default_writer, row_text}
use Rattle.csv.specs.declared.writer.WriterBuilder.{WriterBuilder}
use Rattle.csv_rows.specs.Written.{text_of, with_more}
use Rattle.csv_rows.proofs.Flexible.{row_text-flexible}
use Rattle.csv_rows.proofs.writer.RowWriter.row.Goals as goal

pub returns-clause-ok : goal.returns-clause-ok
returns-clause-ok c =
    let fresh = c.self.invariant c.if-self.false in
    let before = text_of c.self.inside.writer in
    let held : Some before ≡ c.args.self.now = ap (λ (given_up : Bool). if given_up then None else Some before) (sym c.if-self.false) ∙ c.self.view_is in
    let fields : List (List ℕ) = map (λ f. f.now) c.args.fields.now in
    let text = ap (λ (setup : WriterBuilder). row_text setup fields) fresh.setup ∙ row_text-flexible default_writer true fields in
    let written = c.in-Ok.ensures.bytes fresh.fields fresh.wrote (rw fresh.setup (λ e. cc e)) in
    let taken = written ∙ ap (λ (t : List ℕ). before ++ t) text in
    rw c.if-self.false (ap Some taken ∙ ap (λ (o : Option (List ℕ)). with_more o (row_text default_writer fields)) held)
