use Rattle.std.proofs.Common.{◌≡◌, ◌∙◌, ◌+◌, ℕ, List, ◌++◌, true, false, length, take, drop, ap, refl, arith}
use Rattle.std.specs.Prelude.{nat_lt}
use Rattle.std.proofs.lemmas.Bool.Decides.{nat_tests}
use Rattle.std.proofs.lemmas.List.{append-nil}
use Rattle.seed_io.specs.Ahead.{Ahead}
use Rattle.seed_io.specs.Lines.{Reading, lines_of}
use Rattle.seed_io.proofs.LineLaws.{whole_next, wide_next, end_first}
use Rattle.seed_io.proofs.lines.Lines.settle.Goals as goal
use Rattle.seed_io.proofs.lines.Lines.settle.Goals.{then-is_empty, else-is_empty}

pub returns-in-Whole-clause-lines : goal.returns-in-Whole-clause-lines
returns-in-Whole-clause-lines c = λ more none.
    let shows = rw c.in-Whole.is at c.requires.shows in
    let going : c.self.inside.is_over ≡ false = ap (λ (r : Reading). r.over) c.self.view_is ∙ c.requires.goes_on in
    let held : c.self.inside.ahead.held ≡ c.args.self.now.held = ap (λ (r : Reading). r.held) c.self.view_is in
    let given = ap (λ (a : Ahead). a.given) c.give.ensures ∙ ap (λ (l : List ℕ). take (c.in-Whole.length + 1) l) held in
    let left = ap (λ (a : Ahead). a.held) c.give.ensures ∙ ap (λ (l : List ℕ). drop (c.in-Whole.length + 1) l) held in
    rw going (whole_next c.args.self.now.held more c.give.new.self.given c.give.new.self.held c.in-Whole.length shows.0 shows.1 shows.2 shows.3 given left)

pub returns-in-Wide-clause-lines : goal.returns-in-Wide-clause-lines
returns-in-Wide-clause-lines c = λ more none.
    let shows = rw c.in-Wide.is at c.requires.shows in
    wide_next c.args.self.now.held more shows.0 shows.1

pub returns-after-is_empty-clause-lines : goal.returns-after-is_empty-clause-lines
returns-after-is_empty-clause-lines c = λ more none.
    let shows = rw c.in-Open.is at c.requires.shows in
    let text = ap (λ (l : List ℕ). c.args.self.now.held ++ l) (none c.in-Open.is) ∙ append-nil c.args.self.now.held in
    let ends = ap lines_of text ∙ end_first c.args.self.now.held shows.1 shows.0 in
    let held : c.held.result.now ≡ c.args.self.now.held = c.held.ensures ∙ ap (λ (r : Reading). r.held) c.self.view_is in
    elim c.if-is_empty.branch [
      | then-is_empty w ↦ let none : nat_lt 0 (length c.args.self.now.held) ≡ false = grind (arith, nat_tests, held, w.if-is_empty.ensures) in rw w.result-is (ends ∙ rw none refl)
      | else-is_empty w ↦ let some : nat_lt 0 (length c.args.self.now.held) ≡ true = grind (arith, nat_tests, held, w.if-is_empty.ensures) in rw w.result-is (ends ∙ rw some refl)
    ]
