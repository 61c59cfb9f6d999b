use Rattle.std.proofs.Common.{◌≡◌, ℕ, List, ◌+◌, ◌-◌, ◌≤◌, length, take, drop, sym, subst, arith, rules}
use Rattle.std.proofs.lemmas.List.{length-take, length-drop, take_all, take-append-drop}
use Rattle.seed_io.specs.Lines.{Whole}
use Rattle.cert_check.specs.Texts.{FirstLine}
use Rattle.seed_io.proofs.LineLaws.{no_lf}
use Rattle.cert_check.proofs.Texts.{first_at, first_wide, first_unended}
use Rattle.cert_check.proofs.documents.first_line.Goals as goal

pub returns-in-Some-clause-some : goal.returns-in-Some-clause-some
returns-in-Some-clause-some c =
    let text = c.args.text.now in
    let n = c.in-Some.length in
    let e = c.in-Some.ensures in
    let all : take (length text - (n + 1)) (drop (n + 1) text) ≡ drop (n + 1) text = take_all (length text - (n + 1)) (drop (n + 1) text) (omega (arith, length-drop (n + 1) text)) in
    subst (λ (r : List ℕ). FirstLine text (Whole (take n text)) r) (sym all) (first_at text c.min.result n (omega (arith, c.min.ensures)) e.0.high e.1 e.0.before)

pub returns-in-None-clause-some : goal.returns-in-None-clause-some
returns-in-None-clause-some c =
    let text = c.args.text.now in
    first_wide (take c.min.result text) (drop c.min.result text) text text (sym (take-append-drop c.min.result text)) (no_lf (take c.min.result text) c.in-None.ensures) c.if-front-gt-LONGEST_LINE.true

pub returns-in-None-2-clause-some : goal.returns-in-None-2-clause-some
returns-in-None-2-clause-some c =
    let text = c.args.text.now in
    let none = no_lf (take c.min.result text) c.in-None-2.ensures in
    let short : length (take c.min.result text) ≤ 16384 = c.if-front-gt-LONGEST_LINE.false in
    let all : take c.min.result text ≡ text = take_all c.min.result text (omega (arith, c.min.ensures, short, length-take c.min.result text)) in
    first_unended text text (search rules) (rw all at none) (omega (arith, c.min.ensures, short, length-take c.min.result text))
