-- What one call for the next line does to a count over all lines.
use Rattle.std.proofs.Common.{◌≡◌, ◌∙◌, ◌+◌, ◌≤◌, ℕ, Bool, true, List, ◌++◌, Option, Some, None, Result, Ok, subst, ap, sym, refl, arith}
use Rattle.std.specs.Prelude.{IfOk}
use Rattle.std.proofs.lemmas.List.Sums.{sum_by-cons}
use Rattle.moving_tests.specs.LineBytes.{size_of_line, bytes_of_lines}
use Rattle.seed_io.specs.Lines.{LineText, Whole, Wide, Unended, line_size, Reading, GivesLine, IsNextLine, NextLine, StandsIn, lines_left, listed}
use Rattle.seed_io.specs.Shelf.{Told}
use Rattle.seed_io.specs.declared.lines.LineError.{LineError}

-- an answer that is a line or none, and what a call that gave it did
pub gives : {tells : Bool} {map : Told} {old new : Reading} {answer : Result (Option LineText) LineError} (line : Option LineText) → answer ≡ Ok line → NextLine tells map old new answer → GivesLine old new line
gives {old = old} {new = new} line is next =
    let Gives : Result (Option LineText) LineError → Type 0 = λ a. IfOk a (GivesLine old new) in
    subst Gives is next.gives

pub gives_next : {tells : Bool} {map : Told} {old new : Reading} {answer : Result (Option LineText) LineError} (line : Option LineText) → answer ≡ Ok line → NextLine tells map old new answer
    → tells ≡ true → (file : List ℕ) → map old.name ≡ Some file → StandsIn file old → IsNextLine file old new line
gives_next {old = old} {new = new} line is next tells file there stands =
    let Gives : Result (Option LineText) LineError → Type 0 = λ a. IfOk a (IsNextLine file old new) in
    subst Gives is (next.told tells file there stands)

-- the bytes of a line that a call gave
abbrev pub size_given : Option LineText → ℕ
size_given None = 0
size_given (Some line) = size_of_line line

listed_first : (line : Option LineText) (rest : List LineText) → bytes_of_lines (listed line ++ rest) ≡ size_given line + bytes_of_lines rest
listed_first None rest = omega arith
listed_first (Some line) rest = sum_by-cons size_of_line line rest

-- the bytes counted so far, those of the line, and those of the lines behind it
pub counted : {file : List ℕ} {old new : Reading} (line : Option LineText) (total all : ℕ) → IsNextLine file old new line → total + bytes_of_lines (lines_left file old) ≡ all
    → total + (size_given line + bytes_of_lines (lines_left file new)) ≡ all
counted {file = file} {new = new} line total all next sum =
    let first = listed_first line (lines_left file new) in
    ap (λ (n : ℕ). total + n) (sym (ap bytes_of_lines next.lines ∙ first)) ∙ sum

-- a reading that ended has no lines left
pub none_left : (file : List ℕ) (r : Reading) → r.over ≡ true → bytes_of_lines (lines_left file r) ≡ 0
none_left file r over = rw over refl

-- a line takes its bytes at least
pub size_within : (line : LineText) → size_of_line line ≤ line_size (Some line)
size_within (Whole line) = omega arith
size_within Wide = omega arith
size_within Unended = omega arith
