-- A text judged line by line.
use Rattle.std.proofs.Common.{◌≡◌, ◌≢◌, ℕ, ◌+◌, ◌*◌, ◌<◌, ◌≤◌, ◌++◌, List, [], ◌∷◌, length, take, drop, Bool, true, false, Some, map, refl, sym, ◌∙◌, ap, subst, arith, append_assoc, cond, get_or, get_or-take}
use Rattle.std.specs.Prelude.{nat_lt}
use Rattle.std.proofs.lemmas.Bool.Decides.{nat_tests}
use Rattle.std.proofs.lemmas.List.{append-nil, length-take, length-drop}
use Rattle.seed_model.specs.Tables.{TableValue}
use Rattle.seed_io.specs.Lines.{LineText, Whole, Wide, Unended, lines_of, line_size, is_last, HasNoLf, longest_line, is_lf}
use Rattle.seed_io.proofs.LineLaws.{no_lf, whole_first, wide_first, end_first}
use Rattle.bound_cert.proofs.FirstLines.{cut_at_lf}
use Rattle.bound_cert.specs.Laws.{LinesTellDocuments}
use Rattle.bound_cert.specs.Lines.{Entry, Title, Span, Pinned, Answered, Planned, NoPlan, Bounded, NoBound, Branch, Low, High, Leaf, Give, End, line_text}
use Rattle.bound_cert.specs.declared.heading.Answer.{Answer}
use Rattle.bound_cert.specs.declared.heading.Answer.TheVariants.{Optimal, Infeasible, Open}
use Rattle.cert_check.specs.declared.judged.Judged.{Judged}
use Rattle.cert_check.specs.declared.judged.Judged.TheVariants.{More, Failed, Valid}
use Rattle.cert_check.specs.declared.kept.Kept.{Kept}
use Rattle.cert_check.specs.Checking.{IsVerdict}
use Rattle.cert_check.specs.Histories.{whole_line, BeginsWith}
use Rattle.cert_check.specs.Judging.{JudgeValue, Going, Stands, StandsFor, given_by}
use Rattle.cert_check.specs.Texts.{FirstLine}
use Rattle.cert_check.proofs.Shown.{passed_shows}

-- no judgement on the lines taken has failed, and this is left of the text
pub record InText (table : TableValue) (text : List ℕ) (judge : JudgeValue) (rest : List ℕ) : Type 0 where
  pub before : List LineText
  pub table_is : judge.table ≡ table
  pub goes : judge.judged ≡ More
  pub stands : StandsFor judge before false
  pub lines_are : lines_of text ≡ before ++ lines_of rest
  pub few : 2 * judge.lines + length rest ≤ length text

-- a line has a byte
answer_some : (a : Answer) → 1 ≤ length (line_text (Answered a))
answer_some Optimal = omega arith
answer_some Infeasible = omega arith
answer_some Open = omega arith

line_some : (e : Entry) → 1 ≤ length (line_text e)
line_some (Title v) = omega arith
line_some (Span a b) = omega arith
line_some (Pinned g s) = omega arith
line_some (Answered a) = omega arith
line_some (Planned x m r) = omega arith
line_some NoPlan = omega arith
line_some (Bounded z) = omega arith
line_some NoBound = omega arith
line_some (Branch f x y a b) = omega arith
line_some Low = omega arith
line_some High = omega arith
line_some (Leaf x y k) = omega arith
line_some (Give c f a b) = omega arith
line_some End = omega arith

-- the last of lines that told something is whole
last_line : (before : List LineText) (entries : List Entry) (line : LineText) → before ++ line ∷ [] ≡ map whole_line entries → (e : Entry) × (line ≡ whole_line e)
last_line [] [] line e = absurd (let x : line ∷ [] ≡ [] = e in cc)
last_line [] (d ∷ entries) line e = (d, let x : line ∷ [] ≡ whole_line d ∷ map whole_line entries = e in cc)
last_line (l ∷ before) [] line e = absurd (let x : l ∷ (before ++ line ∷ []) ≡ [] = e in cc)
last_line (l ∷ before) (d ∷ entries) line e = last_line before entries line (let x : l ∷ (before ++ line ∷ []) ≡ whole_line d ∷ map whole_line entries = e in cc)

going : (judge : JudgeValue) (lines : List LineText) (ended : Bool) → judge.judged ≡ More → StandsFor judge lines ended → Going judge.table judge.kept judge.lines lines ended
going judge lines ended is s = subst (λ (j : Judged). Stands j judge.table judge.kept judge.lines lines ended) is s

-- one line more
pub goes_on : (table : TableValue) (text : List ℕ) (old new : JudgeValue) (rest behind : List ℕ) (line : LineText) (w : InText table text old rest) → FirstLine rest line behind
    → new.table ≡ old.table → new.lines ≤ old.lines + 1 → StandsFor new (w.before ++ line ∷ []) false → new.judged ≡ More → InText table text new behind
goes_on table text old new rest behind line w first table_is lines s more =
    let g = going new (w.before ++ line ∷ []) false more s in
    let last = last_line w.before g.is_told.entries line g.is_told.lines_are in
    let whole : is_last (Some line) ≡ false = ap (λ (l : LineText). is_last (Some l)) last.1 in
    let size : line_size (Some line) ≡ length (line_text last.0) + 1 = ap (λ (l : LineText). line_size (Some l)) last.1 in
    let some : 1 ≤ length (line_text last.0) = line_some last.0 in
    let left : line ∷ (cond (is_last (Some line)) [] (lines_of behind)) ≡ line ∷ lines_of behind = ap (λ (b : Bool). line ∷ (cond b [] (lines_of behind))) whole in
    record {
      before = w.before ++ line ∷ [];
      table_is = table_is ∙ w.table_is;
      goes = more;
      stands = s;
      lines_are = w.lines_are ∙ (ap (λ ls. w.before ++ ls) (first.lines_are ∙ left) ∙ sym (append_assoc w.before (line ∷ []) (lines_of behind)));
      few = let f = w.few in let z = first.size whole in omega (arith, f, z, size, some, lines);
    }

-- a line is taken off what is left
pub shorter : (table : TableValue) (text : List ℕ) (old new : JudgeValue) (rest behind : List ℕ) (line : LineText) (w : InText table text old rest) → FirstLine rest line behind → StandsFor new (w.before ++ line ∷ []) false → new.judged ≡ More
    → length behind < length rest
shorter table text old new rest behind line w first s more =
    let g = going new (w.before ++ line ∷ []) false more s in
    let last = last_line w.before g.is_told.entries line g.is_told.lines_are in
    let size : line_size (Some line) ≡ length (line_text last.0) + 1 = ap (λ (l : LineText). line_size (Some l)) last.1 in
    let z = first.size (ap (λ (l : LineText). is_last (Some l)) last.1) in
    omega (arith, z, size)

-- the verdict of a judge that has come to one
verdict_by : (table : TableValue) (kept : Kept) (count : ℕ) (text : List ℕ) (lines : List LineText) (ended : Bool) (judged : Judged) → LinesTellDocuments → judged ≢ More → Stands judged table kept count lines ended → BeginsWith ended lines text
    → IsVerdict table text (given_by judged kept).verdict
verdict_by table kept count text lines ended More law over s b = absurd (over refl)
verdict_by table kept count text lines ended (Failed line rule) law over s b = let f = s text b in f.failure
verdict_by table kept count text lines ended Valid law over s b =
    let all : lines_of text ≡ lines = b.lines_are ∙ (ap (λ m. lines ++ m) (b.none s.whole) ∙ append-nil lines) in
    let d = passed_shows table kept lines ended text law s all in
    record { heading = d.heading; nodes = d.nodes; document = d.document; text_is = d.text_is; valid = d.valid }

-- before the first line
pub begins : (table : TableValue) (text : List ℕ) (judge : JudgeValue) → judge.table ≡ table → judge.judged ≡ More → judge.lines ≡ 0 → StandsFor judge [] false → InText table text judge text
begins table text judge table_is more none s = record { before = []; table_is = table_is; goes = more; stands = s; lines_are = refl; few = omega (arith, none) }

-- behind a line
pub verdict_line : (table : TableValue) (text : List ℕ) (old new : JudgeValue) (rest behind : List ℕ) (line : LineText) (w : InText table text old rest) → LinesTellDocuments → FirstLine rest line behind
    → new.table ≡ old.table → StandsFor new (w.before ++ line ∷ []) false → new.judged ≢ More → IsVerdict table text (given_by new.judged new.kept).verdict
verdict_line table text old new rest behind line w law first table_is s over =
    let begins : BeginsWith false (w.before ++ line ∷ []) text = record {
      more = cond (is_last (Some line)) [] (lines_of behind);
      lines_are = w.lines_are ∙ (ap (λ ls. w.before ++ ls) first.lines_are ∙ sym (append_assoc w.before (line ∷ []) (cond (is_last (Some line)) [] (lines_of behind))));
      none = λ e. absurd (let x : false ≡ true = e in cc);
    } in
    subst (λ (t : TableValue). IsVerdict t text (given_by new.judged new.kept).verdict) (table_is ∙ w.table_is)
    (verdict_by new.table new.kept new.lines text (w.before ++ line ∷ []) false new.judged law over s begins)

none_of_none : lines_of [] ≡ []
none_of_none = end_first [] (λ k d within. absurd (omega (arith, within))) (omega arith)

-- behind the end
pub end_over : (table : TableValue) (text : List ℕ) (old new : JudgeValue) (rest : List ℕ) (w : InText table text old rest) → StandsFor new (w.before ++ []) true → new.judged ≢ More
end_over table text old new rest w s more = let g = going new (w.before ++ []) true more s in let x : true ≡ false = g.unended in cc

pub verdict_end : (table : TableValue) (text : List ℕ) (old new : JudgeValue) (rest : List ℕ) (w : InText table text old rest) → LinesTellDocuments → rest ≡ []
    → new.table ≡ old.table → StandsFor new (w.before ++ []) true → IsVerdict table text (given_by new.judged new.kept).verdict
verdict_end table text old new rest w law empty table_is s =
    let begins : BeginsWith true (w.before ++ []) text = record {
      more = [];
      lines_are = w.lines_are ∙ (ap (λ ls. w.before ++ ls) (ap lines_of empty ∙ none_of_none) ∙ sym (append-nil (w.before ++ [])));
      none = λ e. refl;
    } in
    subst (λ (t : TableValue). IsVerdict t text (given_by new.judged new.kept).verdict) (table_is ∙ w.table_is)
    (verdict_by new.table new.kept new.lines text (w.before ++ []) true new.judged law (end_over table text old new rest w s) s begins)

-- the first line of a text that has an LF soon enough
pub first_whole_line : (text : List ℕ) (n : ℕ) → text ≡ take n text ++ 10 ∷ drop (n + 1) text → n < length text → n ≤ longest_line → HasNoLf (take n text) → FirstLine text (Whole (take n text)) (drop (n + 1) text)
first_whole_line text n split within fits none = record {
  lines_are = ap lines_of split ∙ whole_first (take n text) (drop (n + 1) text) none (omega (arith, length-take n text, fits));
  size = λ _. omega (arith, length-take n text, length-drop (n + 1) text, within);
}

-- the first LF of a text's front is that of the text
pub first_at : (text : List ℕ) (most n : ℕ) → most ≤ 16385 → n < length (take most text) → is_lf (get_or (take most text) n 0) ≡ true
    → ((k : ℕ) → 0 ≤ k → k < n → is_lf (get_or (take most text) k 0) ≡ true → ⊥) → FirstLine text (Whole (take n text)) (drop (n + 1) text)
first_at text most n few within here none =
    let size = length-take most text in
    let before : n < most = omega (arith, within, size) in
    let inside : n < length text = omega (arith, within, size) in
    let at : is_lf (get_or text n 0) ≡ true = ap is_lf (sym (get_or-take most text n 0 before)) ∙ here in
    let front : length (take n text) ≡ n = omega (arith, length-take n text, inside) in
    let free : HasNoLf (take n text) = no_lf (take n text) (λ k low high lf.
    let less : k < n = omega (arith, high, front) in
    none k low less (ap is_lf (get_or-take most text k 0 (omega (arith, less, before)) ∙ sym (get_or-take n text k 0 less)) ∙ lf)) in
    first_whole_line text n (cut_at_lf text n inside at) inside (omega (arith, before, few)) free

pub first_wide : (front more text behind : List ℕ) → text ≡ front ++ more → HasNoLf front → longest_line < length front → FirstLine text Wide behind
first_wide front more text behind is none long = record {
  lines_are = ap lines_of is ∙ wide_first front more none long;
  size = λ e. absurd (let x : true ≡ false = e in cc);
}

pub first_unended : (text behind : List ℕ) → 0 < length text → HasNoLf text → length text ≤ longest_line → FirstLine text Unended behind
first_unended text behind some none fits = record {
  lines_are = end_first text none fits ∙ (let more : nat_lt 0 (length text) ≡ true = grind (arith, nat_tests) in ap (λ (c : Bool). cond c (Unended ∷ []) []) more);
  size = λ e. absurd (let x : true ≡ false = e in cc);
}
