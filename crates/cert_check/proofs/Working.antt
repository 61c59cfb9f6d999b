-- A judge and a reader of lines at work.
use Rattle.std.proofs.Common.{◌≡◌, ◌≢◌, ◌⊎◌, ℕ, ◌+◌, ◌-◌, ◌^◌, ◌<◌, ◌≤◌, ◌++◌, List, [], ◌∷◌, length, drop, Bool, true, false, cond, take, Option, Some, None, Result, Ok, Err, map, refl, sym, ◌∙◌, ap, subst, arith, inl, inr, append_assoc, length-append, length-drop}
use Rattle.std.specs.Prelude.{IfOk, IsSome, is_none, All}
use Rattle.std.proofs.Math.Seq.{drop-append_seam, take-append_seam}
use Rattle.std.proofs.lemmas.List.Sums.{sum_by-cons}
use Rattle.std.proofs.lemmas.List.{append-nil, nil_from_length}
use Rattle.seed_model.specs.Tables.{TableValue, IsTable}
use Rattle.seed_io.specs.Lines.{LineText, Reading, GivesLine, IsNextLine, NextLine, IsFull, StandsIn, lines_of, lines_left, listed, line_size, is_last}
use Rattle.seed_io.specs.Shelf.{GaveMore, Told as ShelfTold}
use Rattle.seed_io.specs.declared.lines.LineError.{LineError}
use Rattle.seed_io.specs.declared.lines.LineError.TheVariants.{TooLong}
use Rattle.seed_io.specs.declared.lines.LineError.TheVariants as line_fails
use Rattle.bound_cert.specs.Judgements.{Told}
use Rattle.bound_cert.specs.Grammar.{text_of, is_lf}
use Rattle.bound_cert.specs.Laws.{LinesTellDocuments, ValidIsSo}
use Rattle.bound_cert.specs.Lines.{Entry, line_text}
use Rattle.bound_cert.specs.Within.{RunsOn}
use Rattle.fault_count.specs.Counts.{HandsOn}
use Rattle.cert_check.specs.declared.checking.CheckError.{CheckError}
use Rattle.cert_check.specs.declared.checking.CheckError.TheVariants as check_fails
use Rattle.cert_check.specs.declared.judged.Checked.{Checked}
use Rattle.cert_check.specs.declared.judged.Judged.{Judged}
use Rattle.cert_check.specs.declared.judged.Judged.TheVariants.{More, Failed, Valid}
use Rattle.cert_check.specs.declared.kept.Kept.{Kept}
use Rattle.cert_check.specs.Checking.{IsChecked, IsSound, check_error}
use Rattle.cert_check.specs.Histories.{whole_line, IsTold, BeginsWith}
use Rattle.cert_check.specs.Judging.{JudgeValue, Going, Stands, StandsFor, given_by, checked_by}
use Rattle.cert_check.proofs.Seen.{AreSeen, IsSeen, size_of, size_more, seen_more, fails_within}
use Rattle.cert_check.proofs.Shown.{passed_shows, passed_sound, none_sound}
use Rattle.cert_check.proofs.Taking.{behind_lines, no_lines}

-- the lines taken are the first of a text, in which the reader stands behind them
pub record InFile (text : List ℕ) (lines : Reading) (before : List LineText) : Type 0 where
  pub stands : StandsIn text lines
  pub lines_are : lines_of text ≡ before ++ lines_left text lines
  pub seen : AreSeen (2 ^ 47) text 0 before
  pub size : size_of before ≡ lines.place

-- no judgement on the lines taken has failed, and the reader goes on
pub record InWork (table : TableValue) (tells : Bool) (map : ShelfTold) (name : List ℕ) (judge : JudgeValue) (lines : Reading) : Type 0 where
  pub before : List LineText
  pub table_is : judge.table ≡ table
  pub goes : judge.judged ≡ More
  pub stands : StandsFor judge before false
  pub few : judge.lines ≤ lines.place
  pub name_is : lines.name ≡ name
  pub limit_is : lines.limit ≡ 2 ^ 47
  pub within : lines.place ≤ 2 ^ 47
  pub reads : lines.over ≡ false
  pub there : tells ≡ true → (lines.held ≡ []) ⊎ IsSome (map name)
  pub in_file : tells ≡ true → (text : List ℕ) → map name ≡ Some text → InFile text lines before

-- an answer that is a line or none, and what a call that gave it did
pub gives : {tells : Bool} {map : ShelfTold} {old new : Reading} {answer : Result (Option LineText) LineError} (line : Option LineText) → answer ≡ Ok line → NextLine tells map old new answer → GivesLine old new line
gives {old = old} {new = new} line is next =
    let Gives : Result (Option LineText) LineError → Type 0 = λ a. IfOk a (GivesLine old new) in
    subst Gives is next.gives

pub gives_next : {tells : Bool} {map : ShelfTold} {old new : Reading} {answer : Result (Option LineText) LineError} (line : Option LineText) → answer ≡ Ok line → NextLine tells map old new answer
    → tells ≡ true → (file : List ℕ) → map old.name ≡ Some file → StandsIn file old → IsNextLine file old new line
gives_next {old = old} {new = new} line is next tells file there stands =
    let Gives : Result (Option LineText) LineError → Type 0 = λ a. IfOk a (IsNextLine file old new) in
    subst Gives is (next.told tells file there stands)

-- behind a line that was given, or the end
pub record InFileBehind (text : List ℕ) (lines : Reading) (after : List LineText) (ended : Bool) : Type 0 where
  pub begins : BeginsWith ended after text
  pub stands : StandsIn text lines
  pub lines_are : lines_of text ≡ after ++ lines_left text lines
  pub seen : AreSeen (2 ^ 47) text 0 after
  pub size : size_of after ≡ lines.place
  pub ends : ended ≡ true → length text ≤ 2 ^ 47

nothing_left : (text : List ℕ) (r : Reading) → r.over ≡ true → lines_left text r ≡ []
nothing_left text r over = ap (λ b. cond b [] (lines_of (drop r.place text))) over

all_left : (text : List ℕ) (r : Reading) → r.over ≡ false → lines_left text r ≡ lines_of (drop r.place text)
all_left text r over = ap (λ b. cond b [] (lines_of (drop r.place text))) over

pub in_file_behind : (text : List ℕ) (old new : Reading) (before : List LineText) (line : Option LineText) → InFile text old before → old.over ≡ false → old.limit ≡ 2 ^ 47 → new.limit ≡ old.limit → GivesLine old new line → IsNextLine text old new line
    → InFileBehind text new (before ++ listed line) (is_none line)
in_file_behind text old new before (Some line) f reads limit_old limit_new g n =
    let at : size_of (before ++ line ∷ []) ≡ new.place = size_more before line ∙ (ap (λ p. p + line_size (Some line)) f.size ∙ sym g.place) in
    let all : lines_of text ≡ (before ++ line ∷ []) ++ lines_left text new = f.lines_are ∙ (ap (λ ls. before ++ ls) n.lines ∙ sym (append_assoc before (line ∷ []) (lines_left text new))) in
    let seen : IsSeen (2 ^ 47) text old.place line = record {
      within = let w = g.within in let p = g.place in omega (arith, w, p, limit_old, limit_new);
      ends = λ e. let w = n.ends e in omega (arith, w, limit_old, limit_new);
    } in
    record {
      begins = record { more = lines_left text new; lines_are = all; none = λ e. absurd (let x : false ≡ true = e in cc) };
      stands = n.stands;
      lines_are = all;
      seen = seen_more (2 ^ 47) text 0 old.place before line (let s = f.size in omega (arith, s)) f.seen seen;
      size = at;
      ends = λ e. absurd (let x : false ≡ true = e in cc);
    }
in_file_behind text old new before None f reads limit_old limit_new g n =
    let none : lines_left text new ≡ [] = nothing_left text new g.over in
    let all : lines_of text ≡ (before ++ []) ++ lines_left text new = f.lines_are ∙ (ap (λ ls. before ++ ls) n.lines ∙ sym (append_assoc before [] (lines_left text new))) in
    let same : before ++ [] ≡ before = append-nil before in
    let left : lines_of (drop old.place text) ≡ [] = sym (all_left text old reads) ∙ (n.lines ∙ none) in
    let empty : drop old.place text ≡ [] = no_lines (drop old.place text) left in
    let short : length text ≤ old.place = omega (arith, ap length empty, length-drop old.place text) in
    record {
      begins = record { more = lines_left text new; lines_are = all; none = λ e. none };
      stands = n.stands;
      lines_are = all;
      seen = subst (λ (ls : List LineText). AreSeen (2 ^ 47) text 0 ls) (sym same) f.seen;
      size = ap size_of same ∙ (f.size ∙ (let p = g.place in omega (arith, p)));
      ends = λ e. let w = g.within in let p = g.place in omega (arith, short, w, p, limit_old, limit_new);
    }

-- what a judge that has come to a verdict gives
pub verdict_checked : (table : TableValue) (kept : Kept) (count : ℕ) (text : List ℕ) (lines : Reading) (after : List LineText) (ended : Bool) (judged : Judged) → LinesTellDocuments → judged ≢ More → Stands judged table kept count after ended
    → InFileBehind text lines after ended → IsChecked table (2 ^ 47) text (given_by judged kept)
verdict_checked table kept count text lines after ended More law over s f = absurd (over refl)
verdict_checked table kept count text lines after ended (Failed line rule) law over s f = (fails_within table (2 ^ 47) text ended after line rule s f.begins f.seen f.ends, refl)
verdict_checked table kept count text lines after ended Valid law over s f =
    let all : lines_of text ≡ after = f.begins.lines_are ∙ (ap (λ m. after ++ m) (f.begins.none s.whole) ∙ append-nil after) in
    (f.ends s.whole, passed_shows table kept after ended text law s all)

pub verdict_sound : (table : TableValue) (kept : Kept) (count : ℕ) (after : List LineText) (ended : Bool) (judged : Judged) → LinesTellDocuments → ValidIsSo → IsTable table → judged ≢ More → Stands judged table kept count after ended → IsSound table (given_by judged kept)
verdict_sound table kept count after ended More law so is_table over s = absurd (over refl)
verdict_sound table kept count after ended (Failed line rule) law so is_table over s = none_sound table line rule
verdict_sound table kept count after ended Valid law so is_table over s = passed_sound table kept after ended law so is_table s

-- where no judgement has failed behind a line, the line is whole
last_whole : (before : List LineText) (entries : List Entry) (line : LineText) → before ++ line ∷ [] ≡ map whole_line entries → (e : Entry) × (line ≡ whole_line e)
last_whole [] [] line e = absurd (let x : line ∷ [] ≡ [] = e in cc)
last_whole [] (d ∷ entries) line e = (d, let x : line ∷ [] ≡ whole_line d ∷ map whole_line entries = e in cc)
last_whole (l ∷ before) [] line e = absurd (let x : l ∷ (before ++ line ∷ []) ≡ [] = e in cc)
last_whole (l ∷ before) (d ∷ entries) line e = last_whole before entries line (let x : l ∷ (before ++ line ∷ []) ≡ whole_line d ∷ map whole_line entries = e in cc)

pub record GoesOn (old new : Reading) (line : Option LineText) : Type 0 where
  pub reads : new.over ≡ false
  pub further : old.place + 1 ≤ new.place

went_on : (table : TableValue) (kept : Kept) (count : ℕ) (before : List LineText) (line : Option LineText) (old new : Reading) → Going table kept count (before ++ listed line) (is_none line) → GivesLine old new line → GoesOn old new line
went_on table kept count before None old new going g = absurd (let x : true ≡ false = going.unended in cc)
went_on table kept count before (Some line) old new going g =
    let w = last_whole before going.is_told.entries line going.is_told.lines_are in
    let size : line_size (Some line) ≡ length (line_text w.0) + 1 = ap (λ (l : LineText). line_size (Some l)) w.1 in
    record {
      reads = g.over ∙ ap (λ (l : LineText). is_last (Some l)) w.1;
      further = let p = g.place in omega (arith, p, size);
    }

going_of : (judged : Judged) (table : TableValue) (kept : Kept) (count : ℕ) (lines : List LineText) (ended : Bool) → judged ≡ More → Stands judged table kept count lines ended → Going table kept count lines ended
going_of judged table kept count lines ended is s = subst (λ (j : Judged). Stands j table kept count lines ended) is s

-- one turn more
pub works_on : (table : TableValue) (tells : Bool) (map : ShelfTold) (name : List ℕ) (judge next_judge : JudgeValue) (old new : Reading) (line : Option LineText) (w : InWork table tells map name judge old) → new.name ≡ old.name → new.limit ≡ old.limit
    → GivesLine old new line → (tells ≡ true → (text : List ℕ) → map name ≡ Some text → InFileBehind text new (w.before ++ listed line) (is_none line)) → (tells ≡ true → IsSome (map name))
    → next_judge.table ≡ judge.table → next_judge.lines ≤ judge.lines + 1 → StandsFor next_judge (w.before ++ listed line) (is_none line) → next_judge.judged ≡ More
    → InWork table tells map name next_judge new
works_on table tells map name judge next_judge old new line w name_is limit_is g f there table_is lines s more =
    let going = going_of next_judge.judged next_judge.table next_judge.kept next_judge.lines (w.before ++ listed line) (is_none line) more s in
    let on = went_on next_judge.table next_judge.kept next_judge.lines w.before line old new going g in
    record {
      before = w.before ++ listed line;
      table_is = table_is ∙ w.table_is;
      goes = more;
      stands = subst (λ b. StandsFor next_judge (w.before ++ listed line) b) going.unended s;
      few = let x = w.few in let y = on.further in omega (arith, x, y, lines);
      name_is = name_is ∙ w.name_is;
      limit_is = limit_is ∙ w.limit_is;
      within = let x = g.within in let y = w.limit_is in omega (arith, x, y, limit_is);
      reads = on.reads;
      there = λ t. inr (there t);
      in_file = λ t text at. let b = f t text at in record { stands = b.stands; lines_are = b.lines_are; seen = b.seen; size = b.size };
    }

size_lines : (entries : List Entry) → size_of (map whole_line entries) ≡ length (text_of entries)
size_lines [] = refl
size_lines (e ∷ entries) =
    let sum = sum_by-cons (λ (l : LineText). line_size (Some l)) (whole_line e) (map whole_line entries) in
    let more = size_lines entries in
    let first : length (text_of (e ∷ entries)) ≡ length (line_text e ++ 10 ∷ []) + length (text_of entries) = length-append (line_text e ++ 10 ∷ []) (text_of entries) in
    let one : length (line_text e ++ 10 ∷ []) ≡ length (line_text e) + 1 = length-append (line_text e) (10 ∷ []) in
    omega (arith, sum, more, first, one)

-- a text that runs on
runs : (table : TableValue) (text : List ℕ) (old new : Reading) (before : List LineText) (told : Told) → IsTold table before told → InFile text old before → old.limit ≡ 2 ^ 47 → new.limit ≡ old.limit → new.place ≡ old.place
    → IsFull new → StandsIn text new → 2 ^ 47 < length text → RunsOn table (2 ^ 47) text
runs table text old new before told t f limit_old limit_new place full stands long =
    let all : lines_of text ≡ map whole_line t.entries ++ lines_left text old = f.lines_are ∙ ap (λ ls. ls ++ lines_left text old) t.lines_are in
    let b = behind_lines t.entries text (lines_left text old) all in
    let n : ℕ = length (text_of t.entries) in
    let size : n ≡ new.place = sym (size_lines t.entries) ∙ (sym (ap size_of t.lines_are) ∙ (f.size ∙ sym place)) in
    let rest : b.rest ≡ new.held ++ stands.0 =
    sym (drop-append_seam (text_of t.entries) b.rest) ∙ (ap (drop n) (sym b.text_is) ∙ (ap (λ k. drop k text) size ∙ stands.1)) in
    let left : 2 ^ 47 - n ≡ length new.held = omega (arith, size, full.taken, limit_new, limit_old) in
    let seen : take (2 ^ 47 - n) b.rest ≡ new.held = ap (take (2 ^ 47 - n)) rest ∙ (ap (λ k. take k (new.held ++ stands.0)) left ∙ take-append_seam new.held stands.0) in
    record {
      front = t.entries;
      rest = b.rest;
      told = told;
      tells = t.tells;
      split = b.text_is;
      unseen = record {
        long = long;
        unended = subst (λ (xs : List ℕ). All (λ byte. is_lf byte ≡ false) xs) (sym seen) full.unended;
        narrow = omega (arith, size, full.taken, full.narrow, limit_new, limit_old);
      };
    }

pub runs_on : (table : TableValue) (tells : Bool) (map : ShelfTold) (name : List ℕ) (judge : JudgeValue) (old new : Reading) (error : LineError) (text : List ℕ) → InWork table tells map name judge old → NextLine tells map old new (Err error) → error ≡ TooLong
    → GaveMore tells map old.name old.limit → tells ≡ true → map name ≡ Some text → RunsOn table (2 ^ 47) text
runs_on table tells map name judge old new error text w next said gave t at =
    let going = going_of judge.judged judge.table judge.kept judge.lines w.before false w.goes w.stands in
    let f = w.in_file t text at in
    let here : map old.name ≡ Some text = ap map w.name_is ∙ at in
    let is : ◌≡◌ {A = Result (Option LineText) LineError} (Err error) (Err TooLong) = ap Err said in
    let same : gave.bytes ≡ text = (let e : Some gave.bytes ≡ Some text = sym (gave.told t) ∙ here in cc) in
    runs table text old new w.before going.told (subst (λ (x : TableValue). IsTold x w.before going.told) w.table_is going.is_told) f w.limit_is next.limit (next.same_place is) (next.full is) (next.stays t text here f.stands is)
    (let more = gave.more in let e = ap length same in let l = w.limit_is in omega (arith, more, e, l))

-- the text behind a line that was given, or its end
pub behind_now : (table : TableValue) (tells : Bool) (map : ShelfTold) (name : List ℕ) (judge : JudgeValue) (old new : Reading) (line : Option LineText) (w : InWork table tells map name judge old) → NextLine tells map old new (Ok line)
    → tells ≡ true → (text : List ℕ) → map name ≡ Some text → InFileBehind text new (w.before ++ listed line) (is_none line)
behind_now table tells map name judge old new line w next t text at =
    let f = w.in_file t text at in
    let here : map old.name ≡ Some text = ap map w.name_is ∙ at in
    in_file_behind text old new w.before line f w.reads w.limit_is next.limit next.gives (next.told t text here f.stands)

-- the name is there behind a call that gave a line, or the end
pub there_now : (table : TableValue) (tells : Bool) (map : ShelfTold) (name : List ℕ) (judge : JudgeValue) (old : Reading) → InWork table tells map name judge old → (tells ≡ true → old.held ≡ [] → old.over ≡ false → IsSome (map old.name))
    → tells ≡ true → IsSome (map name)
there_now table tells map name judge old w found t = elim (w.there t) [
  | inl e ↦ subst (λ (n : List ℕ). IsSome (map n)) w.name_is (found t e w.reads)
  | inr s ↦ s
]

-- where no line was taken, no judgement has failed
none_fails : (judged : Judged) (table : TableValue) (kept : Kept) (count : ℕ) → Stands judged table kept count [] false → judged ≡ More
none_fails More table kept count s = refl
none_fails (Failed line rule) table kept count s =
    let f = s [] (record { more = lines_of []; lines_are = refl; none = λ e. absurd (let x : false ≡ true = e in cc) }) in
    let none : f.more ≡ [] = nil_from_length f.more (omega (arith, ap length f.before, length-append (map whole_line f.failure.front) f.more)) in
    let x : false ≡ true = f.some none in
    cc
none_fails Valid table kept count s = let x : false ≡ true = s.whole in cc

-- a judge and a reader that begin
pub work_begins : (table : TableValue) (tells : Bool) (map : ShelfTold) (name : List ℕ) (judge : JudgeValue) (lines : Reading) → judge.table ≡ table → judge.lines ≡ 0 → StandsFor judge [] false
    → lines ≡ record { name = name; limit = 2 ^ 47; place = 0; held = []; last = []; over = false } → InWork table tells map name judge lines
work_begins table tells map name judge lines table_is none s is =
    let first : Reading = record { name = name; limit = 2 ^ 47; place = 0; held = []; last = []; over = false } in
    subst (λ (l : Reading). InWork table tells map name judge l) (sym is) (record {
      before = [];
      table_is = table_is;
      goes = none_fails judge.judged judge.table judge.kept judge.lines s;
      stands = s;
      few = omega (arith, none);
      name_is = refl;
      limit_is = refl;
      within = omega arith;
      reads = refl;
      there = λ t. inl refl;
      in_file = λ t text at. record { stands = (text, refl); lines_are = refl; seen = tt; size = refl };
    })

-- a call of the reader, told of the shelf as it was at first
pub called : (one two : Bool) (at on : ShelfTold) (old new : Reading) (answer other : Result (Option LineText) LineError) → one ≡ two → at ≡ on → answer ≡ other → NextLine one at old new answer → NextLine two on old new other
called one two at on old new answer other t m a n =
    subst (λ (x : Result (Option LineText) LineError). NextLine two on old new x) a (subst (λ (x : ShelfTold). NextLine two x old new answer) m (subst (λ (x : Bool). NextLine x at old new answer) t n))

pub gave_at : (one two : Bool) (at on : ShelfTold) (name other : List ℕ) (limit last : ℕ) → one ≡ two → at ≡ on → name ≡ other → limit ≡ last → GaveMore one at name limit → GaveMore two on other last
gave_at one two at on name other limit last t m n l g =
    subst (λ (x : ℕ). GaveMore two on other x) l (subst (λ (x : List ℕ). GaveMore two on x limit) n (subst (λ (x : ShelfTold). GaveMore two x name limit) m (subst (λ (x : Bool). GaveMore x at name limit) t g)))

pub too_long : (error : LineError) → check_error error ≡ check_fails.TooLong → error ≡ line_fails.TooLong
too_long line_fails.Fault e = absurd (let x : check_fails.Fault ≡ check_fails.TooLong = e in cc)
too_long line_fails.NotThere e = absurd (let x : check_fails.NotThere ≡ check_fails.TooLong = e in cc)
too_long line_fails.TooLong e = refl
too_long line_fails.Memory e = absurd (let x : check_fails.Memory ≡ check_fails.TooLong = e in cc)

fault_of : (error : LineError) → check_error error ≡ check_fails.Fault → error ≡ line_fails.Fault
fault_of line_fails.Fault e = refl
fault_of line_fails.NotThere e = absurd (let x : check_fails.NotThere ≡ check_fails.Fault = e in cc)
fault_of line_fails.TooLong e = absurd (let x : check_fails.TooLong ≡ check_fails.Fault = e in cc)
fault_of line_fails.Memory e = absurd (let x : check_fails.Memory ≡ check_fails.Fault = e in cc)

fault_is : (error : LineError) → error ≡ line_fails.Fault → check_error error ≡ check_fails.Fault
fault_is error e = ap check_error e

pub err_of : {T E : Type 0} {x y : E} → ◌≡◌ {A = Result T E} (Err x) (Err y) → x ≡ y
err_of e = cc

-- faults of a reader of lines, handed on
pub handed : {T U : Type 0} (error : LineError) (said : CheckError) (before mid now : ℕ) → said ≡ check_error error → mid ≡ before → HandsOn {T = T} {E = LineError} line_fails.Fault mid now (Err error) → HandsOn {T = U} {E = CheckError} check_fails.Fault before now (Err said)
handed {U = U} error said before mid now is same h =
    subst (λ (n : ℕ). HandsOn {T = U} {E = CheckError} check_fails.Fault n now (Err said)) same (record {
      later = h.later;
      failed = λ e. h.failed (ap Err (fault_of error (sym is ∙ err_of e)));
      kept = λ n. h.kept (λ e. n (ap Err (is ∙ fault_is error (err_of e))));
    })

-- what a judge that has come to a verdict gives is what the text gives
pub judged_text : (table : TableValue) (judge : JudgeValue) (checked : Checked) (text : List ℕ) (lines : Reading) (after : List LineText) (ended : Bool) → LinesTellDocuments → judge.table ≡ table → judge.judged ≢ More → checked ≡ checked_by judge
    → StandsFor judge after ended → InFileBehind text lines after ended → IsChecked table (2 ^ 47) text checked
judged_text table judge checked text lines after ended law same over is s f =
    subst (λ (t : TableValue). IsChecked t (2 ^ 47) text checked) same
    (subst (λ (c : Checked). IsChecked judge.table (2 ^ 47) text c) (sym is) (verdict_checked judge.table judge.kept judge.lines text lines after ended judge.judged law over s f))

pub judged_sound : (table : TableValue) (judge : JudgeValue) (checked : Checked) (after : List LineText) (ended : Bool) → LinesTellDocuments → ValidIsSo → IsTable table → judge.table ≡ table → judge.judged ≢ More → checked ≡ checked_by judge
    → StandsFor judge after ended → IsSound table checked
judged_sound table judge checked after ended law so is_table same over is s =
    subst (λ (c : Checked). IsSound table c) (sym is)
    (verdict_sound table judge.kept judge.lines after ended judge.judged law so is_table over (subst (λ (t : TableValue). Stands judge.judged t judge.kept judge.lines after ended) same s))
