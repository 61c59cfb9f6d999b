-- What a reader has seen of the lines that it gave.
use Rattle.std.proofs.Common.{◌≡◌, ℕ, ◌+◌, ◌-◌, ◌≤◌, ◌++◌, List, [], ◌∷◌, length, take, Bool, true, false, Some, map, refl, sym, ◌∙◌, ap, subst, arith, append_assoc, length-append}
use Rattle.std.specs.Prelude.{sum_by, All}
use Rattle.std.specs.List.{AllByRecursion}
use Rattle.std.proofs.Math.Seq.{take-append-add}
use Rattle.std.proofs.lemmas.List.{append_cancel_left}
use Rattle.std.proofs.lemmas.List.Elements.{recursion_from_All}
use Rattle.std.proofs.lemmas.List.Sums.{sum_by-cons, sum_by-append}
use Rattle.seed_model.specs.Tables.{TableValue}
use Rattle.seed_io.specs.Lines.{LineText, Whole, Wide, Unended, lines_of, line_size, bytes_ahead, is_unended, is_lf}
use Rattle.bound_cert.specs.Grammar.{text_of}
use Rattle.bound_cert.specs.Lines.{Entry, line_text}
use Rattle.bound_cert.specs.Within.{IsUnseen, FailsWithin}
use Rattle.cert_check.specs.Histories.{whole_line, BeginsWith, FailsAmong, AllFail}
use Rattle.cert_check.proofs.Taking.{first_whole, behind_lines}

-- a line that begins at a place is seen within a limit; where the text's end ends it, the whole text is
pub record IsSeen (limit : ℕ) (text : List ℕ) (at : ℕ) (line : LineText) : Type 0 where
  pub within : at + line_size (Some line) + bytes_ahead (Some line) ≤ limit
  pub ends : is_unended (Some line) ≡ true → length text ≤ limit

abbrev pub AreSeen : ℕ → List ℕ → ℕ → List LineText → Type 0
AreSeen limit text at [] = Unit {0}
AreSeen limit text at (line ∷ lines) = IsSeen limit text at line × AreSeen limit text (at + line_size (Some line)) lines

-- the bytes of whole lines, with their LFs
abbrev pub size_of : List LineText → ℕ
size_of lines = sum_by (λ line. line_size (Some line)) lines

pub size_more : (lines : List LineText) (line : LineText) → size_of (lines ++ line ∷ []) ≡ size_of lines + line_size (Some line)
size_more lines line = sum_by-append (λ (l : LineText). line_size (Some l)) lines (line ∷ []) ∙ ap (λ n. size_of lines + n) (sum_by-cons (λ (l : LineText). line_size (Some l)) line [] ∙ omega arith)

pub seen_more : (limit : ℕ) (text : List ℕ) (at place : ℕ) (lines : List LineText) (line : LineText) → at + size_of lines ≡ place → AreSeen limit text at lines → IsSeen limit text place line → AreSeen limit text at (lines ++ line ∷ [])
seen_more limit text at place [] line e a s = (let same : place ≡ at = omega (arith, e) in subst (λ n. IsSeen limit text n line) same s, tt)
seen_more limit text at place (l ∷ lines) line e a s =
    let sum : size_of (l ∷ lines) ≡ line_size (Some l) + size_of lines = sum_by-cons (λ (x : LineText). line_size (Some x)) l lines in
    (a.0, seen_more limit text (at + line_size (Some l)) place lines line (omega (arith, e, sum)) a.1 s)

-- behind lines of documents
seen_behind : (limit : ℕ) (text : List ℕ) (at : ℕ) (entries : List Entry) (more : List LineText) → AreSeen limit text at (map whole_line entries ++ more) → AreSeen limit text (at + length (text_of entries)) more
seen_behind limit text at [] more a = let same : at ≡ at + 0 = omega arith in subst (λ n. AreSeen limit text n more) same a
seen_behind limit text at (e ∷ entries) more a =
    let first : length (text_of (e ∷ entries)) ≡ length (line_text e ++ 10 ∷ []) + length (text_of entries) = length-append (line_text e ++ 10 ∷ []) (text_of entries) in
    let one : length (line_text e ++ 10 ∷ []) ≡ length (line_text e) + 1 = length-append (line_text e) (10 ∷ []) in
    let same : at + line_size (Some (whole_line e)) + length (text_of entries) ≡ at + length (text_of (e ∷ entries)) = omega (arith, first, one) in
    subst (λ n. AreSeen limit text n more) same (seen_behind limit text (at + line_size (Some (whole_line e))) entries more a.1)

-- a text with an LF in it
has_lf : (line more : List ℕ) → AllByRecursion (λ byte. is_lf byte ≡ false) (line ++ 10 ∷ more) → ⊥
has_lf [] more a = let e : true ≡ false = a.0 in cc
has_lf (b ∷ line) more a = has_lf line more a.1

lf_seen : (n : ℕ) (line more : List ℕ) → length line + 1 ≤ n → All (λ byte. is_lf byte ≡ false) (take n (line ++ 10 ∷ more)) → ⊥
lf_seen n line more le none =
    let front : List ℕ = line ++ 10 ∷ [] in
    let size : length front ≡ length line + 1 = length-append line (10 ∷ []) in
    let k : ℕ = n - length front in
    let long : n ≡ length front + k = omega (arith, size, le) in
    let is : take n (line ++ 10 ∷ more) ≡ line ++ 10 ∷ take k more =
    ap (take n) (sym (append_assoc line (10 ∷ []) more)) ∙ ap (λ m. take m (front ++ more)) long ∙ take-append-add front more k ∙ append_assoc line (10 ∷ []) (take k more) in
    has_lf line (take k more) (recursion_from_All (λ byte. is_lf byte ≡ false) (line ++ 10 ∷ take k more) (subst (λ (t : List ℕ). All (λ byte. is_lf byte ≡ false) t) is none))

-- a line that is seen does not stand unseen behind others
not_unseen : (limit : ℕ) (text rest : List ℕ) (front : List Entry) (line : LineText) (more : List LineText) → lines_of rest ≡ line ∷ more → IsSeen limit text (length (text_of front)) line → ¬ IsUnseen limit text front rest
not_unseen limit text rest front (Whole w) more is s u =
    let f = first_whole rest w more is in
    lf_seen (limit - length (text_of front)) w f.rest (omega (arith, s.within)) (subst (λ (t : List ℕ). All (λ byte. is_lf byte ≡ false) (take (limit - length (text_of front)) t)) f.text_is u.unended)
not_unseen limit text rest front Wide more is s u = omega (arith, s.within, u.narrow)
not_unseen limit text rest front Unended more is s u = omega (arith, s.ends refl, u.long)

-- a failure among lines that are seen is on what is seen
pub fails_within : (table : TableValue) (limit : ℕ) (text : List ℕ) (ended : Bool) (lines : List LineText) (line rule : ℕ) → AllFail table ended lines line rule → BeginsWith ended lines text → AreSeen limit text 0 lines → (ended ≡ true → length text ≤ limit)
    → FailsWithin table limit text line rule
fails_within table limit text ended lines line rule fails begins seen ends =
    let f = fails text begins in
    record { failure = f.failure; seen = unseen f f.more refl }
  where
    unseen : (f : FailsAmong table ended lines text line rule) (more : List LineText) → f.more ≡ more → ¬ IsUnseen limit text f.failure.front f.failure.rest
    unseen f [] e u = let le = ends (f.some e) in omega (arith, le, u.long)
    unseen f (l ∷ more) e u =
        let front : List Entry = f.failure.front in
        let before : lines ≡ map whole_line front ++ (l ∷ more) = f.before ∙ ap (λ m. map whole_line front ++ m) e in
        let all : lines_of text ≡ map whole_line front ++ (l ∷ (more ++ begins.more)) = begins.lines_are ∙ (ap (λ m. m ++ begins.more) before ∙ append_assoc (map whole_line front) (l ∷ more) begins.more) in
        let b = behind_lines front text (l ∷ (more ++ begins.more)) all in
        let same : b.rest ≡ f.failure.rest = append_cancel_left (text_of front) b.rest f.failure.rest (sym b.text_is ∙ f.failure.split) in
        let here = seen_behind limit text 0 front (l ∷ more) (subst (λ (ls : List LineText). AreSeen limit text 0 ls) before seen) in
        let at : 0 + length (text_of front) ≡ length (text_of front) = omega arith in
        not_unseen limit text f.failure.rest front l (more ++ begins.more) (ap lines_of (sym same) ∙ b.lines_are) (subst (λ n. IsSeen limit text n l) at here.0) u
