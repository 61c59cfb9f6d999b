-- The first line of a text.
use Rattle.std.proofs.Common.{◌≡◌, ◌∙◌, ◌+◌, ◌-◌, ◌<◌, ◌≤◌, ℕ, suc, Bool, true, false, List, [], ◌∷◌, ◌++◌, refl, sym, ap, length, take, drop, get_or, arith, append_assoc, length-append}
use Rattle.std.specs.Prelude.{nat_lt, if◌then◌else◌}
use Rattle.std.specs.List.{slice_split, onto_first}
use Rattle.std.proofs.lemmas.Bool.Decides.{nat_tests}
use Rattle.std.proofs.lemmas.List.{get_or_default, take-take, take-append-drop, length-take}
use Rattle.std.proofs.lemmas.List.Splits.{slice_split_at, slice_split_none, slice_split-cons_no, length-slice_split}
use Rattle.seed_io.specs.Lines.{Whole, Wide, Unended, is_lf, HasNoLf, is_wide, lines_of_pieces, lines_of, longest_line}

-- a test that does not hold
pub not_true : (b : Bool) → (b ≡ true → ⊥) → b ≡ false
not_true true h = absurd (h refl)
not_true false h = refl

-- a text in which no place has an LF
pub no_lf : (text : List ℕ) → ((k : ℕ) → 0 ≤ k → k < length text → is_lf (get_or text k 0) ≡ true → ⊥) → HasNoLf text
no_lf text none k d within = ap is_lf (get_or_default text k d 0 within) ∙ not_true (is_lf (get_or text k 0)) (none k (omega arith) within)

narrow_piece : (piece : List ℕ) → length piece ≤ longest_line → is_wide piece ≡ false
narrow_piece piece fits = grind (arith, nat_tests)

wide_piece : (piece : List ℕ) → longest_line < length piece → is_wide piece ≡ true
wide_piece piece long = grind (arith, nat_tests)

-- a text's pieces are never none
pieces_some : (ps : List (List ℕ)) → 0 < length ps → (piece : List ℕ) × (more : List (List ℕ)) × (ps ≡ piece ∷ more)
pieces_some [] some = absurd (omega (arith, some))
pieces_some (p ∷ ps) some = (p, ps, refl)

-- a whole line comes before the lines of the rest
whole_before : (line : List ℕ) (ps : List (List ℕ)) → 0 < length ps → is_wide line ≡ false → lines_of_pieces (line ∷ ps) ≡ Whole line ∷ lines_of_pieces ps
whole_before line [] some narrow = absurd (omega (arith, some))
whole_before line (p ∷ ps) some narrow = rw narrow refl

-- a first piece that is too wide is the last line
wide_ends : (line : List ℕ) (ps : List (List ℕ)) → is_wide line ≡ true → lines_of_pieces (line ∷ ps) ≡ Wide ∷ []
wide_ends line [] wide = rw wide refl
wide_ends line (p ∷ ps) wide = rw wide refl

pub whole_first : (line rest : List ℕ) → HasNoLf line → length line ≤ longest_line → lines_of (line ++ 10 ∷ rest) ≡ Whole line ∷ lines_of rest
whole_first line rest none fits =
    ap lines_of_pieces (slice_split_at is_lf line 10 rest none refl) ∙ whole_before line (slice_split is_lf rest) (omega (arith, length-slice_split is_lf rest)) (narrow_piece line fits)

-- bytes with no LF stand at the front of the first piece
pub front_of_first : (front rest : List ℕ) → HasNoLf front → (piece : List ℕ) × (more : List (List ℕ)) × (slice_split is_lf (front ++ rest) ≡ (front ++ piece) ∷ more)
front_of_first [] rest none = pieces_some (slice_split is_lf rest) (omega (arith, length-slice_split is_lf rest))
front_of_first (x ∷ front) rest none =
    let (piece, more, is) = front_of_first front rest (λ k d within. none (suc k) d (omega (arith, within))) in
    (piece, more, slice_split-cons_no is_lf x (front ++ rest) (none 0 0 (omega arith)) ∙ ap (onto_first x) is)

pub wide_first : (front rest : List ℕ) → HasNoLf front → longest_line < length front → lines_of (front ++ rest) ≡ Wide ∷ []
wide_first front rest none long =
    let (piece, more, is) = front_of_first front rest none in
    ap lines_of_pieces is ∙ wide_ends (front ++ piece) more (wide_piece (front ++ piece) (omega (arith, length-append front piece, long)))

pub end_first : (text : List ℕ) → HasNoLf text → length text ≤ longest_line → lines_of text ≡ (if nat_lt 0 (length text) then Unended ∷ [] else [])
end_first text none fits = ap lines_of_pieces (slice_split_none is_lf text none) ∙ rw (narrow_piece text fits) refl

-- the bytes held, where their first LF stands at a place: what is given for it, and what is left
pub whole_next : (held more given rest : List ℕ) (n : ℕ) → held ≡ take n held ++ 10 ∷ drop (n + 1) held → n < length held → n ≤ longest_line → HasNoLf (take n held)
    → given ≡ take (n + 1) held → rest ≡ drop (n + 1) held → lines_of (held ++ more) ≡ Whole (take (length given - 1) given) ∷ lines_of (rest ++ more)
whole_next held more given rest n split within fits none is left =
    let line : length (take n held) ≤ longest_line = omega (arith, length-take n held, fits) in
    let size : length given - 1 ≡ n = omega (arith, ap length is, length-take (n + 1) held, within) in
    let last : take (length given - 1) given ≡ take n held = ap (λ (k : ℕ). take k given) size ∙ (ap (λ (l : List ℕ). take n l) is ∙ take-take n (n + 1) held (omega arith)) in
    let text : held ++ more ≡ take n held ++ 10 ∷ (rest ++ more) = ap (λ (l : List ℕ). l ++ more) split ∙ (append_assoc (take n held) (10 ∷ drop (n + 1) held) more ∙ ap (λ (l : List ℕ). take n held ++ 10 ∷ (l ++ more)) (sym left)) in
    ap lines_of text ∙ (whole_first (take n held) (rest ++ more) none line ∙ ap (λ (l : List ℕ). Whole l ∷ lines_of (rest ++ more)) (sym last))

-- the bytes held, where they are too wide
pub wide_next : (held more : List ℕ) → longest_line < length held → HasNoLf (take (longest_line + 1) held) → lines_of (held ++ more) ≡ Wide ∷ []
wide_next held more long none =
    let text : held ++ more ≡ take 16385 held ++ (drop 16385 held ++ more) = ap (λ (l : List ℕ). l ++ more) (sym (take-append-drop 16385 held)) ∙ append_assoc (take 16385 held) (drop 16385 held) more in
    ap lines_of text ∙ wide_first (take 16385 held) (drop 16385 held ++ more) none (omega (arith, length-take 16385 held, long))
