-- The first line of a text.
use Rattle.std.proofs.Common.{◌≡◌, ◌≢◌, ℕ, ◌+◌, ◌<◌, List, ◌∷◌, ◌++◌, true, false, length, take, drop, get_or, refl, sym, ◌∙◌, ap, arith, add-one, suc}
use Rattle.std.specs.Prelude.{All, IsSome}
use Rattle.std.specs.List.{slice_split}
use Rattle.std.proofs.lemmas.Bool.{eqb-true}
use Rattle.std.proofs.lemmas.List.{take-append-drop, append_cancel_left}
use Rattle.std.proofs.lemmas.List.Elements.{All-from_recursion}
use Rattle.std.proofs.lemmas.List.Splits.{length-slice_split, slice_split_none, slice_split_at}
use Rattle.std.proofs.Math.Seq.{drop-cons}
use Rattle.bound_cert.specs.declared.place.Place.{Place}
use Rattle.bound_cert.specs.declared.place.Place.TheVariants.{AtTitle, AtSpan, AtPins, AtAnswer, AtPlan, AtBound, AtNode, AtGive, Past}
use Rattle.bound_cert.specs.Lines.{Entry, line_text, IsLine}
use Rattle.bound_cert.specs.Grammar.{is_lf, after, IsNextBad}
use Rattle.bound_cert.proofs.Splitting.{split_at_place}
use Rattle.bound_cert.proofs.LineTexts.{line_free, line_apart, head_same, tail_same}

-- a line is the first part of its text
line_split : (e : Entry) (more : List ℕ) → IsLine e → slice_split is_lf (line_text e ++ 10 ∷ more) ≡ line_text e ∷ slice_split is_lf more
line_split e more h = slice_split_at is_lf (line_text e) 10 more (All-from_recursion _ (line_text e) (line_free e h)) refl

-- a text without LF begins with no line
pub no_lf_no_line : (text : List ℕ) (e : Entry) (more : List ℕ) → All (λ b. is_lf b ≡ false) text → IsLine e → text ≢ line_text e ++ 10 ∷ more
no_lf_no_line text e more none h is =
    let parts = sym (slice_split_none is_lf text none) ∙ (ap (slice_split is_lf) is ∙ line_split e more h) in
    omega (arith, ap length parts, length-slice_split is_lf more)

-- a line ends at the first LF
pub line_is_front : (text : List ℕ) (place : ℕ) (e : Entry) (more : List ℕ) → place < length text → is_lf (get_or text place 0) ≡ true
    → ((k : ℕ) → k < place → is_lf (get_or text k 0) ≡ false) → IsLine e → text ≡ line_text e ++ 10 ∷ more → take place text ≡ line_text e
line_is_front text place e more lt at before h is =
    head_same (sym (split_at_place is_lf text place 0 lt at before) ∙ (ap (slice_split is_lf) is ∙ line_split e more h))

-- what stands before and behind an LF
pub cut_at_lf : (text : List ℕ) (place : ℕ) → place < length text → is_lf (get_or text place 0) ≡ true → text ≡ take place text ++ 10 ∷ drop (place + 1) text
cut_at_lf text place lt at =
    let ten : get_or text place 0 ≡ 10 = eqb-true (get_or text place 0) 10 at in
    let rest : drop place text ≡ 10 ∷ drop (place + 1) text = rw add-one (drop-cons text place 0 lt ∙ ap (λ (b : ℕ). b ∷ drop (suc place) text) ten) in
    sym (take-append-drop place text) ∙ ap (λ r. take place text ++ r) rest

-- a text begins with one line
pub one_first : (text : List ℕ) (d e : Entry) (xs ys : List ℕ) → IsLine d → IsLine e → text ≡ line_text d ++ 10 ∷ xs → text ≡ line_text e ++ 10 ∷ ys → d ≡ e
one_first text d e xs ys h k p q =
    line_apart d e h k (head_same (sym (line_split d xs h) ∙ (ap (slice_split is_lf) (sym p ∙ q) ∙ line_split e ys k)))

-- and has one rest
pub one_rest_text : (e : Entry) (xs ys : List ℕ) → line_text e ++ 10 ∷ xs ≡ line_text e ++ 10 ∷ ys → xs ≡ ys
one_rest_text e xs ys p = tail_same (append_cancel_left (line_text e) (10 ∷ xs) (10 ∷ ys) p)

-- where a line is missing
pub next_bad : (place : Place) (rest : List ℕ) → place ≢ Past → ((e : Entry) (more : List ℕ) → IsLine e → IsSome (after place e) → rest ≢ line_text e ++ 10 ∷ more) → IsNextBad place rest
next_bad AtTitle rest n h = h
next_bad (AtSpan v) rest n h = h
next_bad AtPins rest n h = h
next_bad AtAnswer rest n h = h
next_bad AtPlan rest n h = h
next_bad AtBound rest n h = h
next_bad (AtNode nodes) rest n h = h
next_bad (AtGive nodes gives last) rest n h = h
next_bad Past rest n h = absurd (n refl)
