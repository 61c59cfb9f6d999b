-- Lawful lines are short.
use Rattle.std.proofs.Common.{◌≡◌, ℕ, ◌+◌, ◌<◌, ◌≤◌, ◌^◌, List, [], ◌∷◌, length, ap, arith, decimal, inl, inr, sum_by}
use Rattle.std.proofs.lemmas.Fmt.{length-decimal-le_wide}
use Rattle.std.proofs.lemmas.List.{length-append}
use Rattle.std.proofs.lemmas.List.Sums.{sum_by-cons}
use Rattle.bound_cert.specs.declared.heading.Answer.TheVariants.{Optimal, Infeasible, Open}
use Rattle.seed_text.specs.SetWords.{IsSetWord}
use Rattle.bound_cert.specs.Words.{joined}
use Rattle.bound_cert.specs.Lines.{Entry, Title, Span, Pinned, Answered, Planned, NoPlan, Bounded, NoBound, Branch, Low, High, Leaf, Give, End, keyword, operands}
use Rattle.bound_cert.specs.Laws.{LinesAreShort}

-- words with a space behind each
joined_short : (ws : List (List ℕ)) → length (joined ws) ≤ sum_by (λ w. length w + 1) ws
joined_short [] = omega arith
joined_short (w ∷ []) = omega arith
joined_short (w ∷ x ∷ ws) =
    let one : length (joined (w ∷ x ∷ ws)) ≡ length w + length (32 ∷ joined (x ∷ ws)) = length-append w (32 ∷ joined (x ∷ ws)) in
    let sum : sum_by (λ w. length w + 1) (w ∷ x ∷ ws) ≡ (length w + 1) + sum_by (λ w. length w + 1) (x ∷ ws) = sum_by-cons (λ (w : List ℕ). length w + 1) w (x ∷ ws) in
    omega (arith, one, sum, joined_short (x ∷ ws))

number_short : (n : ℕ) → n < 10 ^ 64 → length (decimal n) ≤ 64
number_short n h = length-decimal-le_wide 64 n (omega arith) h (omega arith)

set_short : (w : List ℕ) → IsSetWord w → length w ≤ 4096
set_short w (inl e) = omega (arith, ap length e)
set_short w (inr h) = h.most

text_short : (e : Entry) → length (joined (keyword e ∷ operands e)) ≤ sum_by (λ w. length w + 1) (keyword e ∷ operands e)
text_short e = joined_short (keyword e ∷ operands e)

pub lines_are_short : LinesAreShort
lines_are_short (Title v) h = omega (arith, text_short (Title v), number_short v (omega arith))
lines_are_short (Span l u) h = omega (arith, text_short (Span l u), number_short l (omega arith), number_short u (omega arith))
lines_are_short (Pinned g s) h = omega (arith, text_short (Pinned g s), set_short g h.0, set_short s h.1)
lines_are_short (Answered Optimal) h = omega (arith, text_short (Answered Optimal))
lines_are_short (Answered Infeasible) h = omega (arith, text_short (Answered Infeasible))
lines_are_short (Answered Open) h = omega (arith, text_short (Answered Open))
lines_are_short (Planned s m r) h = omega (arith, text_short (Planned s m r), set_short s h.0, number_short m (omega arith), number_short r (omega arith))
lines_are_short NoPlan h = omega (arith, text_short NoPlan)
lines_are_short (Bounded z) h = omega (arith, text_short (Bounded z), number_short z (omega arith))
lines_are_short NoBound h = omega (arith, text_short NoBound)
lines_are_short (Branch f p q a b) h =
    omega (arith, text_short (Branch f p q a b), number_short f (omega arith), set_short p h.1, set_short q h.2, number_short a (omega arith), number_short b (omega arith))
lines_are_short Low h = omega (arith, text_short Low)
lines_are_short High h = omega (arith, text_short High)
lines_are_short (Leaf p q k) h = omega (arith, text_short (Leaf p q k), number_short p (omega arith), number_short q (omega arith), number_short k (omega arith))
lines_are_short (Give c f a b) h =
    omega (arith, text_short (Give c f a b), number_short c (omega arith), number_short f (omega arith), number_short a (omega arith), number_short b (omega arith))
lines_are_short End h = omega (arith, text_short End)
