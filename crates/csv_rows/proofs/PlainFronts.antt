-- How many bytes stand before the first special one, told piece by piece.
use Rattle.std.proofs.Common.{◌≡◌, ◌+◌, ◌-◌, ◌≤◌, ℕ, List, take, drop, length, inl, inr, arith}
use Rattle.std.proofs.lemmas.Bool.{cases_lt}
use Rattle.std.proofs.lemmas.List.{get_or-drop, get_or-take, length-drop, length-take}
use Rattle.csv_rows.specs.Plain.{IsPlainFront}

-- a front, and that of the next bytes
pub front_more : (text : List ℕ) (place count most : ℕ) → IsPlainFront text place → IsPlainFront (take most (drop place text)) count → count ≤ length (take most (drop place text)) → IsPlainFront text (place + count)
front_more text place count most first more within = record {
  plain = λ k below. elim (cases_lt k place) [
    | inl before ↦ first.plain k before
    | inr behind ↦
        let sum : place + (k - place) ≡ k = omega arith in
        rw (← sum, ← get_or-drop place text (k - place) 0, ← get_or-take most (drop place text) (k - place) 0 (omega (arith, below, within, length-take most (drop place text)))) (more.plain (k - place) (omega (arith, below)))
  ];
}

-- and it is within the bytes
pub front_within : (text : List ℕ) (place count most : ℕ) → place ≤ length text → count ≤ length (take most (drop place text)) → place + count ≤ length text
front_within text place count most before within = omega (arith, before, within, length-take most (drop place text), length-drop place text)
