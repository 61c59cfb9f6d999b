-- One set is the first best.
use Rattle.std.proofs.Common.{◌≡◌, ◌∙◌, ◌+◌, ◌^◌, ◌<◌, ◌∷◌, [], ℕ, zero, suc, List, Bool, true, false, cond, refl, sym, subst, inl, inr, length, arith}
use Rattle.std.proofs.lemmas.Bool.{cases_lt}
use Rattle.seed_model.specs.declared.range.Range.{Range}
use Rattle.seed_model.specs.Files.{holds, rank}
use Rattle.seed_model.specs.Best.{IsFirstBest}
use Rattle.seed_model.specs.Tables.{TableValue}

-- sets of one rank have the same files
rank_small : (n : ℕ) (set : ℕ → Bool) → rank n set < 2 ^ n
rank_small zero set = omega arith
rank_small (suc n) set = by_file (set n) (rank_small n set)
  where
    by_file : (c : Bool) → rank n set < 2 ^ n → rank n set + cond c (2 ^ n) 0 < 2 ^ suc n
    by_file true less = omega (arith, less)
    by_file false less = omega (arith, less)

same_files : (n : ℕ) (one other : ℕ → Bool) → rank n one ≡ rank n other → (file : ℕ) → file < n → one file ≡ other file
same_files zero one other same file h = absurd (omega (arith, h))
same_files (suc n) one other same file h =
    let last = last_file (one n) (other n) same in
    elim (cases_lt file n) [
      | inl below ↦ same_files n one other last.1 file below
      | inr past ↦ let at : n ≡ file = omega (arith, past, h) in subst (λ (f : ℕ). one f ≡ other f) at last.0
    ]
  where
    last_file : (c d : Bool) → rank n one + cond c (2 ^ n) 0 ≡ rank n other + cond d (2 ^ n) 0 → (c ≡ d) × (rank n one ≡ rank n other)
    last_file true true e = (refl, omega (arith, e))
    last_file false false e = (refl, omega (arith, e))
    last_file true false e = let less = rank_small n other in absurd (omega (arith, e, less))
    last_file false true e = let less = rank_small n one in absurd (omega (arith, e, less))

same_flags : (one other : List Bool) → length one ≡ length other → ((file : ℕ) → file < length one → holds one file ≡ holds other file) → one ≡ other
same_flags [] [] e h = refl
same_flags [] (b ∷ other) e h = absurd (omega (arith, e))
same_flags (a ∷ one) [] e h = absurd (omega (arith, e))
same_flags (a ∷ one) (b ∷ other) e h =
    let head : a ≡ b = h 0 (omega arith) in
    let tail = same_flags one other (omega (arith, e)) (λ file l. h (suc file) (omega (arith, l))) in
    cc (head, tail)

-- one set is the first best
pub same_plan : (table : TableValue) (range : Range) (one other : List Bool) → length one ≡ table.files → length other ≡ table.files
    → IsFirstBest table range (holds one) → IsFirstBest table range (holds other) → one ≡ other
same_plan table range one other width same_width p q =
    let less = p.first (holds other) q.best in
    let more = q.first (holds one) p.best in
    let ranks : rank table.files (holds one) ≡ rank table.files (holds other) = omega (arith, less, more) in
    same_flags one other (width ∙ sym same_width) (λ file h. same_files table.files (holds one) (holds other) ranks file (omega (arith, h, width)))
