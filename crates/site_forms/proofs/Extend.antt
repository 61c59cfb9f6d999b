-- A block behind the end of a log makes one more record.
use Rattle.std.proofs.Common.{◌≡◌, ⊎_elim, ℕ, zero, suc, ◌<◌, ◌≤◌, ◌+◌, ◌-◌, ◌^◌, List, [], ◌∷◌, ◌++◌, length, get_or, take, drop, true, refl, sym, ◌∙◌, ap, subst, arith, length-append, length-drop}
use Rattle.std.proofs.lemmas.List.{take_at, drop_at, drop-drop}
use Rattle.std.proofs.lemmas.Nat.{from_be_bytes-to_be_bytes_4}
use Rattle.std.specs.Prelude.{◌==◌}
use Rattle.std.specs.Int.{w32, from_be_bytes, to_be_bytes}
use Rattle.site_forms.specs.Logs.{body_length, is_block, parse_from}
use Rattle.site_forms.specs.Logs.Parsed.{Good}
use Rattle.site_forms.proofs.Agree.{bad_good, step, more_good, ends_behind, opens_as, closes, shorter, behind, block_same}

-- the bytes behind an open gate
abbrev pub frame_of : List ℕ → ℕ → List ℕ → List ℕ
frame_of body gate junk = to_be_bytes w32 (length body) ++ body ++ gate ∷ junk

pub first : (fuel at : ℕ) (body junk : List ℕ) (gate : ℕ) → length (to_be_bytes w32 (length body)) ≡ 4 → 1 ≤ length body → length body ≤ 2 ^ 24 → at + 5 + length body < 2 ^ 40 → (gate ≡ 1 → ⊥)
    → parse_from (suc (suc fuel)) at (1 ∷ frame_of body gate junk) ≡ Good (body ∷ []) (at + 5 + length body)
first fuel at body junk gate four some few below apart =
    let head = to_be_bytes w32 (length body) in
    let number : length body ≡ body_length (frame_of body gate junk) =
    sym (ap (λ (l : List ℕ). from_be_bytes w32 l) (take_at head (body ++ gate ∷ junk) 4 four) ∙ from_be_bytes-to_be_bytes_4 (length body) (omega (arith, few))) in
    let long : length (frame_of body gate junk) ≡ 4 + length body + 1 + length junk = omega (arith, four, length-append head (body ++ gate ∷ junk), length-append body (gate ∷ junk)) in
    let whole : is_block at (frame_of body gate junk) ≡ true = grind (arith, number, long, some, few, below) in
    let inside : drop 4 (frame_of body gate junk) ≡ body ++ gate ∷ junk = drop_at head (body ++ gate ∷ junk) 4 four in
    let taken : take (length body) (drop 4 (frame_of body gate junk)) ≡ body = ap (λ (l : List ℕ). take (length body) l) inside ∙ take_at body (gate ∷ junk) (length body) refl in
    let rest : drop (4 + length body) (frame_of body gate junk) ≡ gate ∷ junk =
    sym (drop-drop (length body) 4 (frame_of body gate junk)) ∙ ap (λ (l : List ℕ). drop (length body) l) inside ∙ drop_at body (gate ∷ junk) (length body) refl in
    opens_as (suc fuel) at 1 (frame_of body gate junk) [] (at + 5 + length body) (length body) number refl whole
    (ap (λ (l : List ℕ). parse_from (suc fuel) (at + 5 + length body) l) rest ∙ closes fuel (at + 5 + length body) gate junk apart)
    ∙ ap (λ (l : List ℕ). Good (l ∷ []) (at + 5 + length body)) taken

-- two lists that agree up to k, of which the first has a block after that
pub extend : (fuel other_fuel at k : ℕ) (xs ys : List ℕ) (bs : List (List ℕ)) (body junk : List ℕ) (gate : ℕ) → parse_from fuel at xs ≡ Good bs (at + k) → length ys ≤ other_fuel → take k ys ≡ take k xs
    → drop k ys ≡ 1 ∷ frame_of body gate junk → length (to_be_bytes w32 (length body)) ≡ 4 → 1 ≤ length body → length body ≤ 2 ^ 24 → at + k + 5 + length body < 2 ^ 40 → (gate ≡ 1 → ⊥)
    → parse_from other_fuel at ys ≡ Good (bs ++ body ∷ []) (at + k + 5 + length body)
extend zero other_fuel at k xs ys bs body junk gate good enough same behind_it four some few below apart = absurd (bad_good at bs (at + k) good)
extend (suc fuel) other_fuel at k [] ys bs body junk gate good enough same behind_it four some few below apart = absurd (bad_good at bs (at + k) good)
extend (suc fuel) other_fuel at k (g ∷ rest) [] bs body junk gate good enough same behind_it four some few below apart = absurd (omega (arith, ap length behind_it, length-drop {A = ℕ} k []))
extend (suc fuel) zero at k (g ∷ rest) (y ∷ others) bs body junk gate good enough same behind_it four some few below apart = absurd (omega (arith, enough))
extend (suc fuel) (suc other_fuel) at k (g ∷ rest) (y ∷ others) bs body junk gate good enough same behind_it four some few below apart = ⊎_elim
    (λ ended.
    let none : k ≡ 0 = omega (arith, ended.2) in
    let ys = y ∷ others in
    let whole : ys ≡ 1 ∷ frame_of body gate junk = subst (λ (i : ℕ). drop i ys ≡ 1 ∷ frame_of body gate junk) none behind_it in
    let long : length ys ≡ 6 + length body + length junk = omega (arith, ap length whole, four, length-append (to_be_bytes w32 (length body)) (body ++ gate ∷ junk), length-append body (gate ∷ junk)) in
    let more_fuel = suc other_fuel - 2 in
    let fuel_is : suc other_fuel ≡ suc (suc more_fuel) = omega (arith, enough, long) in
    ap (λ (f : ℕ). parse_from f at ys) fuel_is ∙ ap (λ (l : List ℕ). parse_from (suc (suc more_fuel)) at l) whole
    ∙ first more_fuel at body junk gate four some few (omega (arith, below, none)) apart
    ∙ ap (λ (l : List (List ℕ)). Good (l ++ body ∷ []) (at + 5 + length body)) (sym ended.1) ∙ ap (λ (i : ℕ). Good (bs ++ body ∷ []) i) (omega (arith, none)))
    (λ block.
    let n = body_length rest in
    let inner = more_good _ _ bs (at + k) block.2 in
    let later : at + 5 + n ≤ at + k = ends_behind fuel (at + 5 + n) (drop (4 + n) rest) inner.0 (at + k) inner.1 in
    let j = k - (5 + n) in
    let count : k ≡ suc (4 + n + j) = omega (arith, later) in
    let all : take (suc (4 + n + j)) (y ∷ others) ≡ take (suc (4 + n + j)) (g ∷ rest) = subst (λ (i : ℕ). take i (y ∷ others) ≡ take i (g ∷ rest)) count same in
    let heads : y ≡ g = ap (λ (l : List ℕ). get_or l 0 0) all in
    let tails : take (4 + n + j) others ≡ take (4 + n + j) rest = ap (λ (l : List ℕ). drop 1 l) all in
    let number : take 4 others ≡ take 4 rest = shorter 4 (4 + n + j) others rest (omega arith) tails in
    let named : n ≡ body_length others = sym (ap (λ (l : List ℕ). from_be_bytes w32 l) number) in
    let inside : k < suc (length others) = omega (arith, ap length behind_it, length-drop k (y ∷ others)) in
    let long : 5 + n ≤ length others = omega (arith, inside, count) in
    let whole : is_block at others ≡ true = block_same at rest others n refl block.1 number long in
    let is_open : (y == 1) ≡ true = ap (λ (i : ℕ). i == 1) heads ∙ block.0 in
    let taken : take n (drop 4 others) ≡ take n (drop 4 rest) = behind 4 n others rest (shorter (4 + n) (4 + n + j) others rest (omega arith) tails) in
    let rest_good : parse_from fuel (at + 5 + n) (drop (4 + n) rest) ≡ Good inner.0 (at + 5 + n + j) = inner.1 ∙ ap (λ (i : ℕ). Good inner.0 i) (omega (arith, count)) in
    let rest_behind : drop j (drop (4 + n) others) ≡ 1 ∷ frame_of body gate junk = drop-drop j (4 + n) others ∙ subst (λ (i : ℕ). drop i (y ∷ others) ≡ 1 ∷ frame_of body gate junk) count behind_it in
    let rest_more : parse_from other_fuel (at + 5 + n) (drop (4 + n) others) ≡ Good (inner.0 ++ body ∷ []) (at + 5 + n + j + 5 + length body) =
    extend fuel other_fuel (at + 5 + n) j (drop (4 + n) rest) (drop (4 + n) others) inner.0 body junk gate rest_good
    (omega (arith, enough, length-drop (4 + n) others)) (behind (4 + n) j others rest tails) rest_behind four some few (omega (arith, below, count)) apart in
    opens_as other_fuel at y others (inner.0 ++ body ∷ []) (at + 5 + n + j + 5 + length body) n named is_open whole rest_more
    ∙ ap (λ (l : List ℕ). Good (l ∷ inner.0 ++ body ∷ []) (at + 5 + n + j + 5 + length body)) taken
    ∙ ap (λ (l : List (List ℕ)). Good (l ++ body ∷ []) (at + 5 + n + j + 5 + length body)) (sym inner.2) ∙ ap (λ (i : ℕ). Good (bs ++ body ∷ []) i) (omega (arith, count)))
    (step fuel at g rest bs (at + k) good)
