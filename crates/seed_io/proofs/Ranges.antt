-- Parts of a room between two places.
use Rattle.std.proofs.Common.{◌≡◌, ◌∙◌, ◌+◌, ◌-◌, ◌≤◌, ◌++◌, ℕ, List, sym, ap, length, take, drop, arith}
use Rattle.std.specs.List.{slice_range}
use Rattle.std.proofs.Math.Seq.{take-add, take-append_seam}
use Rattle.std.proofs.lemmas.List.{take-take, drop-drop, drop-take, length-take, length-drop}

-- the front of a part
pub range_front : (xs : List ℕ) (i n j : ℕ) → i + n ≤ j → slice_range xs i (i + n) ≡ take n (slice_range xs i j)
range_front xs i n j within =
    let m : (i + n) - i ≡ n = omega arith in
    let fits : n ≤ j - i = omega arith in
    ap (λ (k : ℕ). take k (drop i xs)) m ∙ sym (take-take n (j - i) (drop i xs) fits)

-- what is left behind the front of a part
pub range_rest : (xs : List ℕ) (i n j : ℕ) → i + n ≤ j → slice_range xs (i + n) j ≡ drop n (slice_range xs i j)
range_rest xs i n j within =
    let m : j - i ≡ n + (j - (i + n)) = omega arith in
    sym (ap (λ (k : ℕ). drop n (take k (drop i xs))) m ∙ (drop-take n (j - (i + n)) (drop i xs) ∙ ap (λ (l : List ℕ). take (j - (i + n)) l) (drop-drop n i xs)))

-- a part, as what is behind a front
pub range_in_front : (xs : List ℕ) (i j : ℕ) → i ≤ j → slice_range xs i j ≡ drop i (take j xs)
range_in_front xs i j within =
    let m : j ≡ i + (j - i) = omega arith in
    sym (ap (λ (k : ℕ). drop i (take k xs)) m ∙ drop-take i (j - i) xs)

-- a part depends on the front up to its end alone
pub range_same : (xs ys : List ℕ) (i j : ℕ) → i ≤ j → take j xs ≡ take j ys → slice_range xs i j ≡ slice_range ys i j
range_same xs ys i j within same = range_in_front xs i j within ∙ (ap (λ (l : List ℕ). drop i l) same ∙ sym (range_in_front ys i j within))

-- a part and what follows it
pub range_grown : (xs : List ℕ) (i j n : ℕ) → i ≤ j → slice_range xs i (j + n) ≡ slice_range xs i j ++ take n (drop j xs)
range_grown xs i j n within =
    let m : (j + n) - i ≡ (j - i) + n = omega arith in
    let back : i + (j - i) ≡ j = omega arith in
    ap (λ (k : ℕ). take k (drop i xs)) m
    ∙ (take-add (j - i) n (drop i xs) ∙ ap (λ (l : List ℕ). slice_range xs i j ++ take n l) (drop-drop (j - i) i xs ∙ ap (λ (k : ℕ). drop k xs) back))

-- a list that was written whole into the front of a room of its length
pub written_whole : (new old : List ℕ) (n : ℕ) → length new ≡ n → take n (new ++ drop (length new) old) ≡ new
written_whole new old n len = ap (λ (k : ℕ). take k (new ++ drop (length new) old)) (sym len) ∙ take-append_seam new (drop (length new) old)

pub length_range : (xs : List ℕ) (i j : ℕ) → j ≤ length xs → length (slice_range xs i j) ≡ j - i
length_range xs i j within = length-take (j - i) (drop i xs) ∙ omega (arith, length-drop i xs)

-- the front of a part, by its first place alone
pub range_by_front : (xs : List ℕ) (i n m : ℕ) → n ≤ m → take n (slice_range xs i (i + m)) ≡ take n (drop i xs)
range_by_front xs i n m within =
    let k : (i + m) - i ≡ m = omega arith in
    ap (λ (j : ℕ). take n (take j (drop i xs))) k ∙ take-take n m (drop i xs) within
