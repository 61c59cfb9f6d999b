-- Images that agree up to the end of a log hold the same records.
use Rattle.std.proofs.Common.{◌≡◌, ◌⊎◌, inl, inr, ⊎_elim, ℕ, zero, suc, ◌<◌, ◌≤◌, ◌+◌, ◌-◌, List, [], ◌∷◌, length, get_or, take, drop, Bool, true, false, refl, sym, ◌∙◌, ap, subst, arith}
use Rattle.std.proofs.lemmas.List.{drop-take, get_or-drop}
use Rattle.std.proofs.Common.{length-drop}
use Rattle.std.specs.Prelude.{◌==◌, if◌then◌else◌, ⊤}
use Rattle.std.specs.Int.{w32, from_be_bytes}
use Rattle.site_forms.specs.Logs.{Parsed, more, body_length, is_block, parse_from}
use Rattle.site_forms.specs.Logs.Parsed.{Good, Bad}

pub bool_cases : (b : Bool) → (b ≡ true) ⊎ (b ≡ false)
bool_cases true = inl refl
bool_cases false = inr refl

abbrev pub bodies_of : Parsed → List (List ℕ)
bodies_of (Good bs e) = bs
bodies_of (Bad at) = []

abbrev pub end_of : Parsed → ℕ
end_of (Good bs e) = e
end_of (Bad at) = at

abbrev pub is_good : Parsed → Type 0
is_good (Good bs e) = ⊤
is_good (Bad at) = ⊥

pub bad_good : (at : ℕ) (bs : List (List ℕ)) (e : ℕ) → Bad at ≡ Good bs e → ⊥
bad_good at bs e same = subst is_good (sym same) tt

pub more_good : (body : List ℕ) (p : Parsed) (bs : List (List ℕ)) (e : ℕ) → more body p ≡ Good bs e → (rest : List (List ℕ)) × (p ≡ Good rest e) × (bs ≡ body ∷ rest)
more_good body (Good rest end) bs e same = (rest, ap (λ (n : ℕ). Good rest n) (ap end_of same), sym (ap bodies_of same))
more_good body (Bad at) bs e same = absurd (bad_good at bs e same)

-- what a step of the parse has done
pub step : (fuel at gate : ℕ) (rest : List ℕ) (bs : List (List ℕ)) (e : ℕ) → parse_from (suc fuel) at (gate ∷ rest) ≡ Good bs e
    → ((gate == 1) ≡ false) × (bs ≡ []) × (e ≡ at)
    ⊎ ((gate == 1) ≡ true) × (is_block at rest ≡ true) × (more (take (body_length rest) (drop 4 rest)) (parse_from fuel (at + 5 + body_length rest) (drop (4 + body_length rest) rest)) ≡ Good bs e)
step fuel at gate rest bs e good = ⊎_elim
    (λ is_open. ⊎_elim
    (λ block. inr (is_open, block, sym (ap (λ b. if b then (if is_block at rest then more (take (body_length rest) (drop 4 rest)) (parse_from fuel (at + 5 + body_length rest) (drop (4 + body_length rest) rest)) else Bad at) else Good [] at) is_open ∙ ap (λ b. if b then more (take (body_length rest) (drop 4 rest)) (parse_from fuel (at + 5 + body_length rest) (drop (4 + body_length rest) rest)) else Bad at) block) ∙ good))
    (λ none. absurd (bad_good at bs e (sym (ap (λ b. if b then (if is_block at rest then more (take (body_length rest) (drop 4 rest)) (parse_from fuel (at + 5 + body_length rest) (drop (4 + body_length rest) rest)) else Bad at) else Good [] at) is_open ∙ ap (λ b. if b then more (take (body_length rest) (drop 4 rest)) (parse_from fuel (at + 5 + body_length rest) (drop (4 + body_length rest) rest)) else Bad at) none) ∙ good)))
    (bool_cases (is_block at rest)))
    (λ closed.
    let ends : Good [] at ≡ Good bs e = sym (ap (λ b. if b then (if is_block at rest then more (take (body_length rest) (drop 4 rest)) (parse_from fuel (at + 5 + body_length rest) (drop (4 + body_length rest) rest)) else Bad at) else Good [] at) closed) ∙ good in
    inl (closed, sym (ap bodies_of ends), sym (ap end_of ends)))
    (bool_cases (gate == 1))

pub ends_behind : (fuel at : ℕ) (image : List ℕ) (bs : List (List ℕ)) (e : ℕ) → parse_from fuel at image ≡ Good bs e → at ≤ e
ends_behind zero at image bs e good = absurd (bad_good at bs e good)
ends_behind (suc fuel) at [] bs e good = absurd (bad_good at bs e good)
ends_behind (suc fuel) at (gate ∷ rest) bs e good = ⊎_elim
    (λ closed. omega (arith, closed.2))
    (λ block.
    let inner = more_good _ _ bs e block.2 in
    let later = ends_behind fuel (at + 5 + body_length rest) (drop (4 + body_length rest) rest) inner.0 e inner.1 in
    omega (arith, later))
    (step fuel at gate rest bs e good)

-- the first n of two lists that agree further on
pub shorter : (n m : ℕ) (xs ys : List ℕ) → n ≤ m → take m xs ≡ take m ys → take n xs ≡ take n ys
shorter zero m xs ys le same = refl
shorter (suc n) zero xs ys le same = absurd (omega (arith, le))
shorter (suc n) (suc m) [] [] le same = refl
shorter (suc n) (suc m) [] (y ∷ ys) le same = absurd (omega (arith, ap length same))
shorter (suc n) (suc m) (x ∷ xs) [] le same = absurd (omega (arith, ap length same))
shorter (suc n) (suc m) (x ∷ xs) (y ∷ ys) le same =
    let heads : x ≡ y = ap (λ (l : List ℕ). get_or l 0 0) same in
    let tails : take m xs ≡ take m ys = ap (λ (l : List ℕ). drop 1 l) same in
    ap (λ (z : ℕ). z ∷ take n xs) heads ∙ ap (λ (l : List ℕ). y ∷ l) (shorter n m xs ys (omega (arith, le)) tails)

-- what lies behind the first n
pub behind : (n m : ℕ) (xs ys : List ℕ) → take (n + m) xs ≡ take (n + m) ys → take m (drop n xs) ≡ take m (drop n ys)
behind n m xs ys same = sym (drop-take n m xs) ∙ ap (λ (l : List ℕ). drop n l) same ∙ drop-take n m ys

pub block_same : (at : ℕ) (rest other : List ℕ) (n : ℕ) → n ≡ body_length rest → is_block at rest ≡ true → take 4 other ≡ take 4 rest → 5 + n ≤ length other → is_block at other ≡ true
block_same at rest other n is block same long =
    let number : body_length other ≡ body_length rest = ap (λ (l : List ℕ). from_be_bytes w32 l) same in
    grind (arith, number, is, block, long)

-- an open gate with a block behind it
opens : (fuel at gate : ℕ) (rest : List ℕ) (bs : List (List ℕ)) (e : ℕ) → (gate == 1) ≡ true → is_block at rest ≡ true
    → parse_from fuel (at + 5 + body_length rest) (drop (4 + body_length rest) rest) ≡ Good bs e → parse_from (suc fuel) at (gate ∷ rest) ≡ Good (take (body_length rest) (drop 4 rest) ∷ bs) e
opens fuel at gate rest bs e is_open block inner =
    ap (λ b. if b then (if is_block at rest then more (take (body_length rest) (drop 4 rest)) (parse_from fuel (at + 5 + body_length rest) (drop (4 + body_length rest) rest)) else Bad at) else Good [] at) is_open
    ∙ ap (λ b. if b then more (take (body_length rest) (drop 4 rest)) (parse_from fuel (at + 5 + body_length rest) (drop (4 + body_length rest) rest)) else Bad at) block
    ∙ ap (λ p. more (take (body_length rest) (drop 4 rest)) p) inner

-- the same with another name for the number
pub opens_as : (fuel at gate : ℕ) (rest : List ℕ) (bs : List (List ℕ)) (e n : ℕ) → n ≡ body_length rest → (gate == 1) ≡ true → is_block at rest ≡ true
    → parse_from fuel (at + 5 + n) (drop (4 + n) rest) ≡ Good bs e → parse_from (suc fuel) at (gate ∷ rest) ≡ Good (take n (drop 4 rest) ∷ bs) e
opens_as fuel at gate rest bs e n is is_open block inner =
    opens fuel at gate rest bs e is_open block (subst (λ (m : ℕ). parse_from fuel (at + 5 + m) (drop (4 + m) rest) ≡ Good bs e) is inner)
    ∙ ap (λ (m : ℕ). Good (take m (drop 4 rest) ∷ bs) e) (sym is)

pub closes : (fuel at gate : ℕ) (rest : List ℕ) → (gate ≡ 1 → ⊥) → parse_from (suc fuel) at (gate ∷ rest) ≡ Good [] at
closes fuel at gate rest apart =
    let closed : (gate == 1) ≡ false = grind (arith, apart) in
    ap (λ b. if b then (if is_block at rest then more (take (body_length rest) (drop 4 rest)) (parse_from fuel (at + 5 + body_length rest) (drop (4 + body_length rest) rest)) else Bad at) else Good [] at) closed

pub agree : (fuel other_fuel at k : ℕ) (xs ys : List ℕ) (bs : List (List ℕ)) → parse_from fuel at xs ≡ Good bs (at + k) → length ys ≤ other_fuel → k < length ys → take k ys ≡ take k xs → (get_or ys k 0 ≡ 1 → ⊥) → parse_from other_fuel at ys ≡ Good bs (at + k)
agree zero other_fuel at k xs ys bs good enough inside same closed = absurd (bad_good at bs (at + k) good)
agree (suc fuel) other_fuel at k [] ys bs good enough inside same closed = absurd (bad_good at bs (at + k) good)
agree (suc fuel) other_fuel at k (gate ∷ rest) [] bs good enough inside same closed = absurd (omega (arith, inside))
agree (suc fuel) zero at k (gate ∷ rest) (y ∷ others) bs good enough inside same closed = absurd (omega (arith, enough))
agree (suc fuel) (suc other_fuel) at k (gate ∷ rest) (y ∷ others) bs good enough inside same closed = ⊎_elim
    (λ ended.
    let none : k ≡ 0 = omega (arith, ended.2) in
    let apart : y ≡ 1 → ⊥ = λ is. closed (ap (λ (i : ℕ). get_or (y ∷ others) i 0) none ∙ is) in
    closes other_fuel at y others apart ∙ ap (λ (l : List (List ℕ)). Good l at) (sym ended.1) ∙ ap (λ (i : ℕ). Good bs i) (sym ended.2))
    (λ block.
    let n = body_length rest in
    let inner = more_good _ _ bs (at + k) block.2 in
    let later : at + 5 + n ≤ at + k = ends_behind fuel (at + 5 + n) (drop (4 + n) rest) inner.0 (at + k) inner.1 in
    let j = k - (5 + n) in
    let count : k ≡ suc (4 + n + j) = omega (arith, later) in
    let all : take (suc (4 + n + j)) (y ∷ others) ≡ take (suc (4 + n + j)) (gate ∷ rest) = subst (λ (i : ℕ). take i (y ∷ others) ≡ take i (gate ∷ rest)) count same in
    let heads : y ≡ gate = ap (λ (l : List ℕ). get_or l 0 0) all in
    let tails : take (4 + n + j) others ≡ take (4 + n + j) rest = ap (λ (l : List ℕ). drop 1 l) all in
    let number : take 4 others ≡ take 4 rest = shorter 4 (4 + n + j) others rest (omega arith) tails in
    let named : n ≡ body_length others = sym (ap (λ (l : List ℕ). from_be_bytes w32 l) number) in
    let long : 5 + n ≤ length others = omega (arith, inside, count) in
    let whole : is_block at others ≡ true = block_same at rest others n refl block.1 number long in
    let is_open : (y == 1) ≡ true = ap (λ (i : ℕ). i == 1) heads ∙ block.0 in
    let body : take n (drop 4 others) ≡ take n (drop 4 rest) = behind 4 n others rest (shorter (4 + n) (4 + n + j) others rest (omega arith) tails) in
    let rest_good : parse_from fuel (at + 5 + n) (drop (4 + n) rest) ≡ Good inner.0 (at + 5 + n + j) = inner.1 ∙ ap (λ (i : ℕ). Good inner.0 i) (omega (arith, count)) in
    let rest_same : parse_from other_fuel (at + 5 + n) (drop (4 + n) others) ≡ Good inner.0 (at + 5 + n + j) =
    agree fuel other_fuel (at + 5 + n) j (drop (4 + n) rest) (drop (4 + n) others) inner.0 rest_good
    (omega (arith, enough, length-drop (4 + n) others)) (omega (arith, inside, count, length-drop (4 + n) others)) (behind (4 + n) j others rest tails)
    (λ is. closed (ap (λ (i : ℕ). get_or (y ∷ others) i 0) count ∙ sym (get_or-drop (4 + n) others j 0) ∙ is)) in
    opens_as other_fuel at y others inner.0 (at + 5 + n + j) n named is_open whole rest_same
    ∙ ap (λ (l : List ℕ). Good (l ∷ inner.0) (at + 5 + n + j)) body ∙ ap (λ (l : List (List ℕ)). Good l (at + 5 + n + j)) (sym inner.2) ∙ ap (λ (i : ℕ). Good bs i) (omega (arith, count)))
    (step fuel at gate rest bs (at + k) good)
