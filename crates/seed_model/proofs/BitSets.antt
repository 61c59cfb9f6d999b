-- Lists of bits, packed in words.
use Rattle.std.specs.Prelude.{◌==◌, not, if◌then◌else◌}
use Rattle.std.specs.Bool.{beq}
use Rattle.std.proofs.Common.{◌≡◌, ◌≢◌, ◌∙◌, ◌+◌, ◌/◌, ◌%◌, ◌*◌, ◌<◌, ◌≤◌, ◌∷◌, [], ℕ, zero, suc, List, Bool, true, false, refl, sym, ap, length, get_or, arith, inl, inr, replicate, add-zero}
use Rattle.std.proofs.Math.ListN.{set}
use Rattle.std.specs.Int.{bit_at}
use Rattle.std.proofs.lemmas.List.{get_or-set_same, get_or-set_other, length-set}
use Rattle.std.proofs.lemmas.Bool.{cases_Bool, cases_lt, eqb-true}
use Rattle.std.proofs.lemmas.Bool.Decides.{nat_tests}
use Rattle.std.proofs.lemmas.Nat.Bits.{bit_at-lt, bit_at-zero, bit_at_and}
use Rattle.std.proofs.lemmas.Grind.{get_or_default_zero}
use Rattle.std.proofs.lemmas.Nat.{and_mask}
use Rattle.std.specs.Prelude.{bit_and, ◌^◌}
use Rattle.seed_model.specs.Bits.{bits_from, bits_of, has_bit, HasWords}

pub length-bits_from : (words : List ℕ) (f n : ℕ) → length (bits_from words f n) ≡ n
length-bits_from words f zero = refl
length-bits_from words f (suc n) = ap suc (length-bits_from words (f + 1) n)

pub get-bits_from : (words : List ℕ) (f n i : ℕ) → i < n → get_or (bits_from words f n) i false ≡ has_bit words (f + i)
get-bits_from words f zero i lt = absurd (omega arith)
get-bits_from words f (suc n) zero lt = rw add-zero refl
get-bits_from words f (suc n) (suc i) lt =
    let at : f + suc i ≡ f + 1 + i = omega arith in
    rw at (get-bits_from words (f + 1) n i (omega arith))

-- lists with the same items at each place
pub same_items : (xs ys : List Bool) → length xs ≡ length ys → ((i : ℕ) → i < length xs → get_or xs i false ≡ get_or ys i false) → xs ≡ ys
same_items [] [] len at = refl
same_items [] (y ∷ ys) len at = absurd (omega (arith, len))
same_items (x ∷ xs) [] len at = absurd (omega (arith, len))
same_items (x ∷ xs) (y ∷ ys) len at =
    let head : x ≡ y = at 0 (omega arith) in
    let tail = same_items xs ys (omega (arith, len)) (λ i lt. at (suc i) (omega arith)) in
    cc

-- a word that differs at one bit
pub bits_of-set : (n : ℕ) (words : List ℕ) (f y : ℕ) (b : Bool) → f < n → HasWords n words → (bit_at y (f % 64) == 1) ≡ b
    → ((i : ℕ) → i < 64 → i ≢ f % 64 → bit_at y i ≡ bit_at (get_or words (f / 64) 0) i)
    → bits_of n (set words (f / 64) y) ≡ set (bits_of n words) f b
bits_of-set n words f y b within room here others =
    let word : f / 64 < length words = omega (arith, room) in
    let len = length-bits_from (set words (f / 64) y) 0 n in
    let len_old = length-bits_from words 0 n in
    let place : f < length (bits_of n words) = omega (arith, len_old) in
    same_items _ _ (len ∙ (sym len_old ∙ sym (length-set (bits_of n words) f b))) (λ i lt.
    let below : i < n = omega (arith, len) in
    let at : 0 + i ≡ i = omega arith in
    rw (get-bits_from (set words (f / 64) y) 0 n i below, at) (elim (cases_Bool (i == f)) [
      | inl t ↦ rw (eqb-true i f t, get_or-set_same words (f / 64) y 0 word, get_or-set_same (bits_of n words) f b false place) here
      | inr e ↦
          let ne : i ≢ f = λ q. grind (arith, nat_tests, e, q) in
          rw (get_or-set_other (bits_of n words) f i b false ne, get-bits_from words 0 n i below, at) (elim (cases_Bool (i / 64 == f / 64)) [
            | inl t ↦
                let q = eqb-true (i / 64) (f / 64) t in
                let bit : i % 64 ≢ f % 64 = λ r. ne (omega (arith, q, r)) in
                rw (q, get_or-set_same words (f / 64) y 0 word, others (i % 64) (omega arith) bit) refl
            | inr u ↦
                let apart : i / 64 ≢ f / 64 = λ q. grind (arith, nat_tests, u, q) in
                rw (get_or-set_other words (f / 64) (i / 64) y 0 apart) refl
          ])
    ]))

get_or-zeros : (k j : ℕ) → ◌≡◌ {A = ℕ} (get_or (replicate k 0) j 0) 0
get_or-zeros zero j = refl
get_or-zeros (suc k) zero = refl
get_or-zeros (suc k) (suc j) = get_or-zeros k j

-- no bit
pub bits_from-zeros : (k f n : ℕ) → bits_from (replicate k 0) f n ≡ replicate n false
bits_from-zeros k f zero = refl
bits_from-zeros k f (suc n) =
    let bit : has_bit (replicate k 0) f ≡ false = rw (get_or-zeros k (f / 64), bit_at-zero (f % 64)) refl in
    rw (bit, bits_from-zeros k (f + 1) n) refl

-- the word read
pub item_at : (words : List ℕ) (k x : ℕ) → k < length words → x ≡ get_or words k x → x ≡ get_or words k 0
item_at words k x lt e = e ∙ get_or_default_zero words k x lt

pub tested : (words : List ℕ) (f x : ℕ) → f / 64 < length words → x ≡ get_or words (f / 64) x → (bit_and (x / 2 ^ (f % 64)) 1 == 1) ≡ has_bit words f
tested words f x lt e = let low : bit_and (x / 2 ^ (f % 64)) 1 ≡ x / 2 ^ (f % 64) % 2 = and_mask (x / 2 ^ (f % 64)) 1 in
    rw (low, ← item_at words (f / 64) x lt e) refl

pub get-bits_of : (n : ℕ) (words : List ℕ) (f : ℕ) → f < n → get_or (bits_of n words) f false ≡ has_bit words f
get-bits_of n words f lt =
    let at : 0 + f ≡ f = omega arith in
    rw at at (get-bits_from words 0 n f lt)

-- how many files there are, and that each has its bit in a word
pub length-set_of : (xs : List Bool) (n : ℕ) (words : List ℕ) → bits_of n words ≡ xs → length xs ≡ n
length-set_of xs n words is = ap length (sym is) ∙ length-bits_from words 0 n

pub word_of : (xs : List Bool) (n : ℕ) (words : List ℕ) (f : ℕ) → bits_of n words ≡ xs → HasWords n words → f < length xs → (f < n) × (f / 64 < length words)
word_of xs n words f is room lt =
    let below : f < n = omega (arith, lt, length-set_of xs n words is) in (below, omega (arith, room, below))

-- a file's bit is read
pub bit_read : (xs : List Bool) (n : ℕ) (words : List ℕ) (f x : ℕ) → bits_of n words ≡ xs → HasWords n words → f < length xs → x ≡ get_or words (f / 64) x
    → (bit_and (x / 2 ^ (f % 64)) 1 == 1) ≡ get_or xs f false
bit_read xs n words f x is room lt read =
    let place = word_of xs n words f is room lt in
    tested words f x place.1 read ∙ rw (← is) (sym (get-bits_of n words f place.0))

-- a file's bit is written
pub bit_written : (xs : List Bool) (n : ℕ) (words : List ℕ) (f x y : ℕ) (b : Bool) → bits_of n words ≡ xs → HasWords n words → f < length xs → x ≡ get_or words (f / 64) x
    → (bit_at y (f % 64) == 1) ≡ b → ((i : ℕ) → i < 64 → i ≢ f % 64 → bit_at y i ≡ bit_at x i) → bits_of n (set words (f / 64) y) ≡ set xs f b
bit_written xs n words f x y b is room lt read here others =
    let place = word_of xs n words f is room lt in
    let item = item_at words (f / 64) x place.1 read in
    rw (← is) (bits_of-set n words f y b place.0 room here (λ i below ne. others i below ne ∙ ap (λ (v : ℕ). bit_at v i) item))

-- past the end no file is in a set
pub past_end : (xs : List Bool) (i : ℕ) → length xs ≤ i → get_or xs i false ≡ false
past_end [] i h = refl
past_end (x ∷ xs) zero h = absurd (omega arith)
past_end (x ∷ xs) (suc i) h = past_end xs i (omega arith)

-- sets with one word have the same of its files
pub word-agrees : (n m : ℕ) (words others : List ℕ) (word x y : ℕ) → n ≡ m → word < length words → word < length others → x ≡ get_or words word x → y ≡ get_or others word y → x ≡ y
    → (file : ℕ) → 64 * word ≤ file → file < 64 * word + 64 → get_or (bits_of n words) file false ≡ get_or (bits_of m others) file false
word-agrees n m words others word x y count lt lt2 read read2 same file low high = elim (cases_lt file n) [
  | inl below ↦
      let at : file / 64 ≡ word = omega arith in
      let one : get_or words (file / 64) 0 ≡ x = ap (λ (k : ℕ). get_or words k 0) at ∙ sym (item_at words word x lt read) in
      let two : y ≡ get_or others (file / 64) 0 = item_at others word y lt2 read2 ∙ ap (λ (k : ℕ). get_or others k 0) (sym at) in
      let bit : has_bit words file ≡ has_bit others file = ap (λ (w : ℕ). bit_at w (file % 64) == 1) (one ∙ (same ∙ two)) in
      get-bits_of n words file below ∙ (bit ∙ sym (get-bits_of m others file (omega (arith, below, count))))
  | inr past ↦
      past_end (bits_of n words) file (omega (arith, past, length-bits_from words 0 n)) ∙ sym (past_end (bits_of m others) file (omega (arith, past, count, length-bits_from others 0 m)))
]

-- the bit of a file in the word that was read
word-bit : (n : ℕ) (words : List ℕ) (word x file : ℕ) → file < n → word < length words → x ≡ get_or words word x → 64 * word ≤ file → file < 64 * word + 64
    → get_or (bits_of n words) file false ≡ (bit_at x (file % 64) == 1)
word-bit n words word x file below lt read low high =
    let at : file / 64 ≡ word = omega arith in
    let item : get_or words (file / 64) 0 ≡ x = ap (λ (k : ℕ). get_or words k 0) at ∙ sym (item_at words word x lt read) in
    get-bits_of n words file below ∙ ap (λ (w : ℕ). bit_at w (file % 64) == 1) item

-- where one word has a bit, the other has none, or has one too
other-bit : (x y i : ℕ) (inside : Bool) → bit_and x y ≡ (if inside then 0 else x) → bit_at x i ≡ 1 → (bit_at y i == 1) ≡ not inside
other-bit x y i true clear one =
    let none : bit_at y i ≡ 0 = omega (arith, bit_at_and x y i, ap (λ (v : ℕ). bit_at v i) clear, bit_at-zero i, one) in
    rw none refl
other-bit x y i false clear one =
    let some : bit_at y i ≡ 1 = omega (arith, bit_at_and x y i, ap (λ (v : ℕ). bit_at v i) clear, bit_at-lt y i, one) in
    rw some refl

-- words without a common bit, or with none that the other lacks
pub word-clears : (n m : ℕ) (words others : List ℕ) (word x y : ℕ) (inside : Bool) → n ≡ m → word < length words → word < length others → x ≡ get_or words word x → y ≡ get_or others word y
    → bit_and x y ≡ (if inside then 0 else x)
    → (file : ℕ) → 64 * word ≤ file → file < 64 * word + 64 → get_or (bits_of n words) file false ≡ true → get_or (bits_of m others) file false ≡ not inside
word-clears n m words others word x y inside count lt lt2 read read2 clear file low high has = elim (cases_lt file n) [
  | inl below ↦
      let one : bit_at x (file % 64) ≡ 1 = eqb-true (bit_at x (file % 64)) 1 (sym (word-bit n words word x file below lt read low high) ∙ has) in
      word-bit m others word y file (omega (arith, below, count)) lt2 read2 low high ∙ other-bit x y (file % 64) inside clear one
  | inr past ↦
      let none : false ≡ true = sym (past_end (bits_of n words) file (omega (arith, past, length-bits_from words 0 n))) ∙ has in
      cc
]

-- flags that a test tells apart
pub told_apart : (p q a b : Bool) → p ≡ a → q ≡ b → not (beq p q) ≡ true → a ≢ b
told_apart true true a b e f t = cc t
told_apart false false a b e f t = cc t
told_apart true false a b e f t = λ same. cc (e, f, same)
told_apart false true a b e f t = λ same. cc (e, f, same)
