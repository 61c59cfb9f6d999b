-- The bits of the bytes of a set.
use Rattle.std.specs.Prelude.{◌==◌, if◌then◌else◌}
use Rattle.std.proofs.Common.{◌≡◌, ◌∙◌, ◌+◌, ◌-◌, ◌*◌, ◌/◌, ◌%◌, ◌^◌, ◌<◌, ◌≤◌, ◌∷◌, [], ℕ, zero, suc, List, Bool, true, false, refl, sym, ap, length, get_or, inl, inr, arith, Ok}
use Rattle.std.proofs.lemmas.List.{ext_get_or}
use Rattle.std.proofs.lemmas.List.FromFn.{get_or-map-range_with_len, length-map-range_with_len}
use Rattle.std.proofs.lemmas.Bool.{cases_lt}
use Rattle.std.proofs.lemmas.Bool.Decides.{nat_tests}
use Rattle.hex.specs.Hex.{IsBytes, encode_lower, decode_of}
use Rattle.hex.proofs.HexLemmas.{decode_of-encode_lower, decode_of-same}
use Rattle.seed_model.specs.Files.{holds}
use Rattle.seed_text.specs.SetTexts.{set_byte, set_bytes, set_text, byte_count, has_file}

-- a bit as a number
abbrev pub bit : Bool → ℕ
bit true = 1
bit false = 0

weigh : (b : Bool) (w : ℕ) → (if b then w else 0) ≡ w * bit b
weigh true w = omega arith
weigh false w = omega arith

bit-le : (b : Bool) → bit b ≤ 1
bit-le true = omega arith
bit-le false = omega arith

bit-test : (b : Bool) (n : ℕ) → n ≡ bit b → (n == 1) ≡ b
bit-test true n e = rw e refl
bit-test false n e = rw e refl

-- eight bits as a number
abbrev eight : (ℕ → Bool) → ℕ
eight h = 128 * bit (h 0) + 64 * bit (h 1) + 32 * bit (h 2) + 16 * bit (h 3) + 8 * bit (h 4) + 4 * bit (h 5) + 2 * bit (h 6) + bit (h 7)

-- no bit is more than 1
record AreBits (h : ℕ → Bool) : Type 0 where
  b0 : bit (h 0) ≤ 1
  b1 : bit (h 1) ≤ 1
  b2 : bit (h 2) ≤ 1
  b3 : bit (h 3) ≤ 1
  b4 : bit (h 4) ≤ 1
  b5 : bit (h 5) ≤ 1
  b6 : bit (h 6) ≤ 1
  b7 : bit (h 7) ≤ 1

are_bits : (h : ℕ → Bool) → AreBits h
are_bits h = record {
  b0 = bit-le (h 0);
  b1 = bit-le (h 1);
  b2 = bit-le (h 2);
  b3 = bit-le (h 3);
  b4 = bit-le (h 4);
  b5 = bit-le (h 5);
  b6 = bit-le (h 6);
  b7 = bit-le (h 7);
}

-- eight numbers of at most 1, as digits, are told by division
record Digits (n d0 d1 d2 d3 d4 d5 d6 d7 : ℕ) : Type 0 where
  e0 : n / 2 ^ 7 % 2 ≡ d0
  e1 : n / 2 ^ 6 % 2 ≡ d1
  e2 : n / 2 ^ 5 % 2 ≡ d2
  e3 : n / 2 ^ 4 % 2 ≡ d3
  e4 : n / 2 ^ 3 % 2 ≡ d4
  e5 : n / 2 ^ 2 % 2 ≡ d5
  e6 : n / 2 ^ 1 % 2 ≡ d6
  e7 : n / 2 ^ 0 % 2 ≡ d7

digits : (d0 d1 d2 d3 d4 d5 d6 d7 n : ℕ) → d0 ≤ 1 → d1 ≤ 1 → d2 ≤ 1 → d3 ≤ 1 → d4 ≤ 1 → d5 ≤ 1 → d6 ≤ 1 → d7 ≤ 1
    → n ≡ 128 * d0 + 64 * d1 + 32 * d2 + 16 * d3 + 8 * d4 + 4 * d5 + 2 * d6 + d7 → Digits n d0 d1 d2 d3 d4 d5 d6 d7
digits d0 d1 d2 d3 d4 d5 d6 d7 n h0 h1 h2 h3 h4 h5 h6 h7 e = record {
  e0 = omega arith;
  e1 = omega arith;
  e2 = omega arith;
  e3 = omega arith;
  e4 = omega arith;
  e5 = omega arith;
  e6 = omega arith;
  e7 = omega arith;
}

byte_digits : (h : ℕ → Bool) (n : ℕ) → n ≡ eight h → Digits n (bit (h 0)) (bit (h 1)) (bit (h 2)) (bit (h 3)) (bit (h 4)) (bit (h 5)) (bit (h 6)) (bit (h 7))
byte_digits h n e =
    let b = are_bits h in
    digits (bit (h 0)) (bit (h 1)) (bit (h 2)) (bit (h 3)) (bit (h 4)) (bit (h 5)) (bit (h 6)) (bit (h 7)) n b.b0 b.b1 b.b2 b.b3 b.b4 b.b5 b.b6 b.b7 e

-- a byte of a set, as eight bits
byte_is : (s : List Bool) (j : ℕ) → set_byte s j ≡ eight (λ i. holds s (8 * j + i))
byte_is s j =
    let w0 = weigh (holds s (8 * j + 0)) 128 in
    let w1 = weigh (holds s (8 * j + 1)) 64 in
    let w2 = weigh (holds s (8 * j + 2)) 32 in
    let w3 = weigh (holds s (8 * j + 3)) 16 in
    let w4 = weigh (holds s (8 * j + 4)) 8 in
    let w5 = weigh (holds s (8 * j + 5)) 4 in
    let w6 = weigh (holds s (8 * j + 6)) 2 in
    let w7 = weigh (holds s (8 * j + 7)) 1 in
    omega (arith, w0, w1, w2, w3, w4, w5, w6, w7)

-- a byte of a set is a byte
byte_small : (s : List Bool) (j : ℕ) → set_byte s j < 256
byte_small s j =
    let b = are_bits (λ i. holds s (8 * j + i)) in
    omega (arith, byte_is s j, b.b0, b.b1, b.b2, b.b3, b.b4, b.b5, b.b6, b.b7)

-- a bit of a byte of a set
byte_bit : (s : List Bool) (j i : ℕ) → i < 8 → (set_byte s j / 2 ^ (7 - i) % 2 == 1) ≡ holds s (8 * j + i)
byte_bit s j zero lt = bit-test (holds s (8 * j + 0)) (set_byte s j / 2 ^ 7 % 2) (byte_digits (λ i. holds s (8 * j + i)) (set_byte s j) (byte_is s j)).e0
byte_bit s j (suc zero) lt = bit-test (holds s (8 * j + 1)) (set_byte s j / 2 ^ 6 % 2) (byte_digits (λ i. holds s (8 * j + i)) (set_byte s j) (byte_is s j)).e1
byte_bit s j (suc (suc zero)) lt = bit-test (holds s (8 * j + 2)) (set_byte s j / 2 ^ 5 % 2) (byte_digits (λ i. holds s (8 * j + i)) (set_byte s j) (byte_is s j)).e2
byte_bit s j (suc (suc (suc zero))) lt = bit-test (holds s (8 * j + 3)) (set_byte s j / 2 ^ 4 % 2) (byte_digits (λ i. holds s (8 * j + i)) (set_byte s j) (byte_is s j)).e3
byte_bit s j (suc (suc (suc (suc zero)))) lt = bit-test (holds s (8 * j + 4)) (set_byte s j / 2 ^ 3 % 2) (byte_digits (λ i. holds s (8 * j + i)) (set_byte s j) (byte_is s j)).e4
byte_bit s j (suc (suc (suc (suc (suc zero))))) lt = bit-test (holds s (8 * j + 5)) (set_byte s j / 2 ^ 2 % 2) (byte_digits (λ i. holds s (8 * j + i)) (set_byte s j) (byte_is s j)).e5
byte_bit s j (suc (suc (suc (suc (suc (suc zero)))))) lt = bit-test (holds s (8 * j + 6)) (set_byte s j / 2 ^ 1 % 2) (byte_digits (λ i. holds s (8 * j + i)) (set_byte s j) (byte_is s j)).e6
byte_bit s j (suc (suc (suc (suc (suc (suc (suc zero))))))) lt = bit-test (holds s (8 * j + 7)) (set_byte s j / 2 ^ 0 % 2) (byte_digits (λ i. holds s (8 * j + i)) (set_byte s j) (byte_is s j)).e7
byte_bit s j (suc (suc (suc (suc (suc (suc (suc (suc i)))))))) lt = absurd (omega arith)

-- the byte of a set at a place
pub byte_at : (s : List Bool) (j : ℕ) → j < byte_count (length s) → get_or (set_bytes s) j 0 ≡ set_byte s j
byte_at s j lt = get_or-map-range_with_len (set_byte s) 0 (byte_count (length s)) j j 0 lt (omega arith)

pub length-set_bytes : (s : List Bool) → length (set_bytes s) ≡ byte_count (length s)
length-set_bytes s = length-map-range_with_len (set_byte s) 0 (byte_count (length s))

-- the bytes of a set tell its files
pub bytes_tell : (s : List Bool) (f : ℕ) → f < length s → has_file (set_bytes s) f ≡ holds s f
bytes_tell s f lt =
    let place : f / 8 < byte_count (length s) = omega arith in
    let at = byte_at s (f / 8) place in
    let low : f % 8 < 8 = omega arith in
    let same : 8 * (f / 8) + f % 8 ≡ f = omega arith in
    rw at (byte_bit s (f / 8) (f % 8) low ∙ ap (holds s) same)

-- past its end a list has the default
past_end : (xs : List ℕ) (i : ℕ) → length xs ≤ i → get_or xs i 0 ≡ 0
past_end [] i h = refl
past_end (x ∷ xs) zero h = absurd (omega arith)
past_end (x ∷ xs) (suc i) h = past_end xs i (omega arith)

-- the bytes of a set are bytes
pub are_bytes : (s : List Bool) → IsBytes (set_bytes s)
are_bytes s i = elim (cases_lt i (byte_count (length s))) [
  | inl lt ↦ rw (byte_at s i lt) (byte_small s i)
  | inr ge ↦ rw (past_end (set_bytes s) i (omega (arith, length-set_bytes s))) (omega arith)
]

-- sets whose bytes tell the same files are one set
same_told : (a b : List Bool) (bytes : List ℕ) → length a ≡ length b → ((f : ℕ) → f < length a → holds a f ≡ has_file bytes f) → bytes ≡ set_bytes b → a ≡ b
same_told a b bytes len told e = ext_get_or false a b len (λ f lt. told f lt ∙ ap (λ (l : List ℕ). has_file l f) e ∙ bytes_tell b f (omega (arith, len)))

-- the text of a set of some files
pub text_is : (s : List Bool) → 0 < length s → set_text s ≡ encode_lower (set_bytes s)
text_is s h = let some : (length s == 0) ≡ false = grind (arith, nat_tests) in rw some refl

-- the text of a set of some files is hex for its bytes
pub text_decodes : (s : List Bool) → 0 < length s → decode_of (set_text s) ≡ Ok (set_bytes s)
text_decodes s h = rw (text_is s h) (decode_of-encode_lower (set_bytes s) (are_bytes s))

-- one text, one set
pub one_spelling : (a b : List Bool) → length a ≡ length b → set_text a ≡ set_text b → a ≡ b
one_spelling [] [] len e = refl
one_spelling [] (y ∷ b) len e = absurd (omega arith)
one_spelling (x ∷ a) b len e =
    let da = text_decodes (x ∷ a) (omega arith) in
    let db = text_decodes b (omega (arith, len)) in
    same_told (x ∷ a) b (set_bytes (x ∷ a)) len (λ f lt. sym (bytes_tell (x ∷ a) f lt))
    (decode_of-same (set_text (x ∷ a)) (set_bytes (x ∷ a)) (set_bytes b) da (ap decode_of e ∙ db))
