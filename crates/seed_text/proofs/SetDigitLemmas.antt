-- The digits of a set's text.
use Rattle.std.specs.Prelude.{◌↔◌, if◌then◌else◌, IsTrue}
use Rattle.std.proofs.Common.{◌≡◌, ◌∙◌, ◌+◌, ◌*◌, ◌/◌, ◌%◌, ◌<◌, ◌≤◌, ◌∷◌, [], ℕ, zero, suc, List, Bool, true, false, refl, sym, ap, length, map, get_or, inl, inr, arith}
use Rattle.std.specs.List.{range_with_len}
use Rattle.std.proofs.lemmas.List.{ext_get_or}
use Rattle.std.proofs.lemmas.List.FromFn.{get_or-map-range_with_len}
use Rattle.std.proofs.lemmas.Bool.{cases_lt, cases_eq}
use Rattle.std.proofs.lemmas.Bool.Decides.{nat_tests}
use Rattle.hex.specs.Hex.{IsBytes, encode_lower, encode_with, lower_digits}
use Rattle.hex.proofs.HexLemmas.{length-encode_with}
use Rattle.seed_model.specs.Files.{holds}
use Rattle.seed_text.specs.SetDigits.{digit_of, hex_digit}
use Rattle.seed_text.specs.SetTexts.{set_byte, set_bytes, set_text, byte_count}
use Rattle.seed_text.proofs.SetBits.{are_bytes, byte_at, length-set_bytes, text_is}

-- how the digits of hex are spelled
digit : (d : ℕ) → d < 16 → get_or lower_digits d 0 ≡ hex_digit d
digit d lt = let table : lower_digits ≡ map hex_digit (range_with_len 0 16) = refl in ap (λ (t : List ℕ). get_or t d 0) table ∙ get_or-map-range_with_len hex_digit 0 16 d d 0 lt (omega arith)

low_digit : (d : ℕ) → d < 10 → hex_digit d ≡ 48 + d
low_digit d lt = grind (arith, nat_tests)

high_digit : (d : ℕ) → 10 ≤ d → hex_digit d ≡ 87 + d
high_digit d le = grind (arith, nat_tests)

-- no two are spelled alike
pub one_digit : (a b : ℕ) → a < 16 → b < 16 → hex_digit a ≡ hex_digit b → a ≡ b
one_digit a b small small' e = elim (cases_lt a 10) [
  | inl lt ↦ elim (cases_lt b 10) [
    | inl lt' ↦ omega (arith, low_digit a lt, low_digit b lt', e)
    | inr ge' ↦ absurd (omega (arith, low_digit a lt, high_digit b ge', e))
  ]
  | inr ge ↦ elim (cases_lt b 10) [
    | inl lt' ↦ absurd (omega (arith, high_digit a ge, low_digit b lt', e))
    | inr ge' ↦ omega (arith, high_digit a ge, high_digit b ge', e)
  ]
]

-- the digits of bytes
high_half : (bytes : List ℕ) (k j : ℕ) → j ≡ 2 * k → k < length bytes → IsBytes bytes → get_or (encode_lower bytes) j 0 ≡ hex_digit (get_or bytes k 0 / 16)
unfolding encode_with
high_half [] k j e lt small = absurd (omega arith)
high_half (b ∷ bs) zero zero e lt small = let byte : b < 256 = small 0 in digit (b / 16) (omega arith)
high_half (b ∷ bs) zero (suc j) e lt small = absurd (omega arith)
high_half (b ∷ bs) (suc k) zero e lt small = absurd (omega arith)
high_half (b ∷ bs) (suc k) (suc zero) e lt small = absurd (omega arith)
high_half (b ∷ bs) (suc k) (suc (suc j)) e lt small = high_half bs k j (omega arith) (omega arith) (λ i. small (suc i))

low_half : (bytes : List ℕ) (k j : ℕ) → j ≡ 2 * k + 1 → k < length bytes → get_or (encode_lower bytes) j 0 ≡ hex_digit (get_or bytes k 0 % 16)
unfolding encode_with
low_half [] k j e lt = absurd (omega arith)
low_half (b ∷ bs) zero zero e lt = absurd (omega arith)
low_half (b ∷ bs) zero (suc zero) e lt = digit (b % 16) (omega arith)
low_half (b ∷ bs) zero (suc (suc j)) e lt = absurd (omega arith)
low_half (b ∷ bs) (suc k) zero e lt = absurd (omega arith)
low_half (b ∷ bs) (suc k) (suc zero) e lt = absurd (omega arith)
low_half (b ∷ bs) (suc k) (suc (suc j)) e lt = low_half bs k j (omega arith) (omega arith)

at_most : (b : Bool) (w : ℕ) → (if b then w else 0) ≤ w
at_most true w = omega arith
at_most false w = omega arith

pub digit_small : (s : List Bool) (j : ℕ) → digit_of s j < 16
digit_small s j =
    let w0 = at_most (holds s (4 * j + 0)) 8 in
    let w1 = at_most (holds s (4 * j + 1)) 4 in
    let w2 = at_most (holds s (4 * j + 2)) 2 in
    let w3 = at_most (holds s (4 * j + 3)) 1 in
    omega (arith, w0, w1, w2, w3)

high_bit : (b c : Bool) (w : ℕ) → b ≡ c → (if b then 16 * w else 0) ≡ 16 * (if c then w else 0)
high_bit true c w e = rw (← e) refl
high_bit false c w e = rw (← e) refl

low_bit : (b c : Bool) (w : ℕ) → b ≡ c → (if b then w else 0) ≡ (if c then w else 0)
low_bit b c w e = ap (λ (t : Bool). if t then w else 0) e

-- a byte is two digits
two_digits : (s : List Bool) (k : ℕ) → set_byte s k ≡ 16 * digit_of s (2 * k) + digit_of s (2 * k + 1)
two_digits s k =
    let at : (i j : ℕ) → i ≡ j → holds s i ≡ holds s j = λ i j e. ap (holds s) e in
    let h0 = high_bit (holds s (8 * k + 0)) (holds s (4 * (2 * k) + 0)) 8 (at _ _ (omega arith)) in
    let h1 = high_bit (holds s (8 * k + 1)) (holds s (4 * (2 * k) + 1)) 4 (at _ _ (omega arith)) in
    let h2 = high_bit (holds s (8 * k + 2)) (holds s (4 * (2 * k) + 2)) 2 (at _ _ (omega arith)) in
    let h3 = high_bit (holds s (8 * k + 3)) (holds s (4 * (2 * k) + 3)) 1 (at _ _ (omega arith)) in
    let l0 = low_bit (holds s (8 * k + 4)) (holds s (4 * (2 * k + 1) + 0)) 8 (at _ _ (omega arith)) in
    let l1 = low_bit (holds s (8 * k + 5)) (holds s (4 * (2 * k + 1) + 1)) 4 (at _ _ (omega arith)) in
    let l2 = low_bit (holds s (8 * k + 6)) (holds s (4 * (2 * k + 1) + 2)) 2 (at _ _ (omega arith)) in
    let l3 = low_bit (holds s (8 * k + 7)) (holds s (4 * (2 * k + 1) + 3)) 1 (at _ _ (omega arith)) in
    omega (arith, h0, h1, h2, h3, l0, l1, l2, l3)

-- the digits of a text
pub text_length : (s : List Bool) → 0 < length s → length (set_text s) ≡ 2 * byte_count (length s)
text_length s some = rw (text_is s some) (omega (arith, length-encode_with lower_digits (set_bytes s), length-set_bytes s))

pub text_digit : (s : List Bool) (j : ℕ) → 0 < length s → j < 2 * byte_count (length s) → get_or (set_text s) j 0 ≡ hex_digit (digit_of s j)
text_digit s j some lt =
    let k = j / 2 in
    let place : k < byte_count (length s) = omega arith in
    let inside : k < length (set_bytes s) = omega (arith, length-set_bytes s) in
    let byte = byte_at s k place in
    let halves = two_digits s k in
    let small = digit_small s (2 * k + 1) in
    rw (text_is s some) (elim (cases_eq (j % 2) 0) [
      | inl even ↦
          let at : j ≡ 2 * k = omega arith in
          let half : get_or (set_bytes s) k 0 / 16 ≡ digit_of s (2 * k) = omega (arith, byte, halves, small) in
          high_half (set_bytes s) k j at inside (are_bytes s) ∙ ap hex_digit (half ∙ ap (digit_of s) (sym at))
      | inr odd ↦
          let at : j ≡ 2 * k + 1 = omega arith in
          let half : get_or (set_bytes s) k 0 % 16 ≡ digit_of s (2 * k + 1) = omega (arith, byte, halves, small) in
          low_half (set_bytes s) k j at inside ∙ ap hex_digit (half ∙ ap (digit_of s) (sym at))
    ])

-- a text with the digits of a set is the set's
pub from_digits : (text : List ℕ) (s : List Bool) → 0 < length s → length text ≡ 2 * byte_count (length s) → ((j : ℕ) → j < length text → get_or text j 0 ≡ hex_digit (digit_of s j)) → text ≡ set_text s
from_digits text s some len at = ext_get_or 0 text (set_text s) (len ∙ sym (text_length s some)) (λ j lt. at j lt ∙ sym (text_digit s j some (omega (arith, len))))

-- a digit is told by its four files
pub digit_same : (s t : List Bool) (j : ℕ) → ((file : ℕ) → file < 4 * j + 4 → holds s file ≡ holds t file) → digit_of s j ≡ digit_of t j
digit_same s t j same =
    let w0 = low_bit (holds s (4 * j + 0)) (holds t (4 * j + 0)) 8 (same (4 * j + 0) (omega arith)) in
    let w1 = low_bit (holds s (4 * j + 1)) (holds t (4 * j + 1)) 4 (same (4 * j + 1) (omega arith)) in
    let w2 = low_bit (holds s (4 * j + 2)) (holds t (4 * j + 2)) 2 (same (4 * j + 2) (omega arith)) in
    let w3 = low_bit (holds s (4 * j + 3)) (holds t (4 * j + 3)) 1 (same (4 * j + 3) (omega arith)) in
    omega (arith, w0, w1, w2, w3)

-- what stands at a place of a set's text
pub digit_there : (text : List ℕ) (s : List Bool) (files j : ℕ) → 0 < files → length s ≡ files → text ≡ set_text s → j < 2 * byte_count files → get_or text j 0 ≡ hex_digit (digit_of s j)
digit_there text s files j some len e lt = ap (λ (t : List ℕ). get_or t j 0) e ∙ text_digit s j (omega (arith, len)) (omega (arith, len, lt))

pub length_there : (text : List ℕ) (s : List Bool) (files : ℕ) → 0 < files → length s ≡ files → text ≡ set_text s → length text ≡ 2 * byte_count files
length_there text s files some len e = ap length e ∙ (text_length s (omega (arith, len)) ∙ ap (λ (n : ℕ). 2 * byte_count n) len)

-- the one text of no files
pub dash : (s : List Bool) → length s ≡ 0 → set_text s ≡ 45 ∷ []
dash [] e = refl
dash (x ∷ s) e = absurd (omega arith)

-- a text of no set of so many files, and one of a set
pub refused : (text : List ℕ) (files : ℕ) → ((s : List Bool) → length s ≡ files → text ≡ set_text s → ⊥) → IsTrue false ↔ ((s : List Bool) × (length s ≡ files) × (text ≡ set_text s))
refused text files none = (λ h. cc h, λ x. absurd (none x.0 x.1 x.2))

pub taken : (text : List ℕ) (files : ℕ) (s : List Bool) → length s ≡ files → text ≡ set_text s → IsTrue true ↔ ((s : List Bool) × (length s ≡ files) × (text ≡ set_text s))
taken text files s len e = (λ h. (s, len, e), λ x. refl)
