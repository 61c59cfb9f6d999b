-- The text of a set is the word of one.
use Rattle.std.specs.Prelude.{◌==◌, if◌then◌else◌}
use Rattle.std.proofs.Common.{◌≡◌, ◌+◌, ◌*◌, ◌/◌, ◌%◌, ◌<◌, ◌≤◌, ◌∷◌, [], ℕ, suc, List, Bool, true, false, refl, length, get_or, inl, inr, arith}
use Rattle.std.specs.List.{All}
use Rattle.std.proofs.lemmas.Bool.Decides.{nat_tests}
use Rattle.std.proofs.lemmas.List.Elements.{All-nil, All-cons}
use Rattle.std.proofs.lemmas.List.FromFn.{get_or-map-range_with_len}
use Rattle.hex.specs.Hex.{encode_lower, encode_with, lower_digits}
use Rattle.hex.proofs.HexLemmas.{length-encode_with}
use Rattle.seed_model.specs.Files.{holds}
use Rattle.seed_text.specs.SetTexts.{set_byte, set_bytes, set_text, byte_count}
use Rattle.seed_text.specs.SetWords.{IsHexDigit, IsHexPairs, IsSetWord}
use Rattle.seed_text.proofs.SetBits.{length-set_bytes}

at_most : (b : Bool) (w : ℕ) → (if b then w else 0) ≤ w
at_most true w = omega arith
at_most false w = omega arith

-- a byte of a set is a byte
byte_small : (s : List Bool) (j : ℕ) → set_byte s j < 256
byte_small s j =
    let w0 = at_most (holds s (8 * j + 0)) 128 in
    let w1 = at_most (holds s (8 * j + 1)) 64 in
    let w2 = at_most (holds s (8 * j + 2)) 32 in
    let w3 = at_most (holds s (8 * j + 3)) 16 in
    let w4 = at_most (holds s (8 * j + 4)) 8 in
    let w5 = at_most (holds s (8 * j + 5)) 4 in
    let w6 = at_most (holds s (8 * j + 6)) 2 in
    let w7 = at_most (holds s (8 * j + 7)) 1 in
    omega (arith, w0, w1, w2, w3, w4, w5, w6, w7)

bytes_small : (s : List Bool) → All (λ byte. byte < 256) (set_bytes s)
bytes_small s k d lt =
    let inside : k < byte_count (length s) = omega (arith, lt, length-set_bytes s) in
    let at = get_or-map-range_with_len (set_byte s) 0 (byte_count (length s)) k k d inside (omega arith) in
    rw at (byte_small s k)

-- the digits of the table
low : (d : ℕ) → 48 ≤ d → d ≤ 57 → IsHexDigit d
low d least most = inl (least, most)

high : (d : ℕ) → 97 ≤ d → d ≤ 102 → IsHexDigit d
high d least most = inr (least, most)

abbrev AreHexDigits : List ℕ → Type 0
AreHexDigits [] = Unit {0}
AreHexDigits (d ∷ ds) = IsHexDigit d × AreHexDigits ds

all_digits : (ds : List ℕ) → AreHexDigits ds → All IsHexDigit ds
all_digits [] are = All-nil IsHexDigit
all_digits (d ∷ ds) are = All-cons IsHexDigit d ds are.0 (all_digits ds are.1)

table : All IsHexDigit lower_digits
table = all_digits lower_digits
    (low 48 (omega arith) (omega arith), (low 49 (omega arith) (omega arith), (low 50 (omega arith) (omega arith), (low 51 (omega arith) (omega arith), (low 52 (omega arith) (omega arith), (low 53 (omega arith) (omega arith), (low 54 (omega arith) (omega arith), (low 55 (omega arith) (omega arith), (low 56 (omega arith) (omega arith), (low 57 (omega arith) (omega arith), (high 97 (omega arith) (omega arith), (high 98 (omega arith) (omega arith), (high 99 (omega arith) (omega arith), (high 100 (omega arith) (omega arith), (high 101 (omega arith) (omega arith), (high 102 (omega arith) (omega arith), tt))))))))))))))))

digit : (d : ℕ) → d < 16 → IsHexDigit (get_or lower_digits d 0)
digit d below = let sixteen : length lower_digits ≡ 16 = refl in table d 0 (omega (arith, below, sixteen))

digits : (bytes : List ℕ) → All (λ byte. byte < 256) bytes → All IsHexDigit (encode_lower bytes)
unfolding encode_with
digits [] small = All-nil IsHexDigit
digits (b ∷ bytes) small =
    let byte : b < 256 = small 0 0 (omega arith) in
    All-cons IsHexDigit (get_or lower_digits (b / 16) 0) (get_or lower_digits (b % 16) 0 ∷ encode_lower bytes) (digit (b / 16) (omega arith))
    (All-cons IsHexDigit (get_or lower_digits (b % 16) 0) (encode_lower bytes) (digit (b % 16) (omega arith)) (digits bytes (λ k d lt. small (suc k) d (omega (arith, lt)))))

hex_pairs : (set : List Bool) → 0 < length set → length set ≤ 16384 → IsHexPairs (encode_lower (set_bytes set))
hex_pairs set some most =
    let bytes = length-set_bytes set in
    let long = length-encode_with lower_digits (set_bytes set) in
    record { least = omega (arith, bytes, long, some); most = omega (arith, bytes, long, most); even = omega (arith, long); digits = digits (set_bytes set) (bytes_small set) }

pub set_word : (set : List Bool) → length set ≤ 16384 → IsSetWord (set_text set)
set_word [] most = inl refl
set_word (b ∷ set) most =
    let some : (length (b ∷ set) == 0) ≡ false = grind (arith, nat_tests) in
    rw some (inr (hex_pairs (b ∷ set) (omega arith) most))
