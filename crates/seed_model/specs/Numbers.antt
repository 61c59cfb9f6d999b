-- How numbers are spelled: in decimal, each in one way.
use Rattle.std.specs.Prelude.{◌≡◌, ℕ, ◌<◌, ◌≤◌, ◌^◌, ◌↔◌, List, All, true, length, slice_index}
use Rattle.std.specs.Fmt.{decimal}
use Rattle.std.specs.Str.{all_ascii_digits}

-- one ASCII digit or more, and no leading 0 but that of 0 itself
pub record IsNumeral (text : List ℕ) : Type 0 where
  pub some : 0 < length text
  pub digits : all_ascii_digits text ≡ true
  pub leading : slice_index text 0 ≡ 48 → length text ≡ 1

-- no two numbers are spelled alike
abbrev pub SpelledApart : Type 0
SpelledApart = (m n : ℕ) → m < 2 ^ 128 → n < 2 ^ 128 → decimal m ≡ decimal n → m ≡ n

-- the texts of numbers are the numerals, up to the 64 digits that std spells
abbrev pub SpelledByNumerals : Type 0
SpelledByNumerals = (text : List ℕ) → ((n : ℕ) × (n < 10 ^ 64) × (text ≡ decimal n)) ↔ (IsNumeral text × (length text ≤ 64))

-- no space and no line feed is in the text of a number, nor any other byte up to 32
abbrev pub SpelledAboveSpaces : Type 0
SpelledAboveSpaces = (n : ℕ) → n < 10 ^ 64 → All (λ byte. 32 < byte) (decimal n)
