-- Words that may be the text of a set of files; which of them are sets of its files, a recipe tells.
use Rattle.std.specs.Prelude.{◌≡◌, ◌⊎◌, ℕ, ◌%◌, ◌≤◌, List, Bool, length, codes}
use Rattle.std.specs.List.{All}
use Rattle.seed_text.specs.SetTexts.{set_text}

-- a digit of lower-case hex: `0` to `9`, or `a` to `f`
abbrev pub IsHexDigit : ℕ → Type 0
IsHexDigit digit = ((48 ≤ digit) × (digit ≤ 57)) ⊎ ((97 ≤ digit) × (digit ≤ 102))

-- pairs of digits of lower-case hex, from 1 pair to 2,048
pub record IsHexPairs (word : List ℕ) : Type 0 where
  pub least : 2 ≤ length word
  pub most : length word ≤ 4096
  pub even : length word % 2 ≡ 0
  pub digits : All IsHexDigit word

-- the text of a set may be this: `-`, that of the one set of no files, or pairs of hex digits
abbrev pub IsSetWord : List ℕ → Type 0
IsSetWord word = (word ≡ codes "-") ⊎ IsHexPairs word

-- so is the text of each set, up to 16,384 files
abbrev pub TextsAreSetWords : Type 0
TextsAreSetWords = (set : List Bool) → length set ≤ 16384 → IsSetWord (set_text set)
