-- Amounts: bytes, or percents of a total.
use Rattle.std.specs.Prelude.{◌≡◌, ℕ, ◌*◌, ◌/◌, ◌≤◌, List, ◌++◌, codes}
use Rattle.std.specs.Fmt.{decimal}
use Rattle.seed_model.specs.declared.limits.TheConstants.{MOST_BYTES}
use Rattle.goseed_words.specs.declared.amount.Amount.{Amount}
use Rattle.goseed_words.specs.declared.amount.Amount.TheVariants.{Bytes, Percent}

-- the word spells the amount: digits, and `%` behind those of percents
abbrev pub SpellsAmount : List ℕ → Amount → Type 0
SpellsAmount word (Bytes n) = (word ≡ decimal n) × (n ≤ MOST_BYTES)
SpellsAmount word (Percent k) = (word ≡ decimal k ++ codes "%") × (k ≤ 100)

-- the digits alone are those of percents, or of bytes
abbrev pub IsPercentOf : List ℕ → Amount → Type 0
IsPercentOf digits (Bytes n) = ⊥
IsPercentOf digits (Percent k) = (digits ≡ decimal k) × (k ≤ 100)

abbrev pub IsBytesOf : List ℕ → Amount → Type 0
IsBytesOf digits (Bytes n) = (digits ≡ decimal n) × (n ≤ MOST_BYTES)
IsBytesOf digits (Percent k) = ⊥

-- the amounts that words spell
abbrev pub IsAmount : Amount → Type 0
IsAmount (Bytes n) = n ≤ MOST_BYTES
IsAmount (Percent k) = k ≤ 100

-- the bytes that an amount means, of a total
abbrev pub amount_in : ℕ → Amount → ℕ
amount_in total (Bytes n) = n
amount_in total (Percent k) = total * k / 100
