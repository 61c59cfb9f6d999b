-- Lines of text. Each line ends with a line feed.
use Rattle.std.specs.Prelude.{ℕ, List, [], ◌∷◌, ◌++◌}
use Rattle.std.specs.List.{flat_map, enumerate_from}
use Rattle.std.specs.Fmt.{decimal}

-- words with a line feed behind them
abbrev pub line : List ℕ → List ℕ
line words = words ++ 10 ∷ []

-- numbers, with a space before each
abbrev pub spaced : List ℕ → List ℕ
spaced numbers = flat_map (λ n. 32 ∷ decimal n) numbers

-- a line of a word and numbers
abbrev pub numbers_line : List ℕ → List ℕ → List ℕ
numbers_line word numbers = line (word ++ spaced numbers)

-- a line of a word and a number
abbrev pub number_line : List ℕ → ℕ → List ℕ
number_line word n = numbers_line word (n ∷ [])

-- the lines of a list's items, each told by its number and itself
abbrev pub lines_of : {X : Type 0} → (ℕ × X → List ℕ) → List X → List ℕ
lines_of line_of items = flat_map line_of (enumerate_from 0 items)
