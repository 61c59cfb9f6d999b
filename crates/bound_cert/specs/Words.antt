-- Texts as words with one space between.
use Rattle.std.specs.Prelude.{ℕ, ◌<◌, ◌==◌, List, [], Bool, Option, Some, None}
use Rattle.std.specs.List.{slice_split, join_with_byte, AllByRecursion}
use denote.Ref.{Bor}

abbrev pub is_space : ℕ → Bool
is_space byte = byte == 32

-- the words of a text, which is cut at each space
abbrev pub words : List ℕ → List (List ℕ)
words text = slice_split is_space text

-- the words of what is left of a text; none where nothing is left
abbrev pub rest_words : Option (Bor (List ℕ)) → List (List ℕ)
rest_words None = []
rest_words (Some text) = words text.now

-- the words with a space between
abbrev pub joined : List (List ℕ) → List ℕ
joined ws = join_with_byte 32 ws

-- each byte is above a space
abbrev pub IsWord : List ℕ → Type 0
IsWord word = AllByRecursion (λ byte. 32 < byte) word
