-- The first line of a text.
use Rattle.std.specs.Prelude.{◌≡◌, ℕ, ◌+◌, List, [], ◌∷◌, length, false, Some, if◌then◌else◌}
use Rattle.seed_io.specs.Lines.{LineText, is_last, line_size, lines_of}

-- a text's first line, and what stands behind it where it is whole; else it is the last
pub record FirstLine (text : List ℕ) (line : LineText) (rest : List ℕ) : Type 0 where
  pub lines_are : lines_of text ≡ line ∷ (if is_last (Some line) then [] else lines_of rest)
  pub size : is_last (Some line) ≡ false → length text ≡ line_size (Some line) + length rest
