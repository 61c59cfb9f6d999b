-- The lines of a text, and what a reader of them stands for.
use Rattle.std.specs.Prelude.{◌≡◌, ◌==◌, ℕ, ◌+◌, ◌≤◌, nat_lt, List, [], ◌∷◌, ◌++◌, length, drop, All, Bool, true, false, if◌then◌else◌, Option, None, Some, Result, IfOk, OnErr, IsErrOf}
use Rattle.std.specs.List.{slice_split}
use Rattle.seed_io.specs.Shelf.{Told}
use Rattle.seed_io.specs.declared.lines.LineError.{LineError}
use Rattle.seed_io.specs.declared.lines.LineError.TheVariants.{TooLong}

-- the most bytes of a line, its LF not counted
abbrev pub longest_line : ℕ
longest_line = 16384

-- one line of a text: whole, as its bytes without the LF; with more bytes than a line may have; or ended by the text's
-- end in place of an LF
pub data LineText : Type 0 where
  Whole : List ℕ → LineText
  Wide : LineText
  Unended : LineText

abbrev pub is_lf : ℕ → Bool
is_lf byte = byte == 10

abbrev pub HasNoLf : List ℕ → Type 0
HasNoLf text = All (λ byte. is_lf byte ≡ false) text

abbrev pub is_wide : List ℕ → Bool
is_wide piece = nat_lt longest_line (length piece)

-- the lines of a text that has these pieces between its LFs: a piece is a whole line; one that is too wide is the last
-- line; and so is what stands behind the last LF, where there is something
abbrev pub lines_of_pieces : List (List ℕ) → List LineText
lines_of_pieces [] = []
lines_of_pieces (piece ∷ []) = if is_wide piece then Wide ∷ [] else if nat_lt 0 (length piece) then Unended ∷ [] else []
lines_of_pieces (piece ∷ next ∷ more) = if is_wide piece then Wide ∷ [] else Whole piece ∷ lines_of_pieces (next ∷ more)

-- the lines of a text
abbrev pub lines_of : List ℕ → List LineText
lines_of text = lines_of_pieces (slice_split is_lf text)

-- what a reader of lines stands for: the name whose bytes it reads, how many of them it may take, the place behind the
-- lines that it gave, the bytes that it holds from there on, the last whole line that it gave, and whether it ended
pub record Reading : Type 0 where
  pub name : List ℕ
  pub limit : ℕ
  pub place : ℕ
  pub held : List ℕ
  pub last : List ℕ
  pub over : Bool

-- the reading stands at its place in these bytes: what it holds comes next there
abbrev pub StandsIn : List ℕ → Reading → Type 0
StandsIn file r = (more : List ℕ) × (drop r.place file ≡ r.held ++ more)

-- the lines that the reading has still to give, where the name has these bytes
abbrev pub lines_left : List ℕ → Reading → List LineText
lines_left file r = if r.over then [] else lines_of (drop r.place file)

-- the line that a call gave, as a list of one or none
abbrev pub listed : Option LineText → List LineText
listed None = []
listed (Some line) = line ∷ []

-- how many bytes a given line takes, with its LF
abbrev pub line_size : Option LineText → ℕ
line_size (Some (Whole line)) = length line + 1
line_size (Some Wide) = 0
line_size (Some Unended) = 0
line_size None = 0

-- how many bytes behind the place are seen of a line that takes none: more than a line may have, where it is too wide
abbrev pub bytes_ahead : Option LineText → ℕ
bytes_ahead (Some (Whole line)) = 0
bytes_ahead (Some Wide) = longest_line + 1
bytes_ahead (Some Unended) = 0
bytes_ahead None = 0

-- a line that the text's end ended
abbrev pub is_unended : Option LineText → Bool
is_unended (Some (Whole line)) = false
is_unended (Some Wide) = false
is_unended (Some Unended) = true
is_unended None = false

-- a whole line leaves more to come; what else is answered ends the reading
abbrev pub is_last : Option LineText → Bool
is_last (Some (Whole line)) = false
is_last (Some Wide) = true
is_last (Some Unended) = true
is_last None = true

-- a whole line has no LF and is not too wide
abbrev pub IsLawful : Option LineText → Type 0
IsLawful (Some (Whole line)) = HasNoLf line × (length line ≤ longest_line)
IsLawful (Some Wide) = Unit {0}
IsLawful (Some Unended) = Unit {0}
IsLawful None = Unit {0}

-- what a call that answers a line or none does to the reading: the place moves behind the line, and all that is seen of
-- the line is within the limit
pub record GivesLine (old new : Reading) (line : Option LineText) : Type 0 where
  pub over : new.over ≡ is_last line
  pub ended : old.over ≡ true → line ≡ None
  pub place : new.place ≡ old.place + line_size line
  pub within : new.place + bytes_ahead line ≤ new.limit
  pub lawful : IsLawful line

-- the line is the next one of these bytes, and the reading stands in them as before; where the bytes' end ends the line,
-- they are all within the limit
pub record IsNextLine (file : List ℕ) (old new : Reading) (line : Option LineText) : Type 0 where
  pub lines : lines_left file old ≡ listed line ++ lines_left file new
  pub stands : StandsIn file new
  pub ends : is_unended line ≡ true → length file ≤ new.limit

-- no line ends within the limit: the bytes up to it are taken, and those behind the last line are no line yet
pub record IsFull (r : Reading) : Type 0 where
  pub taken : r.place + length r.held ≡ r.limit
  pub unended : HasNoLf r.held
  pub narrow : length r.held ≤ longest_line

-- what a call for the next line does to the reading, where the name has the bytes that the shelf tells: an error ends
-- the reading, and too many bytes do so only where no line is left within the limit, and the reading stays in its place
pub record NextLine (tells : Bool) (map : Told) (old new : Reading) (answer : Result (Option LineText) LineError) : Type 0 where
  pub name : new.name ≡ old.name
  pub limit : new.limit ≡ old.limit
  pub gives : IfOk answer (GivesLine old new)
  pub told : tells ≡ true → (file : List ℕ) → map old.name ≡ Some file → StandsIn file old → IfOk answer (IsNextLine file old new)
  pub stopped : OnErr answer (new.over ≡ true)
  pub full : IsErrOf answer TooLong → IsFull new
  pub same_place : IsErrOf answer TooLong → new.place ≡ old.place
  pub stays : tells ≡ true → (file : List ℕ) → map old.name ≡ Some file → StandsIn file old → IsErrOf answer TooLong → StandsIn file new
