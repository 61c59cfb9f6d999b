-- What a reader of lines answers, as lines of a text, and what its parts find.
use Rattle.std.specs.Prelude.{◌≡◌, ℕ, ◌+◌, ◌<◌, ◌≤◌, if◌then◌else◌, List, [], ◌∷◌, ◌++◌, length, take, drop, option_map, Option, Some, Result, Ok, Err}
use Rattle.seed_io.specs.Shelf.{Told}
use Rattle.seed_io.specs.Lines.{LineText, Whole, Wide, Unended, Reading, HasNoLf, StandsIn, lines_of, longest_line}
use Rattle.seed_io.specs.declared.lines.Kind.{Kind}
use Rattle.seed_io.specs.declared.lines.Kind.TheVariants as kind
use Rattle.seed_io.specs.declared.lines.Line.{Line}
use Rattle.seed_io.specs.declared.lines.Line.TheVariants as line
use Rattle.seed_io.specs.declared.lines.LineError.{LineError}
use Rattle.seed_io.specs.declared.lines.LineError.TheVariants as line_fails
use Rattle.seed_io.specs.declared.shelf.ShelfError.{ShelfError}
use Rattle.seed_io.specs.declared.shelf.ShelfError.TheVariants as shelf
use Rattle.seed_io.specs.declared.lines.Shown.{Shown}
use Rattle.seed_io.specs.declared.lines.Shown.TheVariants as shown

abbrev pub line_text : Line → LineText
line_text (line.Whole bytes) = Whole bytes.now
line_text line.Wide = Wide
line_text line.Unended = Unended

-- an answer, by what its line is
abbrev pub line_answer : Result (Option Line) LineError → Result (Option LineText) LineError
line_answer (Ok given) = Ok (option_map line_text given)
line_answer (Err error) = Err error

abbrev pub kind_text : List ℕ → Kind → LineText
kind_text last kind.Whole = Whole last
kind_text last kind.Wide = Wide
kind_text last kind.Unended = Unended

abbrev pub kind_line : List ℕ → Option Kind → Option LineText
kind_line last given = option_map (kind_text last) given

-- the lines that a reading has still to give, where these bytes follow those that it holds
abbrev pub lines_behind : Reading → List ℕ → List LineText
lines_behind r more = if r.over then [] else lines_of (r.held ++ more)

-- what bytes show of their first line
abbrev pub Shows : Shown → List ℕ → Type 0
Shows (shown.Whole n) bytes = (bytes ≡ take n bytes ++ 10 ∷ drop (n + 1) bytes) × (n < length bytes) × (n ≤ longest_line) × HasNoLf (take n bytes)
Shows shown.Wide bytes = (longest_line < length bytes) × HasNoLf (take (longest_line + 1) bytes)
Shows shown.Open bytes = (length bytes ≤ longest_line) × HasNoLf bytes

-- only the bytes that are held changed
pub record SamePlace (old new : Reading) : Type 0 where
  pub name : new.name ≡ old.name
  pub limit : new.limit ≡ old.limit
  pub place : new.place ≡ old.place
  pub over : new.over ≡ old.over

-- the reading stands in these bytes, and if it ended, it holds them to their end
pub record ReadsOn (file : List ℕ) (r : Reading) (ended : Type 0) : Type 0 where
  pub stands : StandsIn file r
  pub all : ended → drop r.place file ≡ r.held

-- the bytes of a name end at a place or before it
pub record EndsWithin (map : Told) (name : List ℕ) (at : ℕ) : Type 0 where
  pub file : List ℕ
  pub there : map name ≡ Some file
  pub within : length file ≤ at

-- an error of a shelf, handed on
abbrev pub line_error : ShelfError → LineError
line_error shelf.Fault = line_fails.Fault
line_error shelf.NotThere = line_fails.NotThere
line_error shelf.Memory = line_fails.Memory
