-- Lines that were taken of a text, and what the judgements make of every text that has them.
use Rattle.std.specs.Prelude.{◌≡◌, ℕ, List, [], ◌++◌, map, Bool, true}
use Rattle.seed_model.specs.Tables.{TableValue}
use Rattle.seed_io.specs.Lines.{LineText, Whole, lines_of}
use Rattle.bound_cert.specs.Judgements.{Told, nothing_told, Tells, FailsFirst}
use Rattle.bound_cert.specs.Lines.{Entry, line_text}

-- a line of a text that is read as a line of a document
abbrev pub whole_line : Entry → LineText
whole_line e = Whole (line_text e)

-- the lines kept every rule, and told this
pub record IsTold (table : TableValue) (lines : List LineText) (told : Told) : Type 0 where
  pub entries : List Entry
  pub tells : Tells table nothing_told entries told
  pub lines_are : lines ≡ map whole_line entries

-- a text that begins with these lines; where the text's end was taken too, it has no others
pub record BeginsWith (ended : Bool) (lines : List LineText) (text : List ℕ) : Type 0 where
  pub more : List LineText
  pub lines_are : lines_of text ≡ lines ++ more
  pub none : ended ≡ true → more ≡ []

-- a judgement of the text fails first, on a line among these, or on the text's end
pub record FailsAmong (table : TableValue) (ended : Bool) (lines : List LineText) (text : List ℕ) (line rule : ℕ) : Type 0 where
  pub failure : FailsFirst table text line rule
  pub more : List LineText
  pub before : lines ≡ map whole_line failure.front ++ more
  pub some : more ≡ [] → ended ≡ true

-- the first judgement that fails is this one, in every text that begins so
abbrev pub AllFail : TableValue → Bool → List LineText → ℕ → ℕ → Type 0
AllFail table ended lines line rule = (text : List ℕ) → BeginsWith ended lines text → FailsAmong table ended lines text line rule
