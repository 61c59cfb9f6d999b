-- The rows that a reader of csv has left.
use Rattle.std.specs.Prelude.{◌≡◌, ◌+◌, List, [], ℕ, length, true, false, Option, Some, None}
use Rattle.csv.specs.Machine.{ends_at_end}
use Rattle.csv.specs.Reading.{Ready, default_config, records_from, source_of}
use Rattle.csv.specs.declared.parser.State.{State}
use Rattle.csv.specs.declared.reader.Reader.{Reader}
use Rattle.csv_rows.specs.Rows.{rows_of}
use denote.Ref.{Bor}
use Rattle.csv.specs.declared.reader.Trim.TheVariants as trim

-- the rows of the bytes that are left, from a state on
abbrev pub rows_from : State → Option (List ℕ) → List (List (List ℕ))
rows_from s None = []
rows_from s (Some xs) = records_from default_config (length xs + 1) s xs

-- the rows that a reader of a slice has left
abbrev pub rows_left : {R : Type 0} → (R → Option (List ℕ)) → Reader R → List (List (List ℕ))
rows_left remaining r = rows_from r.state (source_of remaining r)

-- the rows that are left of bytes that are read plainly, or else those of the reader
abbrev pub rows_of_both : Option (Bor (List ℕ)) → Reader (Bor (List ℕ)) → List (List (List ℕ))
rows_of_both None reader = rows_left (λ s. Some s.now) reader
rows_of_both (Some text) reader = rows_of text.now

-- the reader stands before a row, or at the end
pub record IsBetween {R : Type 0} (r : Reader R) : Type 0 where
  pub trim : r.trim ≡ trim.None
  pub ready : Ready r
  pub config : r.config ≡ default_config
  pub between : ends_at_end r.state ≡ false
  pub flexible : r.flexible ≡ true
  pub works : r.failed ≡ false
