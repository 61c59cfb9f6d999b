-- Rows in which only commas and line feeds mean more than themselves.
use Rattle.std.specs.Prelude.{◌≡◌, ◌≢◌, ◌⊎◌, ◌==◌, ◌||◌, ℕ, ◌<◌, List, Bool, false, length, slice_index}
use Rattle.csv.specs.declared.parser.State.{State}
use Rattle.csv.specs.declared.parser.State.TheVariants.{StartRecord, StartField}

-- a comma, a quote, a CR or an LF
abbrev pub is_special : ℕ → Bool
is_special byte = (byte == 44) || (byte == 34) || (byte == 13) || (byte == 10)

-- how many bytes stand before the first special one
pub record IsPlainFront (text : List ℕ) (count : ℕ) : Type 0 where
  pub plain : (k : ℕ) → k < count → is_special (slice_index text k) ≡ false

-- a field begins here: the first of a row, which an LF would not begin, or a later one
abbrev pub Begins : State → List ℕ → Type 0
Begins state text = (state ≡ StartField) ⊎ ((state ≡ StartRecord) × (0 < length text) × (slice_index text 0 ≢ 10))
