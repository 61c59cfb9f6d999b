-- The text that a writer of csv has taken.
use Rattle.std.specs.Prelude.{◌≡◌, ◌++◌, List, ℕ, false, true, Vec, Option, Some, None}
use Rattle.csv.specs.Writing.{default_writer, with_flexible}
use Rattle.csv.specs.declared.writer.Writer.{Writer}
use Rattle.std.specs.declared.alloc.Global.{Global}

-- the bytes that a writer over a vector has taken
abbrev pub text_of : Writer (Vec ℕ Global) → List ℕ
text_of w = w.wtr.inner.items ++ w.wtr.buf

-- the text with more behind it; one that was given up stays given up
abbrev pub with_more : Option (List ℕ) → List ℕ → Option (List ℕ)
with_more None more = None
with_more (Some text) more = Some (text ++ more)

-- the default writer, but for rows of any lengths, between two rows
pub record IsFresh (w : Writer (Vec ℕ Global)) : Type 0 where
  pub setup : w.cfg ≡ with_flexible default_writer true
  pub fields : w.fields ≡ 0
  pub wrote : w.wrote ≡ false
