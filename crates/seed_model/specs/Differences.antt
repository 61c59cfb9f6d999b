-- Where two sets of files differ, and where they meet.
use Rattle.std.specs.Prelude.{◌≡◌, ◌≢◌, ℕ, ◌<◌, ◌≤◌, List, Bool, IsTrue, false, not, length}
use Rattle.seed_model.specs.Files.{holds}

-- the two sets have the same of the files from one number up to another
abbrev pub AgreesWithin : ℕ → ℕ → List Bool → List Bool → Type 0
AgreesWithin from end one other = (file : ℕ) → from ≤ file → file < end → holds one file ≡ holds other file

-- the first file that is in exactly one of two sets
pub record IsFirstDifference (one other : List Bool) (file : ℕ) : Type 0 where
  pub within : file < length one
  pub differs : holds one file ≢ holds other file
  pub first : (before : ℕ) → before < file → holds one before ≡ holds other before

-- no file below n is in both sets
abbrev pub AreApart : ℕ → (ℕ → Bool) → (ℕ → Bool) → Type 0
AreApart n one other = (file : ℕ) → file < n → IsTrue (one file) → other file ≡ false

-- no file from one number up to another is in the one set and, where inside, also in the other, else outside it
abbrev pub ClearsWithin : ℕ → ℕ → Bool → List Bool → List Bool → Type 0
ClearsWithin from end inside one other = (file : ℕ) → from ≤ file → file < end → IsTrue (holds one file) → holds other file ≡ not inside
