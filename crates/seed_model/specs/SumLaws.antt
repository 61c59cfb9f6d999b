-- The laws of the sums of a set. A set is a test of file numbers, of which only those below the number of files count.
use Rattle.std.specs.Prelude.{◌≡◌, ℕ, ◌+◌, ◌<◌, ◌≤◌, Bool, IsTrue}
use Rattle.seed_model.specs.Tables.{TableValue, IsTable}
use Rattle.seed_model.specs.Sums.{migrated_of, touched_of, replicated_of, total_of}

-- each file below n that is in the one set is in the other
abbrev pub IsWithin : ℕ → (ℕ → Bool) → (ℕ → Bool) → Type 0
IsWithin n inner outer = (file : ℕ) → file < n → IsTrue (inner file) → IsTrue (outer file)

-- the two sets have the same files below n
abbrev pub AgreesBelow : ℕ → (ℕ → Bool) → (ℕ → Bool) → Type 0
AgreesBelow n one other = (file : ℕ) → file < n → one file ≡ other file

-- what the new volume gets is what leaves the old one and what stands on both
abbrev pub Splits : Type 0
Splits = (table : TableValue) (set : ℕ → Bool) → IsTable table → touched_of set table ≡ migrated_of set table + replicated_of set table

-- a set within another migrates and touches at most as many bytes
abbrev pub Grows : Type 0
Grows = (table : TableValue) (inner outer : ℕ → Bool) → IsTable table → IsWithin table.files inner outer
    → (migrated_of inner table ≤ migrated_of outer table) × (touched_of inner table ≤ touched_of outer table)

-- the sums depend on the files of the table alone
abbrev pub DependsOnFiles : Type 0
DependsOnFiles = (table : TableValue) (one other : ℕ → Bool) → IsTable table → AgreesBelow table.files one other
    → (migrated_of one table ≡ migrated_of other table) × (touched_of one table ≡ touched_of other table) × (replicated_of one table ≡ replicated_of other table)

-- no set touches more bytes than there are
abbrev pub StaysWithinTotal : Type 0
StaysWithinTotal = (table : TableValue) (set : ℕ → Bool) → touched_of set table ≤ total_of table
