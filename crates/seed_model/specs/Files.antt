-- Sets of files. A law takes a set as a test of file numbers; a value has one flag a file.
use Rattle.std.specs.Prelude.{ℕ, zero, suc, ◌+◌, ◌^◌, List, Bool, false, slice_index_or, if◌then◌else◌}

-- whether a file is in the set of these flags; no file past their end is
abbrev pub holds : List Bool → ℕ → Bool
holds flags file = slice_index_or flags file false

-- the sum of 2 ^ file over the files below n in the set
abbrev pub rank : ℕ → (ℕ → Bool) → ℕ
rank zero set = 0
rank (suc n) set = rank n set + (if set n then 2 ^ n else 0)
