-- Sets of files as words of 64 bits: the layout of a `PlanSet`.
use Rattle.std.specs.Prelude.{ℕ, zero, suc, ◌+◌, ◌*◌, ◌/◌, ◌%◌, ◌≤◌, ◌==◌, List, [], ◌∷◌, length, Bool, slice_index}
use Rattle.std.specs.Int.{bit_at}

-- whether the file has its bit
abbrev pub has_bit : List ℕ → ℕ → Bool
has_bit words file = bit_at (slice_index words (file / 64)) (file % 64) == 1

-- the bits of n files from a file on
abbrev pub bits_from : List ℕ → ℕ → ℕ → List Bool
bits_from words file zero = []
bits_from words file (suc n) = has_bit words file ∷ bits_from words (file + 1) n

-- the bits of the first n files
abbrev pub bits_of : ℕ → List ℕ → List Bool
bits_of n words = bits_from words 0 n

-- a word for each 64 files
abbrev pub HasWords : ℕ → List ℕ → Type 0
HasWords n words = n ≤ 64 * length words
