-- Sums by key, of the elements whose key is one number; and classes by number.
use Rattle.std.specs.Prelude.{ℕ, zero, suc, ◌+◌, ◌==◌, List, [], slice_index_or, if◌then◌else◌}
use Rattle.seed_model.specs.declared.table.Class.{Class}

-- a number that counts where the key is the one asked for
abbrev pub at_key : {X : Type 0} → (X → ℕ) → (X → ℕ) → ℕ → X → ℕ
at_key key amount asked x = if key x == asked then amount x else 0

-- the sum of a function's values at the numbers below n
abbrev pub sum_below : (ℕ → ℕ) → ℕ → ℕ
sum_below f zero = 0
sum_below f (suc n) = sum_below f n + f n

-- past the end of a table there are no bytes and no users
abbrev pub no_class : Class
no_class = record { size = 0; users = [] }

abbrev pub class_at : List Class → ℕ → Class
class_at classes number = slice_index_or classes number no_class
