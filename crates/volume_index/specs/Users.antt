-- How many files use a chunk.
use Rattle.std.specs.Prelude.{ℕ, List, sum_by, if◌then◌else◌}
use Rattle.std.specs.FinMap as map
use Rattle.site_forms.specs.Names.{is_listed}
use Rattle.site_forms.specs.Volumes.{Files}

-- whether a list names a chunk, as a number
abbrev pub use_of : List ℕ → List (List ℕ) → ℕ
use_of name list = if is_listed list name then 1 else 0

-- how many files use a chunk
abbrev pub user_count : Files → List ℕ → ℕ
user_count files name = sum_by (use_of name) (map.values files)
