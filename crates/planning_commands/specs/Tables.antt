-- Tables with the same sums.
use Rattle.std.specs.Prelude.{◌≡◌, ℕ, List, Bool}
use Rattle.seed_model.specs.Sums.{bytes_where}
use Rattle.seed_model.specs.Tables.{TableValue}

-- by every test of users the second table's classes sum to what the first one's do
abbrev pub HasSumsOf : TableValue → TableValue → Type 0
HasSumsOf first second = (test : List ℕ → Bool) → bytes_where test second.classes ≡ bytes_where test first.classes
