-- What moving a set of files to an empty volume moves, and what it leaves on both.
use Rattle.std.specs.Prelude.{ℕ, List, Bool, ◌&&◌, not, sum_by, if◌then◌else◌}
use Rattle.std.specs.List.{list_all, list_any}
use Rattle.seed_model.specs.declared.table.Class.{Class}
use Rattle.seed_model.specs.Tables.{TableValue}

-- the bytes of the classes whose users pass a test
abbrev pub bytes_where : (List ℕ → Bool) → List Class → ℕ
bytes_where test classes = sum_by (λ c. if test c.users then c.size else 0) classes

-- the bytes of all classes
abbrev pub total_of : TableValue → ℕ
total_of table = sum_by (λ c. c.size) table.classes

-- the bytes that leave the old volume: of the classes whose users are all in the set
abbrev pub migrated_of : (ℕ → Bool) → TableValue → ℕ
migrated_of set table = bytes_where (list_all set) table.classes

-- the bytes that the new volume gets: of the classes with a user in the set
abbrev pub touched_of : (ℕ → Bool) → TableValue → ℕ
touched_of set table = bytes_where (list_any set) table.classes

-- the bytes that stand on both: of the classes with a user in the set and a user outside it
abbrev pub replicated_of : (ℕ → Bool) → TableValue → ℕ
replicated_of set table = bytes_where (λ users. list_any set users && not (list_all set users)) table.classes
