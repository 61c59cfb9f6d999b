-- Classes, one chunk after the other.
use Rattle.std.specs.Prelude.{ℕ, ◌+◌, List, [], ◌∷◌, sum_by, if◌then◌else◌}
use Rattle.seed_model.specs.declared.table.Class.{Class}
use Rattle.chunk_merge.specs.Merged.{same_users}

-- the classes with a chunk more: it goes to the class with its users, or last
abbrev pub with_class : List Class → Class → List Class
with_class [] chunk = chunk ∷ []
with_class (class ∷ classes) chunk =
    if same_users chunk.users class.users then record { size = class.size + chunk.size; users = class.users } ∷ classes else class ∷ with_class classes chunk

-- lists of users with sizes, as classes
abbrev pub classes_in : List (List ℕ) → List ℕ → List Class
classes_in [] sizes = []
classes_in (users ∷ rest) [] = []
classes_in (users ∷ rest) (size ∷ sizes) = record { size = size; users = users } ∷ classes_in rest sizes

-- the bytes of these classes
abbrev pub bytes_in : List Class → ℕ
bytes_in classes = sum_by (λ c. c.size) classes
