-- Names of files, as tests and in lists.
use Rattle.std.specs.Prelude.{ℕ, ◌≤◌, Bool, true, false, ◌==◌, ◌&&◌, not, nat_le, List, [], ◌∷◌, length, All}
use Rattle.std.specs.Char.{is_control}
use Rattle.std.specs.List.{list_all, list_any}
use Rattle.std.specs.Str.{chars, is_utf8, bytes_eq}
use Rattle.seed_model.specs.declared.limits.TheConstants.{MOST_FILES}
use Rattle.file_names.specs.FileNames.{IsFileName}
use Rattle.file_names.specs.declared.TheConstants.{LONGEST_NAME}

-- whether bytes begin with those of U+FEFF
abbrev pub is_marked : List ℕ → Bool
is_marked (x ∷ y ∷ z ∷ rest) = x == 0xEF && (y == 0xBB && z == 0xBF)
is_marked _ = false

-- whether bytes are a lawful file name: `IsFileName` as a test
abbrev pub is_name : List ℕ → Bool
is_name name = nat_le 1 (length name) && (nat_le (length name) LONGEST_NAME && (is_utf8 name && (not (is_marked name) && not (list_any is_control (chars name)))))

-- whether a name is in a list
abbrev pub is_listed : List (List ℕ) → List ℕ → Bool
is_listed names name = list_any (bytes_eq name) names

-- whether no name stands twice
abbrev pub is_distinct : List (List ℕ) → Bool
is_distinct [] = true
is_distinct (name ∷ names) = not (is_listed names name) && is_distinct names

-- whether a Begin may name these files: lawful, each once, at most 16,383
abbrev pub is_name_list : List (List ℕ) → Bool
is_name_list names = nat_le (length names) MOST_FILES && (list_all is_name names && is_distinct names)

-- a list of names as a value keeps it; a name may stand twice
pub record IsNames (names : List (List ℕ)) : Type 0 where
  pub few : length names ≤ MOST_FILES
  pub lawful : All IsFileName names
