-- Tables: a number of files, and classes of chunks with their users.
use Rattle.std.specs.Prelude.{ℕ, ◌<◌, ◌≤◌, List, length, All, sum_by, refl}
use Rattle.std.specs.List.Sorted.{IsStrictlyIncreasing}
use Rattle.std.specs.Coded.{Coded, code_by, coded×, coded_ℕ, coded_list}
use Rattle.seed_model.specs.declared.table.Class.{Class}
use Rattle.seed_model.specs.declared.limits.TheConstants.{MOST_FILES, MOST_CHUNKS, MOST_PAIRS, MOST_BYTES}

pub record TableValue : Type 0 where
  pub files : ℕ
  pub classes : List Class

-- a class as a pair
abbrev pub class_code : Coded Class
class_code = code_by (ℕ × List ℕ) (coded× coded_ℕ (coded_list coded_ℕ)) (λ c. (c.size, c.users)) (λ p. record { size = p.0; users = p.1 }) (λ _. refl)

-- a table as a pair
abbrev pub table_code : Coded TableValue
table_code = code_by (ℕ × List Class) (coded× coded_ℕ (coded_list class_code)) (λ t. (t.files, t.classes)) (λ p. record { files = p.0; classes = p.1 }) (λ _. refl)

-- a class has users, each named once, in order, and each a file
pub record IsClass (files : ℕ) (class : Class) : Type 0 where
  pub used : 0 < length class.users
  pub rising : IsStrictlyIncreasing class.users
  pub below : All (λ file. file < files) class.users

-- the limits of a table, and its classes
pub record IsTable (table : TableValue) : Type 0 where
  pub files : table.files ≤ MOST_FILES
  pub classes : length table.classes ≤ MOST_CHUNKS
  pub pairs : sum_by (λ (c : Class). length c.users) table.classes ≤ MOST_PAIRS
  pub bytes : sum_by (λ (c : Class). c.size) table.classes ≤ MOST_BYTES
  pub each : All (IsClass table.files) table.classes
