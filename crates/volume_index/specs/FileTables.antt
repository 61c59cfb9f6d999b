-- Files in memory, by name.
use Rattle.std.specs.Prelude.{ℕ, List, refl}
use Rattle.std.specs.String.{string_bytes}
use Rattle.std.specs.Coded.{Coded, code_by, coded×, coded_ℕ}
use Rattle.site_forms.specs.Volumes.{Files}
use Rattle.volume_index.specs.declared.file_table.FileEntry.{FileEntry}
use Rattle.volume_index.specs.HoldingValues.{files_code as map_code}

-- the name and the list of a file
abbrev pub file_pair : FileEntry → List ℕ × List (List ℕ)
file_pair file = (string_bytes file.name, file.chunks.items)

-- the files with their lists, and how many more have room
pub record FileTableValue : Type 0 where
  pub files : Files
  pub room : ℕ

abbrev pub files_code : Coded FileTableValue
files_code = code_by (Files × ℕ) (coded× map_code coded_ℕ) (λ v. (v.files, v.room)) (λ t. record { files = t.0; room = t.1 }) (λ _. refl)
