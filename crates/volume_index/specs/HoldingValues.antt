-- What a volume holds, as contracts see it.
use Rattle.std.specs.Prelude.{◌≡◌, ℕ, ◌^◌, ◌≤◌, true, not, List, length, sum_by, All, Some, refl}
use Rattle.std.specs.List.{filter}
use Rattle.std.specs.Coded.{Coded, code_by, coded×, coded_ℕ, coded_list}
use Rattle.std.specs.FinMap as map
use Rattle.file_names.specs.FileNames.{IsFileName}
use Rattle.site_forms.specs.VolumeRecords.{IsChunkName}
use Rattle.site_forms.specs.Volumes.{bytes_cmp, Files, Shape, chunk_or, holds_all, keeps_limits, used}

-- where the bytes of each chunk begin on the device, by name
abbrev pub Places : Type 0
Places = map.FinMap bytes_cmp ℕ

-- what a volume holds: its files with their lists, its chunks with their lengths; where the bytes of the chunks stand;
-- and how many more chunks and files have room
pub record HoldingValue : Type 0 where
  pub shape : Shape
  pub places : Places
  pub chunk_room : ℕ
  pub file_room : ℕ

-- what every volume holds, whatever the rack says: at most 524,279 chunks in a file, all of them held; names that are
-- lawful; chunks of 1 to 2^20 bytes; and within the limits of a recipe
pub record KeepsShape (shape : Shape) : Type 0 where
  pub names : All IsFileName (map.keys shape.files)
  pub held : (name : List ℕ) (list : List (List ℕ)) → map.get shape.files name ≡ Some list → holds_all shape list ≡ true
  pub short : (name : List ℕ) (list : List (List ℕ)) → map.get shape.files name ≡ Some list → length list ≤ 524279
  pub chunk_names : All IsChunkName (map.keys shape.chunks)
  pub some : All (λ n. 1 ≤ n) (map.values shape.chunks)
  pub most : All (λ n. n ≤ 2 ^ 20) (map.values shape.chunks)
  pub limits : keeps_limits (λ chunk. chunk_or 0 shape chunk) shape.files ≡ true

-- the bytes of all chunks that are held
abbrev pub held_bytes : Shape → ℕ
held_bytes shape = sum_by (λ n. n) (map.values shape.chunks)

-- the names of the chunks that no file uses, in order
abbrev pub orphans : Shape → List (List ℕ)
orphans shape = filter (λ name. not (map.contains_key (used shape.files) name)) (map.keys shape.chunks)

-- as pairs
abbrev pub files_code : Coded Files
files_code = map.code (coded_list coded_ℕ) (coded_list (coded_list coded_ℕ))

abbrev pub lengths_code : Coded (map.FinMap bytes_cmp ℕ)
lengths_code = map.code (coded_list coded_ℕ) coded_ℕ

abbrev pub shape_code : Coded Shape
shape_code = code_by (map.FinMap bytes_cmp ℕ × Files) (coded× lengths_code files_code) (λ s. (s.chunks, s.files)) (λ p. record { chunks = p.0; files = p.1 }) (λ _. refl)

abbrev pub holding_code : Coded HoldingValue
holding_code =
    code_by (Shape × (Places × (ℕ × ℕ))) (coded× shape_code (coded× lengths_code (coded× coded_ℕ coded_ℕ))) (λ h. (h.shape, (h.places, (h.chunk_room, h.file_room))))
    (λ p. record { shape = p.0; places = p.1.0; chunk_room = p.1.1.0; file_room = p.1.1.1 }) (λ _. refl)
