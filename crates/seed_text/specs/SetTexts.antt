-- Texts of sets of files: a bit for each file, in hex.
use Rattle.std.specs.Prelude.{◌≡◌, ℕ, ◌+◌, ◌-◌, ◌*◌, ◌/◌, ◌%◌, ◌^◌, ◌==◌, List, Bool, length, map, slice_index, sum_by, codes, if◌then◌else◌}
use Rattle.std.specs.List.{range_with_len}
use Rattle.hex.specs.Hex.{encode_lower}
use Rattle.seed_model.specs.Files.{holds}

-- byte j: the files 8 * j to 8 * j + 7, the first of them as the highest bit
abbrev pub set_byte : List Bool → ℕ → ℕ
set_byte set j = sum_by (λ i. if holds set (8 * j + i) then 2 ^ (7 - i) else 0) (range_with_len 0 8)

-- how many bytes have a bit for each file
abbrev pub byte_count : ℕ → ℕ
byte_count files = (files + 7) / 8

-- the bytes of a set
abbrev pub set_bytes : List Bool → List ℕ
set_bytes set = map (set_byte set) (range_with_len 0 (byte_count (length set)))

-- the text of a set: `-` where there are no files, else its bytes in lower-case hex
abbrev pub set_text : List Bool → List ℕ
set_text set = if length set == 0 then codes "-" else encode_lower (set_bytes set)

-- whether the bytes have the bit of a file
abbrev pub has_file : List ℕ → ℕ → Bool
has_file bytes file = slice_index bytes (file / 8) / 2 ^ (7 - file % 8) % 2 == 1

-- sets of as many files with one text are one set
abbrev pub OneSpelling : Type 0
OneSpelling = (a b : List Bool) → length a ≡ length b → set_text a ≡ set_text b → a ≡ b
