-- The names that a file may have.
use Rattle.std.specs.Prelude.{◌≡◌, ◌≢◌, ℕ, ◌<◌, ◌≤◌, List, ◌∷◌, true, false, length, slice_index, encode_utf8_all}
use Rattle.std.specs.Char.{is_control}
use Rattle.std.specs.List.{list_any}
use Rattle.std.specs.Str.{all_scalars}
use Rattle.file_names.specs.declared.TheConstants.{LONGEST_NAME}

-- U+FEFF, which a reader of rows skips at the start of a text
abbrev pub byte_order_mark : ℕ
byte_order_mark = 0xFEFF

-- The bytes are the UTF-8 of characters, none of them a control character (U+0000 to U+001F, U+007F to U+009F) and
-- the first no byte order mark. They are 1 to 255 bytes.
pub record IsFileName (name : List ℕ) : Type 0 where
  pub characters : List ℕ
  pub scalar : all_scalars characters ≡ true
  pub spelled : encode_utf8_all characters ≡ name
  pub plain : list_any is_control characters ≡ false
  pub unmarked : slice_index characters 0 ≢ byte_order_mark
  pub some : 0 < length name
  pub short : length name ≤ LONGEST_NAME

-- the bytes begin with those of the byte order mark
abbrev pub StartsWithMark : List ℕ → Type 0
StartsWithMark name = (rest : List ℕ) × (name ≡ 0xEF ∷ 0xBB ∷ 0xBF ∷ rest)
