-- A small volume: one chunk with the bytes of `abc`, and a file `n` of this chunk.
use Rattle.std.specs.Prelude.{ℕ, List, [], ◌∷◌, ◌++◌}

-- SHA-256 of `abc`
abbrev pub abc_name : List ℕ
abc_name =
    0xba ∷ 0x78 ∷ 0x16 ∷ 0xbf ∷ 0x8f ∷ 0x01 ∷ 0xcf ∷ 0xea ∷ 0x41 ∷ 0x41 ∷ 0x40 ∷ 0xde ∷ 0x5d ∷ 0xae ∷ 0x22 ∷ 0x23
    ∷ 0xb0 ∷ 0x03 ∷ 0x61 ∷ 0xa3 ∷ 0x96 ∷ 0x17 ∷ 0x7a ∷ 0x9c ∷ 0xb4 ∷ 0x10 ∷ 0xff ∷ 0x61 ∷ 0xf2 ∷ 0x00 ∷ 0x15 ∷ 0xad ∷ []

-- the body of the chunk's record, with its three bytes
abbrev pub chunk_body : List ℕ → List ℕ
chunk_body bytes = 1 ∷ (abc_name ++ bytes)

-- the body of the file's record
abbrev pub file_body : List ℕ
file_body = 2 ∷ 1 ∷ 0x6e ∷ abc_name

-- the 82 bytes of the log, with these bytes of the chunk, and these gates behind the chunk and at the end
abbrev pub small_log : List ℕ → ℕ → ℕ → List ℕ
small_log bytes second third = 1 ∷ 0 ∷ 0 ∷ 0 ∷ 36 ∷ (chunk_body bytes ++ second ∷ 0 ∷ 0 ∷ 0 ∷ 35 ∷ (file_body ++ third ∷ []))

abbrev pub abc : List ℕ
abc = 0x61 ∷ 0x62 ∷ 0x63 ∷ []

abbrev pub bbc : List ℕ
bbc = 0x62 ∷ 0x62 ∷ 0x63 ∷ []
