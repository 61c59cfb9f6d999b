-- What a piece says of an image, and what a read makes of it.
use Rattle.std.specs.Prelude.{◌≡◌, ℕ, ◌+◌, ◌<◌, ◌≤◌, Bool, true, false, ◌&&◌, nat_le, List, [], length, take, drop}
use Rattle.device_pieces.specs.PieceValues.{PieceValue}

-- its bytes are those of the image
abbrev pub Shows : List ℕ → PieceValue → Type 0
Shows image piece = piece.bytes ≡ take (length piece.bytes) (drop piece.at image)

-- so many bytes from a place on stand in it
abbrev pub stands_in : PieceValue → ℕ → ℕ → Bool
stands_in piece at n = nat_le piece.at at && nat_le (at + n) (piece.at + length piece.bytes)

-- a piece of a device with no bytes
abbrev pub no_piece : ℕ → ℕ → PieceValue
no_piece device width = record { device = device; width = width; at = 0; bytes = [] }

-- the piece of an image that begins at a place
abbrev pub piece_at : List ℕ → ℕ → ℕ → ℕ → PieceValue
piece_at image device width at = record { device = device; width = width; at = at; bytes = take width (drop at image) }

-- once n bytes are read from a place on: the piece is the same where they stood in it, or where they are too many for a
-- piece, and else the one that begins there
pub record Reads (image : List ℕ) (at n : ℕ) (old new : PieceValue) : Type 0 where
  pub inside : stands_in old at n ≡ true → new ≡ old
  pub next : stands_in old at n ≡ false → n ≤ old.width → new ≡ piece_at image old.device old.width at
  pub large : old.width < n → new ≡ old
