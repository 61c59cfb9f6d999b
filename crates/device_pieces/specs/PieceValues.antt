-- Pieces of devices as contracts see them.
use Rattle.std.specs.Prelude.{ℕ, ◌≤◌, List, [], length, take, Option, Some, None, Vec, refl}
use Rattle.std.specs.declared.alloc.Global.{Global}
use Rattle.std.specs.Coded.{Coded, code_by, coded×, coded_ℕ, coded_list}

-- the device, how many bytes a piece may have, a place on the device, and the bytes that were read from there on
pub record PieceValue : Type 0 where
  pub device : ℕ
  pub width : ℕ
  pub at : ℕ
  pub bytes : List ℕ

-- a piece as a tuple
abbrev pub piece_code : Coded PieceValue
piece_code = code_by (ℕ × (ℕ × (ℕ × List ℕ))) (coded× coded_ℕ (coded× coded_ℕ (coded× coded_ℕ (coded_list coded_ℕ)))) (λ p. (p.device, (p.width, (p.at, p.bytes)))) (λ t. record { device = t.0; width = t.1.0; at = t.1.1.0; bytes = t.1.1.1 }) (λ _. refl)

-- the bytes of a room; none where there is no room
abbrev pub room_bytes : Option (Vec ℕ Global) → List ℕ
room_bytes None = []
room_bytes (Some room) = room.items

-- the piece is the front of its room
abbrev pub piece_in : ℕ → ℕ → ℕ → Option (Vec ℕ Global) → PieceValue
piece_in device at count room = record { device = device; width = length (room_bytes room); at = at; bytes = take count (room_bytes room) }

-- what every piece keeps
pub record KeepsPiece (device count : ℕ) (room : Option (Vec ℕ Global)) : Type 0 where
  pub six : device ≤ 5
  pub inside : count ≤ length (room_bytes room)
