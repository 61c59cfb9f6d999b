-- Bytes, eight at a time.
use Rattle.std.specs.Prelude.{ℕ, ◌+◌, ◌*◌, ◌/◌, List, length, map, take, drop}
use Rattle.std.specs.List.{range_with_len}

-- the eight bytes from the place of a number on, or those that are left
abbrev pub eight_at : List ℕ → ℕ → List ℕ
eight_at bytes number = take 8 (drop (8 * number) bytes)

-- all bytes, eight by eight
abbrev pub eights : List ℕ → List (List ℕ)
eights bytes = map (eight_at bytes) (range_with_len 0 ((length bytes + 7) / 8))
