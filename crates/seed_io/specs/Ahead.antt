-- Bytes that are read ahead.
use Rattle.std.specs.Prelude.{◌≡◌, ℕ, ◌<◌, ◌≤◌, List, ◌++◌, length, take, drop, Some}
use Rattle.seed_io.specs.Shelf.{Told}

-- the bytes that were given last, and those that are held behind them
pub record Ahead : Type 0 where
  pub given : List ℕ
  pub held : List ℕ

-- n bytes were added
pub record IsLonger (old new : List ℕ) (n : ℕ) : Type 0 where
  pub added : List ℕ
  pub is : new ≡ old ++ added
  pub size : length added ≡ n

-- a read of a name from a place on, with room for so many bytes, added n bytes of the name to those held; where there is
-- room, none come only at the end of the bytes or behind it
pub record Grows (map : Told) (name : List ℕ) (at room : ℕ) (old new : List ℕ) (n : ℕ) : Type 0 where
  pub file : List ℕ
  pub there : map name ≡ Some file
  pub within : n ≤ length (drop at file)
  pub bytes : new ≡ old ++ take n (drop at file)
  pub ends : 0 < room → n ≡ 0 → length file ≤ at
