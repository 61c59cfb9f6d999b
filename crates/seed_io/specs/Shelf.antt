-- What a shelf holds, and what its calls do.
use Rattle.std.specs.Prelude.{◌≡◌, ◌≢◌, ◌⊎◌, ℕ, ◌<◌, ◌≤◌, List, [], ◌++◌, length, take, drop, Bool, true, Option, Some, Result, IsErrOf, OnOk, unwrap_or}
use Rattle.seed_io.specs.declared.shelf.ShelfError.{ShelfError}
use Rattle.seed_io.specs.declared.shelf.ShelfError.TheVariants.{Fault, Memory}

-- from names to bytes; none for a name that is not there
abbrev pub Told : Type 0
Told = List ℕ → Option (List ℕ)

-- what a read gives: the name is there, and n bytes of it, from a place on, stand at the front of the room; where there
-- is room, none come only at the end of the bytes or behind it
pub record Gives (map : Told) (name : List ℕ) (at : ℕ) (into : List ℕ) (n : ℕ) : Type 0 where
  pub file : List ℕ
  pub held : map name ≡ Some file
  pub within : n ≤ length (drop at file)
  pub bytes : take n into ≡ take n (drop at file)
  pub ends : 0 < length into → n ≡ 0 → length file ≤ at

-- every other name stays
abbrev pub OthersStay : Told → Told → List ℕ → Type 0
OthersStay old new name = (other : List ℕ) → other ≢ name → new other ≡ old other

-- what making a name's bytes empty does: the name then has none, and no other name changes; a fault leaves the name as
-- it was or empty, want of memory as it was
pub record Creates (old new : Told) (name : List ℕ) (result : Result (Unit {0}) ShelfError) : Type 0 where
  pub others : OthersStay old new name
  pub ok : OnOk result (new name ≡ Some [])
  pub fault : IsErrOf result Fault → (new name ≡ old name) ⊎ (new name ≡ Some [])
  pub memory : IsErrOf result Memory → new name ≡ old name

-- the bytes that an append adds to: none, where the name is not there
abbrev pub content : Told → List ℕ → List ℕ
content map name = unwrap_or (map name) []

-- what adding bytes at the end of a name's does: the name then has both, and no other name changes; a fault leaves the
-- name as it was or with a prefix of the bytes added, want of memory as it was
pub record Appends (old new : Told) (name bytes : List ℕ) (result : Result (Unit {0}) ShelfError) : Type 0 where
  pub others : OthersStay old new name
  pub ok : OnOk result (new name ≡ Some (content old name ++ bytes))
  pub fault : IsErrOf result Fault → (new name ≡ old name) ⊎ ((k : ℕ) × (new name ≡ Some (content old name ++ take k bytes)))
  pub memory : IsErrOf result Memory → new name ≡ old name

-- more bytes than a limit were given for a name: the name's own, where the shelf tells them
pub record GaveMore (tells : Bool) (map : Told) (name : List ℕ) (limit : ℕ) : Type 0 where
  pub bytes : List ℕ
  pub more : limit < length bytes
  pub told : tells ≡ true → map name ≡ Some bytes
