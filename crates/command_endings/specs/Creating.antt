-- What a command leaves behind a name that it creates.
use Rattle.std.specs.Prelude.{◌≡◌, ◌⊎◌, ℕ, List, take, Option, Some, option_map, Bool}
use Rattle.seed_io.specs.Shelf.{Told, OthersStay}
use Rattle.command_texts.specs.declared.status.Status.{Status}
use Rattle.command_endings.specs.Worlds.{ShelfEnding, Over}

-- the name is as before, or has a front of these bytes
abbrev pub HoldsFront : Told → Told → List ℕ → List ℕ → Type 0
HoldsFront old new name bytes = (new name ≡ old name) ⊎ ((count : ℕ) × (new name ≡ Some (take count bytes)))

-- behind a name stands a front of what a command leaves there that ends so
pub record LeavesFront (tells : Bool) (old : Told) (Ends : ShelfEnding) (name : List ℕ) (now : Option (List ℕ)) : Type 0 where
  pub status : Status
  pub text : List ℕ
  pub left : Told
  pub ends : Over tells old (λ found. Ends found status text left)
  pub count : ℕ
  pub front : now ≡ option_map (take count) (left name)

-- a command that ends so leaves other names, and this one as before or with a front of what it leaves there
pub record LeavesOthers (tells : Bool) (old new : Told) (name : List ℕ) (Ends : ShelfEnding) : Type 0 where
  pub others : OthersStay old new name
  pub part : (new name ≡ old name) ⊎ LeavesFront tells old Ends name (new name)
