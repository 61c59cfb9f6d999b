-- How the numbers lie in the blocks: all blocks are full but the last that has any.
use Rattle.std.specs.Prelude.{ℕ, ◌≡◌, ◌+◌, ◌-◌, ◌*◌, ◌^◌, ◌<◌, ◌≤◌, List, [], length, take, drop, slice_index_or}
use Rattle.std.specs.List.{concat}

-- how many numbers a block holds at most
abbrev pub width : ℕ
width = 4096

-- the numbers of a list that lie in the block at a place
abbrev pub part : List ℕ → ℕ → List ℕ
part items block = take width (drop (block * width) items)

-- each block has its part of a list, and no part is left over
pub record AreParts (blocks : List (List ℕ)) (items : List ℕ) : Type 0 where
  pub each : (i : ℕ) → i < length blocks → slice_index_or blocks i [] ≡ part items i
  pub within : length items ≤ length blocks * width

-- the blocks have the parts of the list that they make when joined
abbrev pub AreTiers : List (List ℕ) → Type 0
AreTiers blocks = AreParts blocks (concat blocks)

-- how many more numbers fit
abbrev pub room_of : List (List ℕ) → ℕ
room_of blocks = length blocks * width - length (concat blocks)

-- the count of the numbers is kept, and places in the blocks can be counted
pub record KeepsTiers (blocks : List (List ℕ)) (count : ℕ) : Type 0 where
  pub counted : length (concat blocks) ≡ count
  pub few : length blocks ≤ 2 ^ 32
  pub tiers : AreTiers blocks
