-- The greedy choice of a set in range: files are added until it migrates enough, then flipped while that replicates less.
use Rattle.std.specs.Prelude.{◌≡◌, ◌⊎◌, ℕ, zero, suc, ◌<◌, ◌≤◌, List, Bool, true, false, not, slice_set, MatchOption}
use Rattle.seed_model.specs.declared.node.Node.{Node}
use Rattle.seed_model.specs.declared.range.Range.{Range}
use Rattle.seed_model.specs.Files.{holds}
use Rattle.seed_model.specs.Nodes.{is_free}
use Rattle.seed_model.specs.Ranges.{InRange}
use Rattle.seed_model.specs.Sums.{migrated_of, replicated_of}
use Rattle.seed_model.specs.Tables.{TableValue}
use Rattle.greedy_seed.specs.declared.tried.Tried.{Tried}

-- what a set migrates and replicates, summed over all classes
abbrev pub migrates : TableValue → List Bool → ℕ
migrates table set = migrated_of (holds set) table

abbrev pub replicates : TableValue → List Bool → ℕ
replicates table set = replicated_of (holds set) table

-- the set with a file more, and with a file on the other side
abbrev pub added : List Bool → ℕ → List Bool
added set file = slice_set set file true

abbrev pub flipped : List Bool → ℕ → List Bool
flipped set file = slice_set set file (not (holds set file))

-- a turn may add the file: it is neither in the set nor bound to stay, and the larger set does not migrate too much
pub record MayAdd (table : TableValue) (range : Range) (pins : Node) (set : List Bool) (file : ℕ) : Type 0 where
  pub within : file < table.files
  pub out : holds set file ≡ false
  pub free : holds pins.outside file ≡ false
  pub no_more : migrates table (added set file) ≤ range.high

-- the file that a turn adds: of those that it may add, the one whose larger set replicates least; of several, the one
-- whose larger set migrates most; and of several, the first
pub record AddsNext (table : TableValue) (range : Range) (pins : Node) (set : List Bool) (file : ℕ) : Type 0 where
  pub may : MayAdd table range pins set file
  pub least : (other : ℕ) → MayAdd table range pins set other → replicates table (added set file) ≤ replicates table (added set other)
  pub most : (other : ℕ) → MayAdd table range pins set other → replicates table (added set other) ≡ replicates table (added set file)
      → migrates table (added set other) ≤ migrates table (added set file)
  pub first : (other : ℕ) → MayAdd table range pins set other → replicates table (added set other) ≡ replicates table (added set file)
      → migrates table (added set other) ≡ migrates table (added set file) → file ≤ other

-- so many turns lead from a set to another; each is made because the set migrates too little
abbrev pub Turns : TableValue → Range → Node → ℕ → List Bool → List Bool → Type 0
Turns table range pins zero from to = to ≡ from
Turns table range pins (suc turns) from to =
    (before : List Bool) × Turns table range pins turns from before × (migrates table before < range.low)
    × ((file : ℕ) × AddsNext table range pins before file × (to ≡ added before file))

-- a round may flip the file: it is in neither pin, and the set with it flipped is in range and replicates less
pub record MayFlip (table : TableValue) (range : Range) (pins : Node) (set : List Bool) (file : ℕ) : Type 0 where
  pub within : file < table.files
  pub free : is_free pins file ≡ true
  pub in_range : InRange table range (holds (flipped set file))
  pub less : replicates table (flipped set file) < replicates table set

-- the file that a round flips: of those that it may flip, the one that leaves the least replicated; of several, the first
pub record FlipsNext (table : TableValue) (range : Range) (pins : Node) (set : List Bool) (file : ℕ) : Type 0 where
  pub may : MayFlip table range pins set file
  pub least : (other : ℕ) → MayFlip table range pins set other → replicates table (flipped set file) ≤ replicates table (flipped set other)
  pub first : (other : ℕ) → MayFlip table range pins set other → replicates table (flipped set other) ≡ replicates table (flipped set file) → file ≤ other

-- so many rounds lead from a set to another
abbrev pub Rounds : TableValue → Range → Node → ℕ → List Bool → List Bool → Type 0
Rounds table range pins zero from to = to ≡ from
Rounds table range pins (suc rounds) from to =
    (before : List Bool) × Rounds table range pins rounds from before × ((file : ℕ) × FlipsNext table range pins before file × (to ≡ flipped before file))

-- a set is found: turns lead from the files that are bound to go to a set that migrates enough, and rounds from there,
-- until there is no better flip, or as many rounds as files were made
pub record Finds (table : TableValue) (range : Range) (pins : Node) (set : List Bool) (turns rounds : ℕ) : Type 0 where
  pub begun : migrates table pins.inside ≤ range.high
  pub reached : List Bool
  pub added_to : Turns table range pins turns pins.inside reached
  pub enough : range.low ≤ migrates table reached
  pub flipped_to : Rounds table range pins rounds reached set
  pub few : rounds ≤ table.files
  pub ended : (rounds ≡ table.files) ⊎ ((file : ℕ) → ¬ MayFlip table range pins set file)

-- turns come to a set that migrates too little, and no file may be added to it
pub record GetsStuck (table : TableValue) (range : Range) (pins : Node) (turns : ℕ) : Type 0 where
  pub reached : List Bool
  pub added_to : Turns table range pins turns pins.inside reached
  pub too_little : migrates table reached < range.low
  pub none_left : (file : ℕ) → ¬ MayAdd table range pins reached file

-- no set is found: the files that are bound to go migrate too much, or the turns get stuck
abbrev pub FindsNone : TableValue → Range → Node → ℕ → Type 0
FindsNone table range pins turns =
    ((range.high < migrates table pins.inside) × (turns ≡ 0)) ⊎ ((migrates table pins.inside ≤ range.high) × GetsStuck table range pins turns)

-- what was tried is the greedy choice
abbrev pub IsGreedy : TableValue → Range → Node → Tried → Type 0
IsGreedy table range pins tried =
    MatchOption tried.set (FindsNone table range pins tried.turns × (tried.rounds ≡ 0)) (λ set. Finds table range pins set tried.turns tried.rounds)
