-- What the greedy choice keeps as it goes on.
use Rattle.std.specs.Prelude.{◌≡◌, ◌||◌, ◌&&◌, ◌==◌, List, Bool, length, nat_lt, Option, Some, None, if◌then◌else◌}
use Rattle.seed_model.specs.declared.node.Node.{Node}
use Rattle.seed_model.specs.declared.range.Range.{Range}
use Rattle.seed_model.specs.Files.{holds}
use Rattle.seed_model.specs.Tables.{TableValue, IsTable}
use Rattle.greedy_seed.specs.declared.choice.Candidate.{Candidate}
use Rattle.greedy_seed.specs.declared.tally.Sums.{Sums}
use Rattle.greedy_seed.specs.declared.tally.Tally.{Tally}
use Rattle.greedy_seed.specs.Greedy.{MayAdd, MayFlip, added, flipped, migrates, replicates}
use Rattle.greedy_seed.specs.Shares.{AreAllUses, AreKept}

-- the sums of a set
pub record AreSums (table : TableValue) (set : List Bool) (sums : Sums) : Type 0 where
  pub migrated : sums.migrated ≡ migrates table set
  pub replicated : sums.replicated ≡ replicates table set

-- the tally of a set of a table's files: its sums, which classes each file uses, and what moving a file changes
pub record IsTally (table : TableValue) (tally : Tally) : Type 0 where
  pub lawful : IsTable table
  pub files : length tally.set ≡ table.files
  pub sums : AreSums table tally.set tally.sums
  pub uses : AreAllUses table tally.uses
  pub shares : AreKept (λ class. holds tally.set) table (length table.classes) tally.shares

-- a candidate of a turn, with the sums of the larger set
pub record IsAddition (table : TableValue) (range : Range) (pins : Node) (set : List Bool) (c : Candidate) : Type 0 where
  pub may : MayAdd table range pins set c.file
  pub migrated : c.migrated ≡ migrates table (added set c.file)
  pub replicated : c.replicated ≡ replicates table (added set c.file)

-- a candidate of a round, with what the set replicates once it is flipped
pub record IsFlip (table : TableValue) (range : Range) (pins : Node) (set : List Bool) (c : Candidate) : Type 0 where
  pub may : MayFlip table range pins set c.file
  pub replicated : c.replicated ≡ replicates table (flipped set c.file)

-- less replicated, or as much and more migrated
abbrev pub is_better : Candidate → Candidate → Bool
is_better next kept = nat_lt next.replicated kept.replicated || ((next.replicated == kept.replicated) && nat_lt kept.migrated next.migrated)

-- the better candidate, and the one that was kept where the next is not
abbrev pub better : Option Candidate → Option Candidate → Option Candidate
better None next = next
better (Some kept) None = Some kept
better (Some kept) (Some next) = if is_better next kept then Some next else Some kept

-- the one that leaves less replicated, and the one that was kept where both leave the same
abbrev pub lighter : Option Candidate → Option Candidate → Option Candidate
lighter None next = next
lighter (Some kept) None = Some kept
lighter (Some kept) (Some next) = if nat_lt next.replicated kept.replicated then Some next else Some kept
