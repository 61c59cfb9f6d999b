-- The laws of nodes. A set is a test of file numbers, of which only those below the number of files count.
use Rattle.std.specs.Prelude.{◌≡◌, ℕ, ◌<◌, ◌≤◌, Bool, true, MatchBool}
use Rattle.seed_model.specs.declared.node.Node.{Node}
use Rattle.seed_model.specs.declared.node.Mix.{Mix}
use Rattle.seed_model.specs.declared.range.Range.{Range}
use Rattle.seed_model.specs.Tables.{TableValue, IsTable}
use Rattle.seed_model.specs.Sums.{migrated_of, touched_of}
use Rattle.seed_model.specs.Nodes.{IsNode, IsMember, IsLow, IsHigh, IsMix, NoneAdmitted, undecided_node, put_inside, put_outside, is_free, smallest_member, largest_member}

-- the smallest and the largest member are members
abbrev pub EndsAreMembers : Type 0
EndsAreMembers = (files : ℕ) (node : Node) → IsNode files node → IsMember files node (smallest_member node) × IsMember files node (largest_member node)

-- a member's sums lie between theirs
abbrev pub MembersLieBetween : Type 0
MembersLieBetween = (table : TableValue) (node : Node) (set : ℕ → Bool) → IsTable table → IsMember table.files node set
    → (migrated_of (smallest_member node) table ≤ migrated_of set table) × (migrated_of set table ≤ migrated_of (largest_member node) table)
    × (touched_of (smallest_member node) table ≤ touched_of set table)

-- so a low node admits no set and has no mix, nor has a high one
abbrev pub LowNodesAdmitNone : Type 0
LowNodesAdmitNone = (table : TableValue) (range : Range) (node : Node) → IsTable table → IsLow table range node
    → NoneAdmitted table range node × ((mix : Mix) → ¬ IsMix table range node mix)

abbrev pub HighNodesAdmitNone : Type 0
HighNodesAdmitNone = (table : TableValue) (range : Range) (node : Node) → IsTable table → IsHigh table range node
    → NoneAdmitted table range node × ((mix : Mix) → ¬ IsMix table range node mix)

-- a free file can be put on either side
abbrev pub FreeFilesSplit : Type 0
FreeFilesSplit = (files : ℕ) (node : Node) (file : ℕ) → IsNode files node → is_free node file ≡ true
    → IsNode files (put_inside file node) × IsNode files (put_outside file node)

-- a member is one of the child on its side of a file
abbrev pub MembersGoDown : Type 0
MembersGoDown = (files : ℕ) (node : Node) (file : ℕ) (set : ℕ → Bool) → IsMember files node set
    → MatchBool (set file) (IsMember files (put_inside file node) set) (IsMember files (put_outside file node) set)

-- and a child's members are the node's
abbrev pub MembersGoUp : Type 0
MembersGoUp = (files : ℕ) (node : Node) (file : ℕ) (set : ℕ → Bool) → IsNode files node → file < files
    → (IsMember files (put_inside file node) set → IsMember files node set) × (IsMember files (put_outside file node) set → IsMember files node set)

-- where no file is pinned, every set in range is admitted
abbrev pub UndecidedAdmitsAll : Type 0
UndecidedAdmitsAll = (files : ℕ) → IsNode files (undecided_node files) × ((set : ℕ → Bool) → IsMember files (undecided_node files) set)
