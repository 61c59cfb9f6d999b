-- The node of which a set is the only member.
use Rattle.std.specs.Prelude.{◌≡◌, ◌↔◌, ℕ, ◌<◌, List, Bool, length, not}
use Rattle.seed_model.specs.declared.node.Node.{Node}
use Rattle.seed_model.specs.Files.{holds}
use Rattle.seed_model.specs.Nodes.{IsMember, IsNode}
use Rattle.seed_model.specs.SumLaws.{AgreesBelow}

-- the files of a set are inside, and all others outside
pub record PinsExactly (set : List Bool) (node : Node) : Type 0 where
  pub inside : node.inside ≡ set
  pub files : length node.outside ≡ length set
  pub outside : (file : ℕ) → file < length set → holds node.outside file ≡ not (holds set file)

-- that is a node, and its members are the set alone
abbrev pub HasOneMember : Type 0
HasOneMember = (set : List Bool) (node : Node) → PinsExactly set node
    → IsNode (length set) node × ((other : ℕ → Bool) → IsMember (length set) node other ↔ AgreesBelow (length set) other (holds set))
