-- What an open document shows: that its branchings were called for, and that one more was.
use Rattle.std.specs.Prelude.{◌≡◌, ℕ, ◌<◌, ◌≤◌, ◌+◌, ◌*◌, List, Bool, Option, MatchOption}
use Rattle.seed_model.specs.declared.node.Node.{Node}
use Rattle.seed_model.specs.declared.node.Mix.{Mix}
use Rattle.seed_model.specs.declared.range.Range.{Range}
use Rattle.seed_model.specs.Files.{holds}
use Rattle.seed_model.specs.Tables.{TableValue}
use Rattle.seed_model.specs.Sums.{replicated_of}
use Rattle.seed_model.specs.Ranges.{InRange}
use Rattle.seed_model.specs.Nodes.{HasValue, mixed_replicated, weight_of}
use Rattle.seed_ratio.specs.Fractions.{IsCeiling}
use Rattle.bound_cert.specs.declared.heading.Claimed.{Claimed}
use Rattle.bound_cert.specs.declared.node_line.NodeLine.{NodeLine}
use Rattle.bound_cert.specs.declared.node_line.NodeLine.TheVariants.{Branch, Low, High, Leaf}
use Rattle.bound_cert.specs.Sets.{mix_named}
use Rattle.bound_cert.specs.Trees.{Tree, branchings, EachFork, SomeTip}

-- a set in range replicates more than so many bytes
abbrev pub ReplicatesMore : TableValue → Range → ℕ → List Bool → Type 0
ReplicatesMore table range bytes set = InRange table range (holds set) → bytes < replicated_of (holds set) table

-- the bound is the value of the node, rounded up, and neither set of its mix is a plan for it
pub record IsOpen (table : TableValue) (range : Range) (bound : ℕ) (node : Node) : Type 0 where
  pub mix : Mix
  pub value : HasValue table range node mix
  pub ceiling : IsCeiling (mixed_replicated table mix) (weight_of mix) bound
  pub first : ReplicatesMore table range bound mix.first
  pub second : ReplicatesMore table range bound mix.second

-- a set is no better than the plan: not in range, or it replicates no less; where there is no plan, not in range
abbrev pub IsNoBetter : TableValue → Range → Option Claimed → List Bool → Type 0
IsNoBetter table range plan set = InRange table range (holds set) → MatchOption plan ⊥ (λ claimed. claimed.replicated ≤ replicated_of (holds set) table)

-- the mix of a branching has the value of its node
abbrev pub HasNodeValue : TableValue → Range → Node → NodeLine → Type 0
HasNodeValue table range node (Branch file first second alpha beta) = HasValue table range node (mix_named table.files first second alpha beta)
HasNodeValue table range node Low = Unit {0}
HasNodeValue table range node High = Unit {0}
HasNodeValue table range node (Leaf m) = Unit {0}

-- no bound leaf could close the node of a branching: its mix replicates at most bound - 1 bytes
abbrev pub StaysBelow : TableValue → ℕ → Node → NodeLine → Type 0
StaysBelow table bound node (Branch file first second alpha beta) =
    mixed_replicated table (mix_named table.files first second alpha beta) + weight_of (mix_named table.files first second alpha beta)
    ≤ bound * weight_of (mix_named table.files first second alpha beta)
StaysBelow table bound node Low = Unit {0}
StaysBelow table bound node High = Unit {0}
StaysBelow table bound node (Leaf m) = Unit {0}

-- both sets of a branching are no better than the plan
abbrev pub ShowsNoBetter : TableValue → Range → Option Claimed → Node → NodeLine → Type 0
ShowsNoBetter table range plan node (Branch file first second alpha beta) =
    IsNoBetter table range plan (mix_named table.files first second alpha beta).first × IsNoBetter table range plan (mix_named table.files first second alpha beta).second
ShowsNoBetter table range plan node Low = Unit {0}
ShowsNoBetter table range plan node High = Unit {0}
ShowsNoBetter table range plan node (Leaf m) = Unit {0}

-- A budget of branchings is spent: all were made, some leaf called for one more, and nothing that they showed was dropped.
pub record HasSpent (table : TableValue) (range : Range) (plan : Option Claimed) (bound : ℕ) (budget : ℕ) (root : Node) (tree : Tree) : Type 0 where
  pub all : branchings tree ≡ budget
  pub one_more : SomeTip (IsOpen table range bound) root tree
  pub no_better : EachFork (ShowsNoBetter table range plan) root tree
