-- Trees of a search, and when they stand for a bound.
use Rattle.std.specs.Prelude.{◌≡◌, ◌⊎◌, ℕ, ◌+◌, Bool, true, false, List, [], ◌∷◌, ◌++◌, Option, Some, None, IfSome}
use Rattle.seed_model.specs.declared.node.Node.{Node}
use Rattle.seed_model.specs.declared.range.Range.{Range}
use Rattle.seed_model.specs.Tables.{TableValue}
use Rattle.seed_model.specs.Differences.{IsFirstDifference}
use Rattle.seed_model.specs.Nodes.{IsLow, IsHigh, IsMix, ReplicatesUpTo, is_free, put_inside, put_outside}
use Rattle.bound_cert.specs.declared.multipliers.Multipliers.{Multipliers}
use Rattle.bound_cert.specs.declared.node_line.NodeLine.{NodeLine}
use Rattle.bound_cert.specs.declared.node_line.NodeLine.TheVariants.{Branch, Low, High, Leaf}
use Rattle.bound_cert.specs.Multipliers.{AreMultipliers, ReachesBound}
use Rattle.bound_cert.specs.Sets.{IsSetOf, set_named, mix_named}

-- a leaf, or a branching with the tree of its out child and that of its in child
pub data Tree : Type 0 where
  Tip : (line : NodeLine) → Tree
  Fork : (line : NodeLine) (out : Tree) (inn : Tree) → Tree

-- the nodes' lines, the out child first
abbrev pub preorder : Tree → List NodeLine
preorder (Tip line) = line ∷ []
preorder (Fork line out inn) = line ∷ (preorder out ++ preorder inn)

abbrev pub branchings : Tree → ℕ
branchings (Tip line) = 0
branchings (Fork line out inn) = branchings out + branchings inn + 1

-- multipliers close a node: no member in range replicates less than the bound; where there is none, they close nothing
abbrev pub ClosesByBound : TableValue → Range → Option ℕ → Node → Multipliers → Type 0
ClosesByBound table range None node m = ⊥
ClosesByBound table range (Some bound) node m = AreMultipliers table m × ReachesBound table range node bound m

-- a branching is called for: its mix is one of the node's, replicates no more than the bound, and differs first at a
-- free file
pub record IsDeserved (table : TableValue) (range : Range) (bound : Option ℕ) (node : Node) (file : ℕ) (first second : List ℕ) (alpha beta : ℕ) : Type 0 where
  pub first_set : IsSetOf table.files first
  pub second_set : IsSetOf table.files second
  pub free : is_free node file ≡ true
  pub differs : IsFirstDifference (set_named table.files first) (set_named table.files second) file
  pub mix : IsMix table range node (mix_named table.files first second alpha beta)
  pub within : IfSome bound (ReplicatesUpTo table (mix_named table.files first second alpha beta))

-- a line is right at its node: a branching is called for, and a leaf closes the node
abbrev pub IsJustified : TableValue → Range → Option ℕ → Node → NodeLine → Type 0
IsJustified table range bound node (Branch file first second alpha beta) = IsDeserved table range bound node file first second alpha beta
IsJustified table range bound node Low = IsLow table range node
IsJustified table range bound node High = IsHigh table range node
IsJustified table range bound node (Leaf m) = ClosesByBound table range bound node m

abbrev pub is_branch : NodeLine → Bool
is_branch (Branch file first second alpha beta) = true
is_branch Low = false
is_branch High = false
is_branch (Leaf m) = false

-- the children of a node, the out child first
abbrev pub out_child : NodeLine → Node → Node
out_child (Branch file first second alpha beta) node = put_outside file node
out_child Low node = node
out_child High node = node
out_child (Leaf m) node = node

abbrev pub in_child : NodeLine → Node → Node
in_child (Branch file first second alpha beta) node = put_inside file node
in_child Low node = node
in_child High node = node
in_child (Leaf m) node = node

-- a tree stands for a bound at a node: each line is right at its node
abbrev pub Stands : TableValue → Range → Option ℕ → Node → Tree → Type 0
Stands table range bound node (Tip line) = (is_branch line ≡ false) × IsJustified table range bound node line
Stands table range bound node (Fork line out inn) =
    (is_branch line ≡ true) × IsJustified table range bound node line × Stands table range bound (out_child line node) out × Stands table range bound (in_child line node) inn

-- the nodes that a line opens
abbrev pub opened : NodeLine → Node → List Node
opened (Branch file first second alpha beta) node = put_outside file node ∷ put_inside file node ∷ []
opened Low node = []
opened High node = []
opened (Leaf m) node = []

-- the lines lead from the nodes still to be read to those left, each right at its node
abbrev pub Reads : TableValue → Range → Option ℕ → List Node → List NodeLine → List Node → Type 0
Reads table range bound waiting [] left = waiting ≡ left
Reads table range bound [] (line ∷ lines) left = ⊥
Reads table range bound (node ∷ waiting) (line ∷ lines) left =
    IsJustified table range bound node line × Reads table range bound (opened line node ++ waiting) lines left

-- something holds of each branching at its node, or of some leaf's node
abbrev pub EachFork : (Node → NodeLine → Type 0) → Node → Tree → Type 0
EachFork P node (Tip line) = Unit {0}
EachFork P node (Fork line out inn) = P node line × EachFork P (out_child line node) out × EachFork P (in_child line node) inn

abbrev pub SomeTip : (Node → Type 0) → Node → Tree → Type 0
SomeTip P node (Tip line) = P node
SomeTip P node (Fork line out inn) = SomeTip P (out_child line node) out ⊎ SomeTip P (in_child line node) inn
