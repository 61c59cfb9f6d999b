-- The tree that the entries of a search make, by their numbers.
use Rattle.std.specs.Prelude.{◌≡◌, ℕ, ◌+◌, ◌==◌, ◌<◌, ◌≤◌, List, [], ◌∷◌, ◌++◌, Option, Some, None, if◌then◌else◌}
use Rattle.seed_model.specs.declared.node.Node.{Node}
use Rattle.seed_model.specs.Nodes.{put_inside, put_outside}
use Rattle.branch_bound.specs.declared.entry.Entry.{Entry}

-- a node without children, or one with the tree of its out child and that of its in child
pub data SearchTree : Type 0 where
  Childless : (number : ℕ) → SearchTree
  Parent : (number : ℕ) (out : SearchTree) (inn : SearchTree) → SearchTree

-- the number of its root
abbrev pub top : SearchTree → ℕ
top (Childless number) = number
top (Parent number out inn) = number

-- the numbers in preorder, the out child first
abbrev pub numbers : SearchTree → List ℕ
numbers (Childless number) = number ∷ []
numbers (Parent number out inn) = number ∷ (numbers out ++ numbers inn)

-- how many nodes have children
abbrev pub parents : SearchTree → ℕ
parents (Childless number) = 0
parents (Parent number out inn) = parents out + parents inn + 1

abbrev pub is_at : ℕ → ℕ → ℕ
is_at number other = if other == number then 1 else 0

-- how often a number stands in a tree
abbrev pub times : ℕ → SearchTree → ℕ
times k (Childless number) = is_at k number
times k (Parent number out inn) = is_at k number + times k out + times k inn

-- each number below n stands once, and no other does
abbrev pub StandsOnce : ℕ → SearchTree → Type 0
StandsOnce n tree = (k : ℕ) → (k < n → times k tree ≡ 1) × (n ≤ k → times k tree ≡ 0)

-- a node without children gets two, with the next two numbers
abbrev pub grown : ℕ → ℕ → SearchTree → SearchTree
grown k n (Childless number) = if number == k then Parent number (Childless n) (Childless (n + 1)) else Childless number
grown k n (Parent number out inn) = Parent number (grown k n out) (grown k n inn)

-- the links from number to number lead through a tree in preorder, and from its last number on
abbrev pub LeadsThrough : (ℕ → Option ℕ) → SearchTree → Option ℕ → Type 0
LeadsThrough next (Childless number) behind = next number ≡ behind
LeadsThrough next (Parent number out inn) behind =
    (next number ≡ Some (top out)) × LeadsThrough next out (Some (top inn)) × LeadsThrough next inn behind

-- the nodes with children are those with a file, and a child's node is its parent's with the file put on one side
pub record IsParent (file : Option ℕ) (node out inn : Node) : Type 0 where
  pub chosen : ℕ
  pub is : file ≡ Some chosen
  pub out_is : out ≡ put_outside chosen node
  pub in_is : inn ≡ put_inside chosen node

abbrev pub IsTreeOf : (ℕ → Entry) → (ℕ → Node) → SearchTree → Type 0
IsTreeOf at nodes (Childless number) = (at number).file ≡ None
IsTreeOf at nodes (Parent number out inn) =
    IsParent (at number).file (nodes number) (nodes (top out)) (nodes (top inn)) × IsTreeOf at nodes out × IsTreeOf at nodes inn
