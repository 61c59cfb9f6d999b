-- The nodes that are still to be read in a tree, as a path from the node in work up to the root.
use Rattle.std.specs.Prelude.{◌≡◌, ℕ, zero, suc, ◌<◌, List, [], ◌∷◌, length, Bool, true, false, slice_index_or, slice_set, if◌then◌else◌}
use Rattle.seed_model.specs.declared.node.Node.{Node}
use Rattle.seed_model.specs.Files.{holds}
use Rattle.seed_model.specs.Nodes.{put_inside}
use Rattle.cert_check.specs.declared.path.Side.{Side}
use Rattle.cert_check.specs.declared.path.Side.TheVariants.{Outside, Inside}
use Rattle.cert_check.specs.declared.path.Step.{Step}

abbrev pub no_step : Step
no_step = record { file = 0; side = Outside }

abbrev pub step_at : List Step → ℕ → Step
step_at steps place = slice_index_or steps place no_step

-- the node with a file taken out of the side on which it was put
abbrev pub freed : Side → ℕ → Node → Node
freed Outside file node = record { inside = node.inside; outside = slice_set node.outside file false }
freed Inside file node = record { inside = slice_set node.inside file false; outside = node.outside }

-- the node above a step
abbrev pub above : Step → Node → Node
above step node = freed step.side step.file node

-- the root above so many steps
abbrev pub top : List Step → ℕ → Node → Node
top steps zero node = node
top steps (suc depth) node = top steps depth (above (step_at steps depth) node)

-- the in child that a step leaves to be read, where it led to the out child
abbrev pub left_by : Side → ℕ → Node → List Node → List Node
left_by Outside file node more = put_inside file node ∷ more
left_by Inside file node more = more

-- the nodes to be read behind the one in work
abbrev pub behind : List Step → ℕ → Node → List Node
behind steps zero node = []
behind steps (suc depth) node =
    let step = step_at steps depth in
    let over = above step node in
    left_by step.side step.file over (behind steps depth over)

-- a file is on one side of a node, and on no other
abbrev pub IsPut : Side → ℕ → Node → Type 0
IsPut Outside file node = (holds node.inside file ≡ false) × (holds node.outside file ≡ true)
IsPut Inside file node = (holds node.inside file ≡ true) × (holds node.outside file ≡ false)

-- each step has put a file that was free
abbrev pub ArePut : List Step → ℕ → Node → Type 0
ArePut steps zero node = Unit {0}
ArePut steps (suc depth) node =
    let step = step_at steps depth in
    (step.file < length steps) × IsPut step.side step.file node × ArePut steps depth (above step node)

-- what is seen of a path: the root, and the nodes still to be read, the one in work first
pub record PathValue : Type 0 where
  pub root : Node
  pub waiting : List Node

abbrev pub waiting_of : Bool → List Step → ℕ → Node → List Node
waiting_of reads steps depth node = if reads then node ∷ behind steps depth node else []

-- a path has a place for a step on each file; where nothing is to be read, it stands at the root
pub record IsPath (steps : List Step) (depth : ℕ) (node : Node) (reads : Bool) : Type 0 where
  pub inside : length node.inside ≡ length steps
  pub outside : length node.outside ≡ length steps
  pub put : ArePut steps depth node
  pub over : reads ≡ false → depth ≡ 0

-- the node in work
abbrev pub no_node : Node
no_node = record { inside = []; outside = [] }

abbrev pub node_in : PathValue → Node
node_in path = slice_index_or path.waiting 0 no_node
