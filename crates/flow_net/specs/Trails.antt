use Rattle.std.specs.Prelude.{◌≡◌, ◌≢◌, ℕ, ◌+◌, ◌<◌, ◌≤◌, false, not, List, [], ◌∷◌, length, drop, slice_index, slice_index_or}
use Rattle.flow_net.specs.declared.pipes.Pipe.{Pipe}
use Rattle.flow_net.specs.declared.pipes.Use.{Use}
use Rattle.flow_net.specs.declared.links.Link.{Link}
use Rattle.flow_net.specs.Nets.{NetValue}
use Rattle.flow_net.specs.Paths.{use_of, left_on, end_of, IsPath, HaveLeft}
use Rattle.flow_net.specs.Links.{Adjacency, link_at, row_of}
use Rattle.flow_net.specs.Levels.{level_of, IsReached}

-- the use against a link leads from one level below with enough left
pub record IsGood (pipes : List Pipe) (amounts : List ℕ) (power : ℕ) (levels : List ℕ) (level : ℕ) (link : Link) : Type 0 where
  pub lower : level_of levels link.far + 1 ≡ level
  pub left : power ≤ left_on pipes amounts (use_of link.pipe (not link.back))

-- each use ends one level above where it begins
abbrev pub Rises : List Pipe → List ℕ → ℕ → List Use → Type 0
Rises pipes levels level [] = Unit {0}
Rises pipes levels level (u ∷ us) = (level_of levels (end_of pipes u) ≡ level + 1) × Rises pipes levels (level + 1) us

-- a path along rising levels with enough left
pub record IsTrail (pipes : List Pipe) (amounts : List ℕ) (power : ℕ) (levels : List ℕ) (from to : ℕ) (path : List Use) : Type 0 where
  pub leads : IsPath pipes from to path
  pub rises : Rises pipes levels (level_of levels from) path
  pub left : HaveLeft pipes amounts power path

-- a walk back from the sink has come to a node, by a trail at the end of the path
pub record IsWalk (net : NetValue) (amounts : List ℕ) (power : ℕ) (levels : List ℕ) (sink : ℕ) (path : List Use) (node : ℕ) : Type 0 where
  pub known : node < net.nodes
  pub low : level_of levels node ≤ length path
  pub trail : IsTrail net.pipes amounts power levels node sink (drop (level_of levels node) path)

-- each node has a level, and the source alone has level 0
pub record IsLevelled (nodes source : ℕ) (levels : List ℕ) : Type 0 where
  pub each : length levels ≡ nodes
  pub begin : level_of levels source ≡ 0
  pub only : (v : ℕ) → v < nodes → level_of levels v ≡ 0 → v ≡ source

-- a node alone has got another level, which is not 0
pub record IsLifted (node : ℕ) (old new : List ℕ) : Type 0 where
  pub above : 1 ≤ level_of new node
  pub others : (v : ℕ) → v ≢ node → level_of new v ≡ level_of old v

-- no pointer is past the end of its row
abbrev pub AreBounded : ℕ → Adjacency → List ℕ → Type 0
AreBounded nodes adjacency next = (v : ℕ) → v < nodes → slice_index next v ≤ length (row_of adjacency v)

-- a link from the pointer on by which a node can be reached
pub record HasWay (pipes : List Pipe) (amounts : List ℕ) (power : ℕ) (levels : List ℕ) (row : List Link) (level from : ℕ) : Type 0 where
  pub place : ℕ
  pub behind : from ≤ place
  pub within : place < length row
  pub good : IsGood pipes amounts power levels level (link_at row place)

-- each node that was reached has such a link
abbrev pub HaveWays : List Pipe → List ℕ → ℕ → List ℕ → Adjacency → ℕ → ℕ → List ℕ → Type 0
HaveWays pipes amounts power levels adjacency nodes source next =
    (v : ℕ) → v < nodes → IsReached levels v → v ≢ source →
    HasWay pipes amounts power levels (row_of adjacency v) (level_of levels v) (slice_index next v)

abbrev pub use_at : List Use → ℕ → Use
use_at path k = slice_index_or path k (record { pipe = 0; back = false })
