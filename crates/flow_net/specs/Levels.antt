use Rattle.std.specs.Prelude.{◌≡◌, ◌≢◌, ℕ, ◌+◌, ◌<◌, ◌≤◌, ◌⊎◌, Bool, true, false, not, nat_lt, if◌then◌else◌, List, length, slice_index, slice_index_or, count_by}
use Rattle.flow_net.specs.declared.pipes.Pipe.{Pipe}
use Rattle.flow_net.specs.declared.links.Link.{Link}
use Rattle.flow_net.specs.Paths.{use_of, left_on, start_of, end_of}
use Rattle.flow_net.specs.Links.{link_at}

-- the level of a node that no search reached
abbrev pub unreached : ℕ
unreached = 4294967295

-- a node's level: how many uses lead to it from the start
abbrev pub level_of : List ℕ → ℕ → ℕ
level_of levels v = slice_index_or levels v unreached

abbrev pub IsReached : List ℕ → ℕ → Type 0
IsReached levels v = level_of levels v < unreached

-- the nodes that were reached, as a test
abbrev pub reached : List ℕ → ℕ → Bool
reached levels v = nat_lt (level_of levels v) unreached

-- a use looked at along its way, or, backward, against it
abbrev pub turned : Bool → Bool → Bool
turned backward back = if backward then not back else back

-- no use with so much left leads out of the set; backward, none leads into it
abbrev pub IsClosed : List Pipe → List ℕ → ℕ → Bool → (ℕ → Bool) → Type 0
IsClosed pipes amounts power backward s =
    (i : ℕ) (back : Bool) → i < length pipes → power ≤ left_on pipes amounts (use_of i (turned backward back)) →
    s (start_of pipes (use_of i back)) ≡ true → s (end_of pipes (use_of i back)) ≡ true

-- a use with so much left leads to the node from one level below, and not from the goal
pub record HasParent (pipes : List Pipe) (amounts : List ℕ) (power : ℕ) (backward : Bool) (goal : ℕ) (levels : List ℕ) (v : ℕ) : Type 0 where
  pub pipe : ℕ
  pub back : Bool
  pub known : pipe < length pipes
  pub ends : end_of pipes (use_of pipe back) ≡ v
  pub lower : level_of levels (start_of pipes (use_of pipe back)) + 1 ≡ level_of levels v
  pub left : power ≤ left_on pipes amounts (use_of pipe (turned backward back))
  pub apart : start_of pipes (use_of pipe back) ≢ goal

abbrev pub is_unreached : ℕ → Bool
is_unreached level = not (nat_lt level unreached)

-- the queue has each node that was reached, and no node has a level above its place
pub record IsQueue (nodes : ℕ) (levels queue : List ℕ) (count : ℕ) : Type 0 where
  pub counted : count + count_by is_unreached levels ≡ nodes
  pub queued : (j : ℕ) → j < count → (slice_index queue j < nodes) × (level_of levels (slice_index queue j) ≤ j)
  pub listed : (v : ℕ) → IsReached levels v → (j : ℕ) × (j < count) × (slice_index queue j ≡ v)

-- with so much left, the link leads to its far node
abbrev pub LeadsFar : List Pipe → List ℕ → ℕ → Bool → Link → Type 0
LeadsFar pipes amounts power backward link = power ≤ left_on pipes amounts (use_of link.pipe (turned backward link.back))

-- some of these nodes were reached newly, at one level above, and nothing else changed
pub record Spreads (able : ℕ → Type 0) (level : ℕ) (levels_old levels_new queue_old queue_new : List ℕ) (count_old count_new : ℕ) : Type 0 where
  pub kept : (v : ℕ) → IsReached levels_old v → level_of levels_new v ≡ level_of levels_old v
  pub near : (v : ℕ) → IsReached levels_new v → IsReached levels_old v ⊎ (able v × (level_of levels_new v ≡ level + 1))
  pub grows : count_old ≤ count_new
  pub queue : (j : ℕ) → j < count_old → slice_index queue_new j ≡ slice_index queue_old j

-- the node at the end of one of the first links of a row that lead on
abbrev pub IsNext : List Pipe → List ℕ → ℕ → Bool → List Link → ℕ → ℕ → Type 0
IsNext pipes amounts power backward row n v =
    (k : ℕ) × (k < n) × ((link_at row k).far ≡ v) × LeadsFar pipes amounts power backward (link_at row k)

-- a search from a node reached what can be reached, or its goal
pub record IsSearched (pipes : List Pipe) (amounts : List ℕ) (power : ℕ) (backward : Bool) (start goal : ℕ) (levels : List ℕ) (found : Bool) : Type 0 where
  pub begin : level_of levels start ≡ 0
  pub low : (v : ℕ) → IsReached levels v → level_of levels v < length levels
  pub parents : (v : ℕ) → IsReached levels v → v ≢ start → HasParent pipes amounts power backward goal levels v
  pub within :
      (s : ℕ → Bool) → IsClosed pipes amounts power backward s → s start ≡ true → (v : ℕ) → IsReached levels v → s v ≡ true
  pub goal_reached : found ≡ true → IsReached levels goal
  pub goal_missed : found ≡ false → level_of levels goal ≡ unreached
  pub closed : found ≡ false → IsClosed pipes amounts power backward (reached levels)
