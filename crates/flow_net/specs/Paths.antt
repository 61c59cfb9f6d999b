use Rattle.std.specs.Prelude.{◌≡◌, ◌≢◌, ℕ, ◌+◌, ◌-◌, ◌<◌, ◌≤◌, Bool, true, false, if◌then◌else◌, List, [], ◌∷◌, length, slice_index, slice_set, All, AllPairs, Contains}
use Rattle.flow_net.specs.declared.pipes.Pipe.{Pipe}
use Rattle.flow_net.specs.declared.pipes.Use.{Use}
use Rattle.flow_net.specs.Nets.{pipe_at}

-- a use of a pipe, by its number and whether it is back
abbrev pub use_of : ℕ → Bool → Use
use_of i back = record { pipe = i; back = back }

-- the node at which a use begins
abbrev pub start_of : List Pipe → Use → ℕ
start_of pipes u = if u.back then (pipe_at pipes u.pipe).to else (pipe_at pipes u.pipe).from

-- the node at which a use ends
abbrev pub end_of : List Pipe → Use → ℕ
end_of pipes u = if u.back then (pipe_at pipes u.pipe).from else (pipe_at pipes u.pipe).to

-- how much more a use can carry: what is free on the pipe, or, used back, what it carries
abbrev pub left_on : List Pipe → List ℕ → Use → ℕ
left_on pipes amounts u =
    if u.back then slice_index amounts u.pipe else (pipe_at pipes u.pipe).room - slice_index amounts u.pipe

-- the uses lead from a to b, each from the node at which the one before ends
abbrev pub IsPath : List Pipe → ℕ → ℕ → List Use → Type 0
IsPath pipes a b [] = a ≡ b
IsPath pipes a b (u ∷ us) = (u.pipe < length pipes) × (start_of pipes u ≡ a) × IsPath pipes (end_of pipes u) b us

-- the nodes that a path from a meets, in order
abbrev pub nodes_of : List Pipe → ℕ → List Use → List ℕ
nodes_of pipes a [] = a ∷ []
nodes_of pipes a (u ∷ us) = a ∷ nodes_of pipes (end_of pipes u) us

-- a path from one node to another that meets no node twice
pub record LeadsOn (pipes : List Pipe) (path : List Use) : Type 0 where
  pub from : ℕ
  pub to : ℕ
  pub apart : from ≢ to
  pub leads : IsPath pipes from to path
  pub once : AllPairs ◌≢◌ (nodes_of pipes from path)

-- each use can carry at least so much more
abbrev pub HaveLeft : List Pipe → List ℕ → ℕ → List Use → Type 0
HaveLeft pipes amounts least [] = Unit {0}
HaveLeft pipes amounts least (u ∷ us) = (least ≤ left_on pipes amounts u) × HaveLeft pipes amounts least us

-- after a push along a path each pipe that it uses forward carries the amount more, each that it uses back the amount
-- less, and each other what it did
pub record IsPushed (amount : ℕ) (path : List Use) (old new : List ℕ) : Type 0 where
  pub each : length new ≡ length old
  pub forward : (i : ℕ) → Contains path (use_of i false) → slice_index new i ≡ slice_index old i + amount
  pub back : (i : ℕ) → Contains path (use_of i true) → slice_index new i + amount ≡ slice_index old i
  pub others : (i : ℕ) → All (λ u. u.pipe ≢ i) path → slice_index new i ≡ slice_index old i

-- the amounts after one use carried d more
abbrev pub used : ℕ → List ℕ → Use → List ℕ
used d amounts u =
    slice_set amounts u.pipe
    (if u.back then slice_index amounts u.pipe - d else slice_index amounts u.pipe + d)

-- the amounts after each use of a path carried d more
abbrev pub pushed : ℕ → List ℕ → List Use → List ℕ
pushed d amounts [] = amounts
pushed d amounts (u ∷ us) = pushed d (used d amounts u) us
