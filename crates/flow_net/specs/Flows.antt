use Rattle.std.specs.Prelude.{◌≡◌, ◌≢◌, ℕ, ◌<◌, ◌≤◌, Bool, true, false, not, ◌&&◌, ◌==◌, if◌then◌else◌, List, length, sum_by, slice_index, slice_index_or}
use Rattle.std.specs.List.{zip}
use Rattle.flow_net.specs.declared.pipes.Pipe.{Pipe}
use Rattle.flow_net.specs.Nets.{NetValue, pipe_at}

-- the sum of the amounts on those things, as pipes, that pass a test; each has the amount at its place
abbrev pub amount_on : {X : Type 0} → (X → Bool) → List X → List ℕ → ℕ
amount_on {X} test xs amounts = sum_by (λ (p : X × ℕ). if test p.0 then p.1 else 0) (zip xs amounts)

-- a set of nodes is a test; what flows on the pipes from its nodes, and on those to its nodes
abbrev pub out_of : (ℕ → Bool) → List Pipe → List ℕ → ℕ
out_of s pipes amounts = amount_on (λ p. s p.from) pipes amounts

abbrev pub into : (ℕ → Bool) → List Pipe → List ℕ → ℕ
into s pipes amounts = amount_on (λ p. s p.to) pipes amounts

-- what a pipe costs a set's cut: its room, where it leaves the set
abbrev pub pipe_cost : (ℕ → Bool) → Pipe → ℕ
pipe_cost s p = if s p.from && not (s p.to) then p.room else 0

-- what a set's cut costs: the rooms of the pipes that leave it
abbrev pub cost : (ℕ → Bool) → List Pipe → ℕ
cost s pipes = sum_by (pipe_cost s) pipes

-- the flow keeps within the rooms, and as much flows into each node but source and sink as out of it
pub record IsFlow (net : NetValue) (source sink : ℕ) (amounts : List ℕ) : Type 0 where
  pub each : length amounts ≡ length net.pipes
  pub within : (i : ℕ) → i < length net.pipes → slice_index amounts i ≤ (pipe_at net.pipes i).room
  pub conserved :
      (v : ℕ) → v < net.nodes → v ≢ source → v ≢ sink →
      out_of (λ u. u == v) net.pipes amounts ≡ into (λ u. u == v) net.pipes amounts

-- a source side: it has the source, and not the sink
abbrev pub IsSide : ℕ → ℕ → (ℕ → Bool) → Type 0
IsSide source sink s = (s source ≡ true) × (s sink ≡ false)

-- the source side of a least cut: no other source side costs less
abbrev pub IsLeastCut : List Pipe → ℕ → ℕ → (ℕ → Bool) → Type 0
IsLeastCut pipes source sink s =
    IsSide source sink s × ((t : ℕ → Bool) → IsSide source sink t → cost s pipes ≤ cost t pipes)

-- each pipe that leaves the side is full, and each that enters it is empty
pub record IsTight (s : ℕ → Bool) (pipes : List Pipe) (amounts : List ℕ) : Type 0 where
  pub full :
      (i : ℕ) → i < length pipes → s (pipe_at pipes i).from ≡ true → s (pipe_at pipes i).to ≡ false →
      slice_index amounts i ≡ (pipe_at pipes i).room
  pub empty :
      (i : ℕ) → i < length pipes → s (pipe_at pipes i).from ≡ false → s (pipe_at pipes i).to ≡ true →
      slice_index amounts i ≡ 0

-- the node is in the side that a list of booleans gives
abbrev pub is_in : List Bool → ℕ → Bool
is_in side v = slice_index_or side v false

-- each room is below the limit
abbrev pub AreRoomsBelow : ℕ → List Pipe → Type 0
AreRoomsBelow limit pipes = (i : ℕ) → i < length pipes → (pipe_at pipes i).room < limit
