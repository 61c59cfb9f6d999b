-- How much a flow carries from its source to its sink.
use Rattle.std.specs.Prelude.{◌≡◌, ℕ, ◌+◌, ◌<◌, ◌≤◌, ◌==◌, Bool, List}
use Rattle.flow_net.specs.declared.pipes.Pipe.{Pipe}
use Rattle.flow_net.specs.Nets.{NetValue, IsNet}
use Rattle.flow_net.specs.Flows.{out_of, into, cost, IsFlow, IsSide, IsTight}

-- what flows out of a node, and into it
abbrev pub out_at : ℕ → List Pipe → List ℕ → ℕ
out_at v pipes amounts = out_of (λ u. u == v) pipes amounts

abbrev pub into_at : ℕ → List Pipe → List ℕ → ℕ
into_at v pipes amounts = into (λ u. u == v) pipes amounts

-- one flow carries at most what another does, which is what leaves the source less what enters it
abbrev pub CarriesAtMost : List Pipe → ℕ → List ℕ → List ℕ → Type 0
CarriesAtMost pipes source one other =
    out_at source pipes one + into_at source pipes other ≤ out_at source pipes other + into_at source pipes one

-- no flow carries more than a source side costs
abbrev pub SidesBound : Type 0
SidesBound =
    (net : NetValue) (source sink : ℕ) (amounts : List ℕ) (s : ℕ → Bool) →
    IsNet net → source < net.nodes → IsFlow net source sink amounts → IsSide source sink s →
    out_at source net.pipes amounts ≤ into_at source net.pipes amounts + cost s net.pipes

-- and one that fills a source side carries just that
abbrev pub TightSidesAreCarried : Type 0
TightSidesAreCarried =
    (net : NetValue) (source sink : ℕ) (amounts : List ℕ) (s : ℕ → Bool) →
    IsNet net → source < net.nodes → IsFlow net source sink amounts → IsSide source sink s → IsTight s net.pipes amounts →
    out_at source net.pipes amounts ≡ into_at source net.pipes amounts + cost s net.pipes
