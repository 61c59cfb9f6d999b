use Rattle.std.specs.Prelude.{◌≡◌, ℕ, ◌<◌, Bool, true, not, if◌then◌else◌, List, length, replicate}
use Rattle.flow_net.specs.declared.cuts.Prepared.{Prepared}
use Rattle.flow_net.specs.Nets.{NetValue, IsNet}
use Rattle.flow_net.specs.Links.{IsAdjacency}
use Rattle.flow_net.specs.Runs.{IsScratchFor}
use Rattle.flow_net.specs.Flows.{IsLeastCut, IsTight, is_in}

-- what a call begins with: nothing on any pipe, and a place for each node in each list
pub record IsPrepared (net : NetValue) (prepared : Prepared) : Type 0 where
  pub lawful : IsNet net
  pub adjacency : IsAdjacency net prepared.adjacency
  pub places : IsScratchFor net.nodes prepared.run.scratch
  pub none : prepared.run.filling.pushes ≡ 0
  pub empty : prepared.run.filling.amounts ≡ replicate (length net.pipes) 0
  pub least : length prepared.least.items ≡ net.nodes
  pub greatest : length prepared.greatest.items ≡ net.nodes

-- the smallest and the largest source side of a least cut, both tight
pub record AreSides (net : NetValue) (source sink : ℕ) (amounts : List ℕ) (least greatest : List Bool) : Type 0 where
  pub least_cut : IsLeastCut net.pipes source sink (is_in least)
  pub greatest_cut : IsLeastCut net.pipes source sink (is_in greatest)
  pub least_tight : IsTight (is_in least) net.pipes amounts
  pub greatest_tight : IsTight (is_in greatest) net.pipes amounts
  pub smallest :
      (s : ℕ → Bool) → IsLeastCut net.pipes source sink s → (v : ℕ) → is_in least v ≡ true → s v ≡ true
  pub largest :
      (s : ℕ → Bool) → IsLeastCut net.pipes source sink s → (v : ℕ) → v < net.nodes → s v ≡ true → is_in greatest v ≡ true

-- a test, or its opposite
abbrev pub chosen : Bool → Bool → Bool
chosen which b = if which then b else not b
