use Rattle.std.proofs.Common.{◌≡◌, ◌-◌, ◌≤◌, List}
use Rattle.bound_cert.specs.declared.multipliers.Give.{Give}
use Rattle.cert_check.specs.Leaves.{AreSums, StaysSmall}
use Rattle.cert_check.proofs.leaf_sums.LeafSums.advance.Given as goal

-- the sums stay those of the gives while class after class is judged
abbrev pub invariant-loop-self : goal.invariant-loop-self
invariant-loop-self l = record {
  small : StaysSmall l.self;
  class : l.self.class ≤ l.class;
  rest : (l.self.p ≡ l.fn.self.p) × (l.self.q ≡ l.fn.self.q) × (l.self.gives ≡ l.fn.self.gives) × (l.self.shares ≡ l.fn.self.shares);
  sums : (gives : List Give) → AreSums l.table gives l.fn.self → AreSums l.table gives l.self;
}

abbrev pub decreases-loop-self : goal.decreases-loop-self
decreases-loop-self l = l.class - l.self.class
