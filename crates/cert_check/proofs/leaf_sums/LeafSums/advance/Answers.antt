use Rattle.std.proofs.Common.{◌≡◌, ◌≤◌, sym, subst, arith}
use Rattle.cert_check.specs.declared.leaf_sums.LeafSums.{LeafSums}
use Rattle.cert_check.specs.Leaves.{AreSums, StaysSmall, behind_class}
use Rattle.cert_check.proofs.Leafing.{class_next}
use Rattle.cert_check.proofs.leaf_sums.LeafSums.advance.Goals as goal

pub loop-self-preserved : goal.loop-self-preserved
loop-self-preserved c =
    let was : LeafSums = c.loop-self.self in
    let is : behind_class c.size.result was ≡ c.judge_class.new.self = sym c.judge_class.ensures in
    let small : StaysSmall (behind_class c.size.result was) = record {
      p = c.loop-self.invariant.small.p;
      q = c.loop-self.invariant.small.q;
      gives = c.loop-self.invariant.small.gives;
      charge = omega arith;
      reward = omega arith;
      charges = c.loop-self.invariant.small.charges;
      rewards = c.loop-self.invariant.small.rewards;
    } in
    let rest = c.loop-self.invariant.rest in
    record {
      small = subst (λ (s : LeafSums). StaysSmall s) is small;
      class = subst (λ (s : LeafSums). s.class ≤ c.args.class) is (omega (arith, c.loop-self-test.true));
      rest = subst (λ (s : LeafSums). (s.p ≡ c.args.self.now.p) × (s.q ≡ c.args.self.now.q) × (s.gives ≡ c.args.self.now.gives) × (s.shares ≡ c.args.self.now.shares)) is rest;
      sums = λ gives from. subst (λ (s : LeafSums). AreSums c.args.table.now gives s) is (class_next c.args.table.now gives was c.size.result c.size.ensures.size (c.loop-self.invariant.sums gives from));
    }
