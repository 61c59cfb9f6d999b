use Rattle.std.proofs.Common.{◌≡◌, ◌==◌, ◌∙◌, ℕ, ◌+◌, ◌≤◌, List, [], Bool, get_or, take, ap, subst, sym, arith}
use Rattle.std.specs.Prelude.{if◌then◌else◌}
use Rattle.seed_mover.specs.declared.putting.blocks.NewCounts.{NewCounts}
use Rattle.seed_mover.specs.Blocks.{CountsNew, more_new, place_in}
use Rattle.seed_mover.proofs.PutCounts.{counts_more, counts_none, each_at, few_more}
use Rattle.seed_mover.proofs.putting.blocks.counts_of.Goals as goal

pub loop-place-init : goal.loop-place-init
loop-place-init c = record { counts = counts_none c.args.holding.now.shape c.args.names.now; names = omega arith; unused = omega arith; lacking = omega arith }

pub loop-place-preserved : goal.loop-place-preserved
loop-place-preserved c =
    let a = c.args.holding.now.shape in
    let names = c.args.names.now in
    let k = c.loop-place.place in
    let inside = c.loop-place-test.true in
    let own = get_or names k [] in
    let counts = c.loop-place.counts in
    let inv = c.loop-place.invariant in
    let first : Bool = get_or c.args.firsts.now k 0 == k in
    let is : first ≡ (place_in names own == k) = ap (λ (n : ℕ). n == k) (ap (λ (l : List ℕ). get_or l k 0) c.requires.firsts ∙ each_at (place_in names) names k [] 0 inside) in
    let few = few_more a counts own first k inv.names inv.unused inv.lacking in
    let made : (if first then more_new a counts own else counts) ≡ c.with_name-counts.result = sym c.with_name-counts.ensures in
    record {
      counts = subst (CountsNew a (take (k + 1) names)) made (counts_more names k inside a counts first is inv.counts);
      names = subst (λ (x : NewCounts). x.names ≤ k + 1) made few.0;
      unused = subst (λ (x : NewCounts). x.unused ≤ k + 1) made few.1;
      lacking = subst (λ (x : NewCounts). x.lacking ≤ k + 1) made few.2;
    }
