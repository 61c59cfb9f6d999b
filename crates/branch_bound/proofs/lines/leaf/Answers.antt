use Rattle.std.proofs.Common.{refl, subst}
use Rattle.hull_bound.specs.Forms.{AreMultipliersAt}
use Rattle.branch_bound.proofs.lines.leaf.Goals as goal

pub returns : goal.returns
returns c = λ nodes h. record {
  multipliers = c.in_ok-multipliers.multipliers;
  is = refl;
  at_slope = subst (λ z. AreMultipliersAt c.args.table.now z c.args.relaxation.now.p c.args.relaxation.now.q c.in_ok-multipliers.multipliers) (c.in_ok-node.ensures.node nodes h) c.in_ok-multipliers.ensures;
}
