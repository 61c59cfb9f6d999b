use Rattle.std.specs.Prelude.{◌↔◌, IsTrue}
use Rattle.std.proofs.Common.{sym}
use Rattle.seed_model.specs.declared.node.Node.{Node}
use Rattle.seed_model.specs.declared.range.Range.{Range}
use Rattle.seed_model.specs.Nodes.{IsLow}
use Rattle.cert_rules.proofs.Rules.{both, fails, low_fails, low_pass}
use Rattle.cert_rules.proofs.closing.judge_low.Goals as goal

pub returns-then-is_low : goal.returns-then-is_low
returns-then-is_low c = λ told range node.
    let told_so = both (λ (r : Range) (n : Node). IsTrue c.is_low.result ↔ IsLow c.args.table.now r n) (sym range) (sym node) c.is_low.ensures in
    low_pass c.args.table.now told (told_so.0 c.if-is_low.true)

pub returns-else-is_low : goal.returns-else-is_low
returns-else-is_low c = λ told range node.
    let told_so = both (λ (r : Range) (n : Node). IsTrue c.is_low.result ↔ IsLow c.args.table.now r n) (sym range) (sym node) c.is_low.ensures in
    low_fails c.args.table.now told (fails _ _ c.if-is_low.false told_so)
