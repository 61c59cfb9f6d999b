use Rattle.std.specs.Prelude.{◌↔◌, IsTrue}
use Rattle.std.proofs.Common.{sym}
use Rattle.seed_model.specs.declared.node.Node.{Node}
use Rattle.seed_model.specs.declared.range.Range.{Range}
use Rattle.seed_model.specs.Nodes.{IsHigh}
use Rattle.cert_rules.proofs.Rules.{both, fails, high_fails, high_pass}
use Rattle.cert_rules.proofs.closing.judge_high.Goals as goal

pub returns-then-is_high : goal.returns-then-is_high
returns-then-is_high c = λ told range node.
    let told_so = both (λ (r : Range) (n : Node). IsTrue c.is_high.result ↔ IsHigh c.args.table.now r n) (sym range) (sym node) c.is_high.ensures in
    high_pass c.args.table.now told (told_so.0 c.if-is_high.true)

pub returns-else-is_high : goal.returns-else-is_high
returns-else-is_high c = λ told range node.
    let told_so = both (λ (r : Range) (n : Node). IsTrue c.is_high.result ↔ IsHigh c.args.table.now r n) (sym range) (sym node) c.is_high.ensures in
    high_fails c.args.table.now told (fails _ _ c.if-is_high.false told_so)
