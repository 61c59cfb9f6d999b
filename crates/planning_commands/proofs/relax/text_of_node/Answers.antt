use Rattle.std.proofs.lemmas.Result.{IfOk-weaker}
use Rattle.planning_commands.proofs.RelaxLemmas.{prints_bound}
use Rattle.planning_commands.proofs.relax.text_of_node.Goals as goal

pub returns : goal.returns
returns c =
    let made = c.in_ok-table.ensures in
    IfOk-weaker c.text_of_bound.result _ _
    (λ text printed. prints_bound c.args.recipe.now c.args.range.now c.args.node.now _ c.in-Bound.multipliers c.in-Bound.mix made.table made.sums (rw c.in-Bound.is at c.in_ok-solve_node.ensures) text.items printed) c.text_of_bound.ensures
