use Rattle.goseed_top.proofs.CommandLemmas.{all_lawful}
use Rattle.goseed_top.proofs.laws.command_laws.Goals as goal

pub returns : goal.returns
returns c =
    let plans = c.planning_laws.ensures in
    let trials = c.trial_laws.ensures in
    let orders = c.order_command_laws.ensures in
    all_lawful plans.best plans.weigh plans.check plans.relax plans.plan plans.pinned trials.drawing trials.greedy trials.gap orders.sorting orders.carrying
