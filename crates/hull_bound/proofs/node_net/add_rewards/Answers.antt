use Rattle.std.proofs.Common.{◌≡◌, true, get_or, drop, refl}
use Rattle.seed_model.specs.Keys.{class_at}
use Rattle.seed_model.specs.Nodes.{is_free}
use Rattle.hull_bound.specs.Slots.{reward_slots, reward_spokes}
use Rattle.hull_bound.proofs.Building.{rewards_come, few_left}
use Rattle.hull_bound.proofs.node_net.add_rewards.Goals as goal

pub add-requires-then-is_open-clause-few : goal.add-requires-then-is_open-clause-few
add-requires-then-is_open-clause-few c =
    let z = (class_at c.args.table.now.classes c.args.class).size in
    let us = c.users-users.result.now in
    let free : is_free c.args.node.now (get_or us c.loop-file.file-index 0) ≡ true = rw (← c.is_open.ensures, c.if-is_open.true) refl in
    few_left c.args.table.now.files c.args.slope.p c.args.slope.q c.loop-file.net.pipes c.args.net.now.pipes
    (reward_spokes (is_free c.args.node.now) c.args.class z (drop c.loop-file.file-index us))
    (reward_slots c.args.node.now c.args.class (class_at c.args.table.now.classes c.args.class))
    c.loop-file.invariant.left c.requires.few
    (rewards_come (is_free c.args.node.now) c.args.class z us c.loop-file.file-index c.loop-file-test.true free)
