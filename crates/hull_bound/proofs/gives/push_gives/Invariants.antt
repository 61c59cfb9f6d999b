use Rattle.std.proofs.Common.{◌≡◌, ◌<◌, ◌≤◌, ◌+◌, ◌^◌, ◌++◌, drop}
use Rattle.std.specs.List.{filter}
use Rattle.seed_model.specs.Files.{holds}
use Rattle.seed_model.specs.Nodes.{is_free}
use Rattle.hull_bound.specs.Forms.{is_some_give}
use Rattle.hull_bound.specs.Walks.{walk, asked}
use Rattle.hull_bound.proofs.gives.push_gives.Given as goal

abbrev pub invariant-loop-file : goal.invariant-loop-file
invariant-loop-file l = record {
  rest : l.rewards.rest < 2 ^ 104;
  due : l.charges.rest < 2 ^ 104;
  reward_pipe : l.rewards.pipe ≤ l.fn.shares.rewards.pipe + l.file-index;
  charge_pipe : l.charges.pipe ≤ l.fn.shares.charges.pipe + l.file-index;
  left :
      l.gives.items
      ++ filter is_some_give
      (walk (is_free l.node) (asked l.node l.barred) (holds l.node.inside) l.class (drop l.file-index l.users) l.rewards.rest l.charges.rest (drop l.rewards.pipe l.amounts.flow.now.amounts) (drop l.charges.pipe l.amounts.flow.now.amounts))
      ≡ l.fn.gives.items
      ++ filter is_some_give
      (walk (is_free l.node) (asked l.node l.barred) (holds l.node.inside) l.class l.users l.fn.shares.rewards.rest l.fn.shares.charges.rest (drop l.fn.shares.rewards.pipe l.amounts.flow.now.amounts) (drop l.fn.shares.charges.pipe l.amounts.flow.now.amounts));
}
