use Rattle.std.proofs.Common.{◌≡◌, ◌+◌, ◌++◌, drop, length}
use Rattle.std.specs.List.{filter}
use Rattle.hull_bound.specs.Forms.{is_some_give}
use Rattle.hull_bound.specs.Slots.{slots_from}
use Rattle.hull_bound.specs.Walks.{walked_from}
use Rattle.hull_bound.proofs.gives.multipliers_from.Given as goal

abbrev pub invariant-loop-class : goal.invariant-loop-class
invariant-loop-class l = record {
  first : l.first + length (slots_from l.node l.class (drop l.class l.table.classes)) ≡ length (slots_from l.node 0 l.table.classes);
  left :
      l.gives.items ++ filter is_some_give (walked_from l.slope.p l.node l.class (drop l.class l.table.classes) (drop l.first l.amounts.flow.now.amounts))
      ≡ filter is_some_give (walked_from l.slope.p l.node 0 l.table.classes l.amounts.flow.now.amounts);
}
