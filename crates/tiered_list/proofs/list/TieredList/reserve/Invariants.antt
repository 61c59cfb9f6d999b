use Rattle.std.proofs.Common.{◌-◌}
use Rattle.tiered_list.specs.Tiers.{IsSameList}
use Rattle.tiered_list.proofs.list.TieredList.reserve.Given as goal

abbrev pub invariant-loop-self : goal.invariant-loop-self
invariant-loop-self l = IsSameList l.initial.self l.self

abbrev pub decreases-loop-self : goal.decreases-loop-self
decreases-loop-self l = l.additional - l.self.room
