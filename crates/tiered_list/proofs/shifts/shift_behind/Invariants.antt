use Rattle.std.proofs.Common.{◌-◌}
use Rattle.std.specs.Option.{option_to_list}
use Rattle.tiered_list.proofs.Taking.{IsShifting}
use Rattle.tiered_list.proofs.shifts.shift_behind.Given as goal

abbrev pub invariant-loop-index : goal.invariant-loop-index
invariant-loop-index l = IsShifting l.initial.blocks l.blocks l.first l.end l.index (option_to_list l.next)

abbrev pub decreases-loop-index : goal.decreases-loop-index
decreases-loop-index l = l.index - l.first
