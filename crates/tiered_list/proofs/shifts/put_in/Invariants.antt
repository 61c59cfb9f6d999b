use Rattle.tiered_list.proofs.Putting.{IsPutting}
use Rattle.tiered_list.proofs.shifts.put_in.Given as goal

abbrev pub invariant-loop-index : goal.invariant-loop-index
invariant-loop-index l = IsPutting l.initial.blocks l.blocks l.place l.number l.index l.at l.carried
