use Rattle.std.proofs.Common.{◌≡◌, ◌-◌, length}
use Rattle.flow_net.proofs.Searching.{Searching}
use Rattle.flow_net.proofs.levels.search.Given as goal

-- the nodes before the head are done
abbrev pub invariant-loop-head : goal.invariant-loop-head
invariant-loop-head l =
    record {
      state : Searching l.problem.net.now.pipes l.sought.filling.now.amounts l.sought.power l.sought.backward l.problem.source l.problem.sink l.problem.net.now.nodes l.levels l.queue l.count l.head;
      sized : length l.levels ≡ l.problem.net.now.nodes;
    }

abbrev pub decreases-loop-head : goal.decreases-loop-head
decreases-loop-head l = l.problem.net.now.nodes - l.head
