use Rattle.std.proofs.Common.{◌≤◌}
use Rattle.flow_net.specs.Trails.{IsLevelled, IsWalk, AreBounded, HaveWays}
use Rattle.flow_net.proofs.trails.find_path.Given as goal

-- a trail leads from the node to the sink, and where each node had a way there was no work yet
abbrev pub invariant-loop-work : goal.invariant-loop-work
invariant-loop-work l =
    record {
      levels : IsLevelled l.problem.net.now.nodes l.problem.source l.levels;
      bounded : AreBounded l.problem.net.now.nodes l.problem.adjacency.now l.next;
      walk : IsWalk l.problem.net.now l.sought.filling.now.amounts l.sought.power l.levels l.problem.sink l.path l.node;
      less : l.work ≤ l.fn.work;
      ways :
          HaveWays l.problem.net.now.pipes l.sought.filling.now.amounts l.sought.power l.fn.levels l.problem.adjacency.now l.problem.net.now.nodes l.problem.source l.fn.next →
          (1 ≤ l.work) × HaveWays l.problem.net.now.pipes l.sought.filling.now.amounts l.sought.power l.levels l.problem.adjacency.now l.problem.net.now.nodes l.problem.source l.next;
    }

abbrev pub decreases-loop-work : goal.decreases-loop-work
decreases-loop-work l = l.work
