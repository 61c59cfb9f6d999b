use Rattle.flow_net.specs.Levels.{level_of}
use Rattle.flow_net.specs.Trails.{IsWalk, AreBounded, HaveWays}
use Rattle.flow_net.proofs.trails.descend.Given as goal

-- a trail leads from the node to the sink, and no way was lost
abbrev pub invariant-loop-node : goal.invariant-loop-node
invariant-loop-node l =
    record {
      bounded : AreBounded l.problem.net.now.nodes l.problem.adjacency.now l.next;
      walk : IsWalk l.problem.net.now l.sought.filling.now.amounts l.sought.power l.levels l.problem.sink l.path l.node;
      ways :
          HaveWays l.problem.net.now.pipes l.sought.filling.now.amounts l.sought.power l.levels l.problem.adjacency.now l.problem.net.now.nodes l.problem.source l.fn.next →
          HaveWays l.problem.net.now.pipes l.sought.filling.now.amounts l.sought.power l.levels l.problem.adjacency.now l.problem.net.now.nodes l.problem.source l.next;
    }

abbrev pub decreases-loop-node : goal.decreases-loop-node
decreases-loop-node l = level_of l.levels l.node
