use Rattle.std.proofs.Common.{◌≡◌, ◌+◌, ◌-◌, ◌≤◌, length}
use Rattle.flow_net.specs.Levels.{level_of}
use Rattle.flow_net.specs.Pushes.{IsCarried, Augments}
use Rattle.flow_net.specs.Trails.{IsLevelled, AreBounded, HaveWays}
use Rattle.flow_net.proofs.phases.phase.Given as goal

-- the pushes so far are lawful, and before the first one each node has a way
abbrev pub invariant-paths : goal.invariant-paths
invariant-paths g l =
    record {
      carried : IsCarried l.problem.net.now.pipes l.problem.source l.problem.sink l.filling.amounts;
      augments : Augments l.problem.net.now.pipes l.problem.source l.problem.sink l.power l.fn.run.filling l.filling;
      upto : l.filling.pushes ≤ l.limit;
      steps : l.steps + l.fn.run.filling.pushes ≡ l.fn.steps + l.filling.pushes;
      levelled : IsLevelled l.problem.net.now.nodes l.problem.source l.levels;
      bounded : AreBounded l.problem.net.now.nodes l.problem.adjacency.now l.next;
      low : l.filling.pushes ≡ l.fn.run.filling.pushes → level_of l.levels l.problem.sink ≤ length l.path;
      some : l.filling.pushes ≡ l.fn.run.filling.pushes → 1 ≤ l.work;
      ways :
          l.filling.pushes ≡ l.fn.run.filling.pushes →
          HaveWays l.problem.net.now.pipes l.filling.amounts l.power l.levels l.problem.adjacency.now l.problem.net.now.nodes l.problem.source l.next;
    }

abbrev pub decreases-paths : goal.decreases-paths
decreases-paths g l = l.limit - l.filling.pushes + l.work
