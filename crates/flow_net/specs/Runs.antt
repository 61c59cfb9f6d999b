use Rattle.std.specs.Prelude.{◌≡◌, ◌≢◌, ℕ, ◌+◌, ◌<◌, Bool, false, length}
use Rattle.flow_net.specs.declared.problem.Problem.{Problem}
use Rattle.flow_net.specs.declared.run.Run.{Run}
use Rattle.flow_net.specs.declared.scratch.Scratch.{Scratch}
use Rattle.flow_net.specs.Links.{IsAdjacency}
use Rattle.flow_net.specs.Levels.{IsSearched}
use Rattle.flow_net.specs.Pushes.{IsCarried, Augments}

-- the links are those of the net, and source and sink are two of its nodes
pub record IsProblem (problem : Problem) : Type 0 where
  pub links : IsAdjacency problem.net.now problem.adjacency.now
  pub source : problem.source < problem.net.now.nodes
  pub sink : problem.sink < problem.net.now.nodes
  pub apart : problem.source ≢ problem.sink

-- each list has a place for each of so many nodes
pub record IsScratchFor (nodes : ℕ) (scratch : Scratch) : Type 0 where
  pub levels : length scratch.levels.items ≡ nodes
  pub queue : length scratch.queue.items ≡ nodes
  pub next : length scratch.next.items ≡ nodes
  pub path : length scratch.path.items ≡ nodes

-- a run on a problem: its lists have a place for each node, and what flows is balanced
pub record IsRun (problem : Problem) (run : Run) : Type 0 where
  pub lawful : IsProblem problem
  pub places : IsScratchFor problem.net.now.nodes run.scratch
  pub carried : IsCarried problem.net.now.pipes problem.source problem.sink run.filling.amounts

-- the levels are those of a search over uses with so much left, which reached the sink or not
abbrev pub HasLevels : Problem → ℕ → Run → Bool → Type 0
HasLevels problem power run found =
    IsSearched problem.net.now.pipes run.filling.amounts power false problem.source problem.sink run.scratch.levels.items found

-- the run went on by pushes that carry at least the power each, of one step each
pub record GoesOn (problem : Problem) (power : ℕ) (old new : Run) (steps_old steps_new : ℕ) : Type 0 where
  pub run : IsRun problem new
  pub augments : Augments problem.net.now.pipes problem.source problem.sink power old.filling new.filling
  pub steps : steps_new + old.filling.pushes ≡ steps_old + new.filling.pushes
