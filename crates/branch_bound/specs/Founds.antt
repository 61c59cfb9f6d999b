-- A search that has ended: all that its certificate is made of.
use Rattle.std.specs.Prelude.{◌≡◌, ℕ, ◌≤◌, Option}
use Rattle.seed_model.specs.declared.node.Node.{Node}
use Rattle.seed_model.specs.declared.range.Range.{Range}
use Rattle.seed_model.specs.Tables.{TableValue}
use Rattle.branch_bound.specs.declared.found.Found.{Found}
use Rattle.branch_bound.specs.Ended.{IsEnded, cut_of, heading_of}
use Rattle.branch_bound.specs.Entries.{entry_at}
use Rattle.branch_bound.specs.Outcomes.{search_root}
use Rattle.branch_bound.specs.SearchTrees.{SearchTree}
use Rattle.branch_bound.specs.Visits.{IsOrdered, visits}

pub record IsComplete (table : TableValue) (range : Range) (pins : Option Node) (budget : ℕ) (found : Found) : Type 0 where
  pub root : found.root ≡ search_root table.files pins
  pub within : found.state.branchings ≤ budget
  pub ended : IsEnded table range (search_root table.files pins) budget found.state.kept found.state.branchings found.state.entries found.ending
  pub visited : (tree : SearchTree) → IsOrdered found.state.entries tree → found.visited.items ≡ visits (cut_of found.state.kept found.ending) (entry_at found.state.entries) tree
  pub heading : found.heading ≡ heading_of range pins found.state.kept found.ending
