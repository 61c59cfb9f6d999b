-- What is read off a greatest flow through the net of a node.
use Rattle.std.specs.Prelude.{◌≡◌, ℕ, ◌≤◌, ◌^◌, length}
use Rattle.seed_model.specs.declared.node.Node.{Node}
use Rattle.seed_model.specs.Files.{holds}
use Rattle.seed_model.specs.Tables.{TableValue}
use Rattle.hull_bound.specs.declared.minima.Minima.{Minima}
use Rattle.hull_bound.specs.Forms.{AreMultipliersAt}
use Rattle.hull_bound.specs.Minima.{AreMinima}
use Rattle.hull_bound.specs.Slots.{slots_from}
use Rattle.hull_bound.specs.Walks.{AreSmall, node_gives, multipliers_of}

pub record IsSolved (table : TableValue) (node : Node) (p q : ℕ) (minima : Minima) : Type 0 where
  pub least_files : length minima.least ≡ table.files
  pub greatest_files : length minima.greatest ≡ table.files
  pub are_minima : AreMinima table p q node (holds minima.least) (holds minima.greatest)
  pub pipes : length minima.flow.amounts ≡ length (slots_from node 0 table.classes)
  pub count : minima.pipes ≡ length minima.flow.amounts
  pub few : minima.pipes ≤ 2 ^ 24
  pub small : AreSmall minima.flow.amounts
  pub gives : AreMultipliersAt table node p q (multipliers_of p q (node_gives p table node minima.flow.amounts))
