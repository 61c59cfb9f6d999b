-- A greedy set beside a valid certificate.
use Rattle.std.specs.Prelude.{IsNone, MatchOption, Option, Some, None, IfSome}
use Rattle.std.proofs.Common.{ℕ, ◌≤◌, List, Bool, refl}
use Rattle.seed_model.specs.declared.node.Node.{Node}
use Rattle.seed_model.specs.declared.range.Range.{Range}
use Rattle.seed_model.specs.Files.{holds}
use Rattle.seed_model.specs.Nodes.{IsNode}
use Rattle.seed_model.specs.Tables.{TableValue, IsTable}
use Rattle.seed_model.proofs.NodeMembers.{undecided_admits}
use Rattle.bound_cert.specs.declared.heading.Pins.{Pins}
use Rattle.bound_cert.specs.Sets.{root_of}
use Rattle.bound_cert.specs.Trees.{Tree, Stands}
use Rattle.bound_cert.specs.Valid.{ArePins}
use Rattle.bound_cert.proofs.Soundness.{trees_bound}
use Rattle.greedy_seed.specs.Admitted.{IsChoice, KeepsBound}
use Rattle.greedy_seed.specs.Greedy.{replicates}
use Rattle.greedy_seed.proofs.Members.{found_is_admitted}

-- the root of a valid certificate is a node
root_is_node : (files : ℕ) (pins : Option Pins) → ArePins files pins → IsNode files (root_of files pins)
root_is_node files None h = (undecided_admits files).0
root_is_node files (Some pins) h = h.2

bounded : (table : TableValue) (range : Range) (root : Node) (bound : Option ℕ) (tree : Tree) (found : Option (List Bool)) → IsTable table → Stands table range bound root tree
    → IfSome found (IsChoice table range root) → MatchOption bound (IsNone found) (λ z. IfSome found (λ flags. z ≤ replicates table flags))
bounded table range root None tree None t stands chosen = refl
bounded table range root None tree (Some flags) t stands chosen = absurd (trees_bound table range None root tree (holds flags) t stands chosen.admitted)
bounded table range root (Some z) tree None t stands chosen = tt
bounded table range root (Some z) tree (Some flags) t stands chosen = trees_bound table range (Some z) root tree (holds flags) t stands chosen.admitted

pub keeps_bound : KeepsBound
keeps_bound table heading nodes tried t valid greedy =
    let root = root_of table.files heading.pins in
    bounded table heading.range root heading.bound valid.tree tried.set t valid.stands
    (found_is_admitted table heading.range root tried t (root_is_node table.files heading.pins valid.pins) greedy)
