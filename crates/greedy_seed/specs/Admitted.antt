-- What the greedy choice is worth.
use Rattle.std.specs.Prelude.{◌≡◌, ◌≤◌, List, Bool, length, IfSome, IsNone, MatchOption}
use Rattle.seed_model.specs.declared.node.Node.{Node}
use Rattle.seed_model.specs.declared.range.Range.{Range}
use Rattle.seed_model.specs.Files.{holds}
use Rattle.seed_model.specs.Nodes.{IsNode, IsAdmitted}
use Rattle.seed_model.specs.Tables.{TableValue, IsTable}
use Rattle.bound_cert.specs.declared.heading.Heading.{Heading}
use Rattle.bound_cert.specs.declared.node_line.NodeLine.{NodeLine}
use Rattle.bound_cert.specs.Sets.{root_of}
use Rattle.bound_cert.specs.Valid.{IsValid}
use Rattle.greedy_seed.specs.declared.tried.Tried.{Tried}
use Rattle.greedy_seed.specs.Greedy.{IsGreedy, replicates}

-- a set of the table's files that may be chosen
pub record IsChoice (table : TableValue) (range : Range) (pins : Node) (set : List Bool) : Type 0 where
  pub files : length set ≡ table.files
  pub admitted : IsAdmitted table range pins (holds set)

-- a set that is found may be chosen
abbrev pub FoundIsAdmitted : Type 0
FoundIsAdmitted = (table : TableValue) (range : Range) (pins : Node) (tried : Tried) → IsTable table → IsNode table.files pins
    → IsGreedy table range pins tried → IfSome tried.set (IsChoice table range pins)

-- Beside a valid certificate with the same range and pins: where the certificate has no bound, nothing is found; where it
-- has one, a set that is found replicates at least that.
abbrev pub KeepsBound : Type 0
KeepsBound = (table : TableValue) (heading : Heading) (nodes : List NodeLine) (tried : Tried) → IsTable table → IsValid table heading nodes
    → IsGreedy table heading.range (root_of table.files heading.pins) tried
    → MatchOption heading.bound (IsNone tried.set) (λ bound. IfSome tried.set (λ set. bound ≤ replicates table set))
