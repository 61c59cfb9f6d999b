-- The pins that a call is given.
use Rattle.std.specs.Prelude.{Option, Some, None}
use Rattle.seed_model.specs.declared.node.Node.{Node}
use denote.Ref.{Bor}

abbrev pub pinned_node : Option (Bor Node) → Option Node
pinned_node None = None
pinned_node (Some pins) = Some pins.now
