-- The laws of multipliers at a node.
use Rattle.std.specs.Prelude.{◌≡◌, ◌+◌}
use Rattle.seed_model.specs.declared.node.Node.{Node}
use Rattle.seed_model.specs.Tables.{TableValue}
use Rattle.bound_cert.specs.declared.multipliers.Multipliers.{Multipliers}
use Rattle.bound_cert.specs.Multipliers.{won, lost}
use Rattle.hull_bound.specs.Forms.{AreMultipliersAt}

-- Multipliers of a node for one slope prove one bound: what the node wins less what it loses is the same for all of them.
abbrev pub OneBound : Type 0
OneBound = (table : TableValue) (node : Node) (m other : Multipliers) → AreMultipliersAt table node m.p m.q m → AreMultipliersAt table node m.p m.q other
    → won table.files node m.gives + lost table.files node other.gives ≡ won table.files node other.gives + lost table.files node m.gives
