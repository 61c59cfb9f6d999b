-- The form in which multipliers are given.
use Rattle.std.specs.Prelude.{◌≡◌, ℕ, ◌+◌, ◌*◌, ◌<◌, ◌==◌, ◌⊎◌, ◌&&◌, not, Bool, List, [], ◌∷◌}
use Rattle.std.specs.List.{AllByRecursion}
use Rattle.seed_model.specs.declared.node.Node.{Node}
use Rattle.seed_model.specs.Tables.{TableValue}
use Rattle.seed_model.specs.Sums.{migrated_of, touched_of}
use Rattle.seed_model.specs.Nodes.{IsMember}
use Rattle.bound_cert.specs.declared.multipliers.Give.{Give}
use Rattle.bound_cert.specs.declared.multipliers.Multipliers.{Multipliers}
use Rattle.bound_cert.specs.declared.node_line.NodeLine.TheVariants.{Leaf}
use Rattle.bound_cert.specs.Lines.{IsLine}
use Rattle.bound_cert.specs.Documents.{node_entries}
use Rattle.bound_cert.specs.Multipliers.{AreMultipliers, won, lost}

-- a give is before another by class, and then by file
abbrev pub IsBefore : Give → Give → Type 0
IsBefore give other = (give.class < other.class) ⊎ ((give.class ≡ other.class) × (give.file < other.file))

abbrev pub AreRising : List Give → Type 0
AreRising [] = Unit {0}
AreRising (give ∷ gives) = AllByRecursion (IsBefore give) gives × AreRising gives

-- a give of something
abbrev pub is_some_give : Give → Bool
is_some_give give = not (give.charge == 0 && give.reward == 0)

-- the gives rise, and with their slope they can stand in a document: no number is too large, and no give is of nothing
pub record AreInForm (m : Multipliers) : Type 0 where
  pub rising : AreRising m.gives
  pub lines : AllByRecursion IsLine (node_entries (Leaf m))

-- some member costs just what the multipliers say that none costs less than
pub record AreAttained (table : TableValue) (node : Node) (m : Multipliers) : Type 0 where
  pub set : ℕ → Bool
  pub member : IsMember table.files node set
  pub attained :
      won table.files node m.gives + m.p * migrated_of set table
      ≡ lost table.files node m.gives + m.q * touched_of set table

-- multipliers of a node for the slope p/q, of the greatest bound
pub record AreMultipliersAt (table : TableValue) (node : Node) (p q : ℕ) (m : Multipliers) : Type 0 where
  pub over : m.p ≡ p
  pub under : m.q ≡ q
  pub multipliers : AreMultipliers table m
  pub form : AreInForm m
  pub attained : AreAttained table node m
