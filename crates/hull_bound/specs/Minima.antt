-- Minima of a slope p/q: the members of a node that cost least, where each touched byte costs q and each migrated one wins p.
use Rattle.std.specs.Prelude.{ℕ, ◌+◌, ◌*◌, ◌≤◌, Bool}
use Rattle.seed_model.specs.declared.node.Node.{Node}
use Rattle.seed_model.specs.Tables.{TableValue}
use Rattle.seed_model.specs.Sums.{migrated_of, touched_of}
use Rattle.seed_model.specs.SumLaws.{IsWithin}
use Rattle.seed_model.specs.Nodes.{IsMember}

-- one set costs no more than another
abbrev pub CostsNoMore : TableValue → ℕ → ℕ → (ℕ → Bool) → (ℕ → Bool) → Type 0
CostsNoMore table p q set other = q * touched_of set table + p * migrated_of other table ≤ q * touched_of other table + p * migrated_of set table

pub record IsMinimum (table : TableValue) (p q : ℕ) (node : Node) (set : ℕ → Bool) : Type 0 where
  pub member : IsMember table.files node set
  pub least : (other : ℕ → Bool) → IsMember table.files node other → CostsNoMore table p q set other

-- the minimum that is within every other, and the one within which every other is
pub record AreMinima (table : TableValue) (p q : ℕ) (node : Node) (first last : ℕ → Bool) : Type 0 where
  pub first_is : IsMinimum table p q node first
  pub last_is : IsMinimum table p q node last
  pub smallest : (set : ℕ → Bool) → IsMinimum table p q node set → IsWithin table.files first set
  pub largest : (set : ℕ → Bool) → IsMinimum table p q node set → IsWithin table.files set last
