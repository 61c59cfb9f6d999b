-- The stretch of the lower hull of (migrated, touched) in which a slope is sought.
use Rattle.std.specs.Prelude.{◌≡◌, ℕ, ◌<◌, ◌≤◌, ◌⊎◌, Bool, true, false}
use Rattle.seed_model.specs.declared.node.Node.{Node}
use Rattle.seed_model.specs.Tables.{TableValue}
use Rattle.seed_model.specs.Sums.{migrated_of}
use Rattle.seed_model.specs.Nodes.{IsMember}
use Rattle.hull_bound.specs.Minima.{IsMinimum}

-- A minimum of some slope. Where all sets that replicate least fall short of the range, no slope before it is below 1.
pub record IsLowerEnd (table : TableValue) (node : Node) (short : Bool) (set : ℕ → Bool) : Type 0 where
  pub p : ℕ
  pub q : ℕ
  pub some : 1 ≤ q
  pub minimum : IsMinimum table p q node set
  pub steep : short ≡ true → q ≤ p

-- the same from the other side, where they go past the range
pub record IsUpperMinimum (table : TableValue) (node : Node) (short : Bool) (set : ℕ → Bool) : Type 0 where
  pub p : ℕ
  pub q : ℕ
  pub some : 1 ≤ q
  pub minimum : IsMinimum table p q node set
  pub flat : short ≡ false → p ≤ q

-- Where they fall short, the stretch may begin with a member than which none migrates more.
abbrev pub MigratesMost : TableValue → Node → Bool → (ℕ → Bool) → Type 0
MigratesMost table node short set = (short ≡ true) × ((other : ℕ → Bool) → IsMember table.files node other → migrated_of other table ≤ migrated_of set table)

abbrev pub IsUpperEnd : TableValue → Node → Bool → (ℕ → Bool) → Type 0
IsUpperEnd table node short set = MigratesMost table node short set ⊎ IsUpperMinimum table node short set

-- two members on the two sides of the aim, at most one of them at it
pub record IsStretch (table : TableValue) (node : Node) (short : Bool) (aim : ℕ) (lower upper : ℕ → Bool) : Type 0 where
  pub lower_member : IsMember table.files node lower
  pub upper_member : IsMember table.files node upper
  pub below : migrated_of lower table ≤ aim
  pub above : aim ≤ migrated_of upper table
  pub apart : migrated_of lower table < migrated_of upper table
  pub lower_end : IsLowerEnd table node short lower
  pub upper_end : IsUpperEnd table node short upper
