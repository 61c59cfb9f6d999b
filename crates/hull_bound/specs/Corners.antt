-- What the search for a slope holds.
use Rattle.std.specs.Prelude.{◌≡◌, ℕ, ◌+◌, ◌-◌, ◌<◌, ◌≤◌, ◌^◌, ◌⊎◌, Bool, true, false, length, if◌then◌else◌}
use Rattle.std.specs.Int.{IsGcd}
use Rattle.seed_model.specs.declared.node.Node.{Node}
use Rattle.seed_model.specs.declared.range.Range.{Range}
use Rattle.seed_model.specs.Files.{holds}
use Rattle.seed_model.specs.Tables.{TableValue}
use Rattle.seed_model.specs.Sums.{migrated_of, touched_of}
use Rattle.seed_model.specs.declared.limits.TheConstants.{MOST_BYTES}
use Rattle.hull_bound.specs.declared.search.Corner.{Corner}
use Rattle.hull_bound.specs.declared.search.Stretch.{Stretch}
use Rattle.hull_bound.specs.declared.search.Found.{Found}
use Rattle.hull_bound.specs.declared.search.Turn.{Turn}
use Rattle.hull_bound.specs.declared.search.Turn.TheVariants.{Ends, Narrows}
use Rattle.bound_cert.specs.Multipliers.{turning_point}
use Rattle.hull_bound.specs.Relaxations.{IsAim}
use Rattle.hull_bound.specs.Stretches.{IsStretch}
use Rattle.hull_bound.specs.Solutions.{IsSolved}

-- the end of the range that is nearer to the sets that replicate least, which fall short of it or go past it
abbrev pub aim_of : Range → Bool → ℕ
aim_of range short = if short then range.low else range.high

-- a set with its sums
pub record IsCorner (table : TableValue) (corner : Corner) : Type 0 where
  pub files : length corner.set ≡ table.files
  pub migrates : corner.migrated ≡ migrated_of (holds corner.set) table
  pub touches : corner.touched ≡ touched_of (holds corner.set) table
  pub few_migrated : corner.migrated ≤ MOST_BYTES
  pub few_touched : corner.touched ≤ MOST_BYTES

-- two of them, with the aim between them
pub record IsBetween (table : TableValue) (node : Node) (short : Bool) (aim : ℕ) (stretch : Stretch) : Type 0 where
  pub lower : IsCorner table stretch.lower
  pub upper : IsCorner table stretch.upper
  pub ends : IsStretch table node short aim (holds stretch.lower.set) (holds stretch.upper.set)

-- a turn takes from this
abbrev pub width_of : Stretch → ℕ
width_of stretch = (stretch.upper.migrated - stretch.lower.migrated) + (stretch.upper.touched - stretch.lower.touched)

-- the slope between whose minima the aim lies
pub record IsFound (table : TableValue) (node : Node) (short : Bool) (aim : ℕ) (found : Found) : Type 0 where
  pub aims : found.aim ≡ aim
  pub solved : IsSolved table node found.slope.p found.slope.q found.minima
  pub below : migrated_of (holds found.minima.least) table ≤ aim
  pub above : aim ≤ migrated_of (holds found.minima.greatest) table
  pub lowest : IsGcd found.slope.p found.slope.q 1
  pub p_fits : found.slope.p ≤ 2 ^ 50
  pub steep : short ≡ true → found.slope.q ≤ found.slope.p
  pub flat : short ≡ false → found.slope.p ≤ found.slope.q

-- what a turn makes of a stretch: such a slope, or a narrower one
abbrev pub IsTurn : TableValue → Node → Bool → ℕ → Stretch → Turn → Type 0
IsTurn table node short aim stretch (Ends found) = IsFound table node short aim found
IsTurn table node short aim stretch (Narrows next) = IsBetween table node short aim next × (width_of next < width_of stretch)

-- the slope of the search rule with its minima, and the aim between them
pub record IsAimed (table : TableValue) (range : Range) (node : Node) (found : Found) : Type 0 where
  pub solved : IsSolved table node found.slope.p found.slope.q found.minima
  pub is_aim : IsAim table range node found.slope.p found.slope.q found.aim
  pub below : migrated_of (holds found.minima.least) table ≤ found.aim
  pub above : found.aim ≤ migrated_of (holds found.minima.greatest) table
  pub lowest : IsGcd found.slope.p found.slope.q 1
  pub p_fits : found.slope.p ≤ 2 ^ 50
  pub turns : (found.aim ≡ turning_point range found.slope.p found.slope.q) ⊎ (found.slope.p ≡ found.slope.q)
