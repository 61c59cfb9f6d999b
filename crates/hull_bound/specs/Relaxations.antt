-- The relaxation at a node: multipliers and a mix of one value.
use Rattle.std.specs.Prelude.{◌≡◌, ℕ, ◌+◌, ◌-◌, ◌*◌, ◌<◌, ◌≤◌, ◌==◌, ◌^◌, ◌⊎◌, max, Bool, if◌then◌else◌}
use Rattle.std.specs.Int.{IsGcd}
use Rattle.seed_model.specs.declared.node.Node.{Node}
use Rattle.seed_model.specs.declared.node.Mix.{Mix}
use Rattle.seed_model.specs.declared.range.Range.{Range}
use Rattle.seed_model.specs.Files.{holds}
use Rattle.seed_model.specs.Tables.{TableValue}
use Rattle.seed_model.specs.Sums.{migrated_of}
use Rattle.seed_model.specs.Nodes.{HasValue, weight_of, mixed_replicated}
use Rattle.bound_cert.specs.declared.multipliers.Multipliers.{Multipliers}
use Rattle.bound_cert.specs.Multipliers.{won, lost, turning_point}
use Rattle.hull_bound.specs.Minima.{AreMinima}
use Rattle.hull_bound.specs.Forms.{AreMultipliersAt}

-- Where the migrated bytes of a mix are to lie, and at which slope its sets are minima. The minima of slope 1 replicate
-- least. Where those between the first and the last of them meet the range, the slope is 1.
abbrev pub Meets : TableValue → Range → (ℕ → Bool) → (ℕ → Bool) → ℕ → ℕ → ℕ → Type 0
Meets table range first last p q aim =
    (migrated_of first table ≤ range.high) × (range.low ≤ migrated_of last table) × (p ≡ 1) × (q ≡ 1) × (aim ≡ max range.low (migrated_of first table))

-- Otherwise the aim is the end of the range that is nearer.
abbrev pub FallsShort : TableValue → Range → (ℕ → Bool) → ℕ → Type 0
FallsShort table range last aim = (migrated_of last table < range.low) × (aim ≡ range.low)

abbrev pub GoesPast : TableValue → Range → (ℕ → Bool) → ℕ → Type 0
GoesPast table range first aim = (range.high < migrated_of first table) × (aim ≡ range.high)

pub record IsAim (table : TableValue) (range : Range) (node : Node) (p q aim : ℕ) : Type 0 where
  pub first : ℕ → Bool
  pub last : ℕ → Bool
  pub at_one : AreMinima table 1 1 node first last
  pub where_ : Meets table range first last p q aim ⊎ FallsShort table range last aim ⊎ GoesPast table range first aim

-- The mix of the search rule: the least and the greatest minimum of a slope between which the aim lies, each weighted by
-- the distance of the other from it.
pub record IsSearchMix (table : TableValue) (range : Range) (node : Node) (p q : ℕ) (mix : Mix) : Type 0 where
  pub aim : ℕ
  pub is_aim : IsAim table range node p q aim
  pub minima : AreMinima table p q node (holds mix.first) (holds mix.second)
  pub below : migrated_of (holds mix.first) table ≤ aim
  pub above : aim ≤ migrated_of (holds mix.second) table
  pub alpha : mix.alpha ≡ (if migrated_of (holds mix.first) table == migrated_of (holds mix.second) table then 1 else migrated_of (holds mix.second) table - aim)
  pub beta : mix.beta ≡ aim - migrated_of (holds mix.first) table

-- the bound of multipliers is the value of a mix: (won - lost + (p - q) * turning point) / q
abbrev pub AreOfOneValue : TableValue → Range → Node → Multipliers → Mix → Type 0
AreOfOneValue table range node m mix =
    (won table.files node m.gives + m.p * turning_point range m.p m.q) * weight_of mix
    ≡ (lost table.files node m.gives + m.q * turning_point range m.p m.q) * weight_of mix + m.q * mixed_replicated table mix

pub record IsRelaxation (table : TableValue) (range : Range) (node : Node) (m : Multipliers) (mix : Mix) : Type 0 where
  pub multipliers : AreMultipliersAt table node m.p m.q m
  pub lowest : IsGcd m.p m.q 1
  pub search : IsSearchMix table range node m.p m.q mix
  pub one_value : AreOfOneValue table range node m mix
  pub value : HasValue table range node mix
  pub alpha_fits : mix.alpha < 2 ^ 51
  pub beta_fits : mix.beta < 2 ^ 51
