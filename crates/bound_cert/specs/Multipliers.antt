-- Multipliers: shares of the sizes of classes, charged and rewarded to their users, and the bound that they prove.
use Rattle.std.specs.Prelude.{◌≡◌, ℕ, ◌+◌, ◌-◌, ◌*◌, ◌<◌, ◌≤◌, ◌==◌, nat_le, true, List, length, sum_by, if◌then◌else◌}
use Rattle.std.specs.List.{list_any, AllByRecursion}
use Rattle.seed_model.specs.declared.node.Node.{Node}
use Rattle.seed_model.specs.declared.range.Range.{Range}
use Rattle.seed_model.specs.Files.{holds}
use Rattle.seed_model.specs.Tables.{TableValue}
use Rattle.bound_cert.specs.declared.multipliers.Give.{Give}
use Rattle.bound_cert.specs.declared.multipliers.Multipliers.{Multipliers}
use Rattle.seed_model.specs.Keys.{at_key, sum_below, class_at}

-- the charges and the rewards at a file
abbrev pub charges_at : List Give → ℕ → ℕ
charges_at gives file = sum_by (at_key (λ (g : Give). g.file) (λ (g : Give). g.charge) file) gives

abbrev pub rewards_at : List Give → ℕ → ℕ
rewards_at gives file = sum_by (at_key (λ (g : Give). g.file) (λ (g : Give). g.reward) file) gives

-- the charges and the rewards of a class
abbrev pub charges_of : List Give → ℕ → ℕ
charges_of gives class = sum_by (at_key (λ (g : Give). g.class) (λ (g : Give). g.charge) class) gives

abbrev pub rewards_of : List Give → ℕ → ℕ
rewards_of gives class = sum_by (at_key (λ (g : Give). g.class) (λ (g : Give). g.reward) class) gives

-- a give is of a class, to a user of it
pub record IsGive (table : TableValue) (give : Give) : Type 0 where
  pub known : give.class < length table.classes
  pub file : give.file < table.files
  pub user : list_any (λ user. user == give.file) (class_at table.classes give.class).users ≡ true

-- no class is charged more than q times its size
abbrev pub AreCharged : TableValue → ℕ → List Give → Type 0
AreCharged table q gives = (class : ℕ) → class < length table.classes → charges_of gives class ≤ q * (class_at table.classes class).size

-- each class is rewarded p times its size
abbrev pub AreRewarded : TableValue → ℕ → List Give → Type 0
AreRewarded table p gives = (class : ℕ) → class < length table.classes → rewards_of gives class ≡ p * (class_at table.classes class).size

pub record AreMultipliers (table : TableValue) (multipliers : Multipliers) : Type 0 where
  pub positive : 1 ≤ multipliers.q
  pub each : AllByRecursion (IsGive table) multipliers.gives
  pub charges : AreCharged table multipliers.q multipliers.gives
  pub rewards : AreRewarded table multipliers.p multipliers.gives

-- What a node makes of its gives is a difference. Each file inside wins its charges and loses its rewards; a free one
-- loses what its rewards are above its charges.
abbrev pub won_at : Node → List Give → ℕ → ℕ
won_at node gives file = if holds node.inside file then charges_at gives file else 0

abbrev pub lost_at : Node → List Give → ℕ → ℕ
lost_at node gives file =
    if holds node.inside file then rewards_at gives file else if holds node.outside file then 0 else rewards_at gives file - charges_at gives file

abbrev pub won : ℕ → Node → List Give → ℕ
won files node gives = sum_below (won_at node gives) files

abbrev pub lost : ℕ → Node → List Give → ℕ
lost files node gives = sum_below (lost_at node gives) files

-- the end of the range at which the bound is taken
abbrev pub turning_point : Range → ℕ → ℕ → ℕ
turning_point range p q = if nat_le q p then range.low else range.high

-- The bound is (won - lost + (p - q) * turning point) / q, and it is above bound - 1.
abbrev pub ReachesBound : TableValue → Range → Node → ℕ → Multipliers → Type 0
ReachesBound table range node bound m =
    lost table.files node m.gives + m.q * turning_point range m.p m.q + m.q * bound < won table.files node m.gives + m.p * turning_point range m.p m.q + m.q
