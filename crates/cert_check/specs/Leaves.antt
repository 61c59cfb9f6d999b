-- The sums of a leaf's gives: of each file, and of the class in work, with what the classes below it showed.
use Rattle.std.specs.Prelude.{◌≡◌, ◌↔◌, ◌⊎◌, ℕ, ◌+◌, ◌-◌, ◌*◌, ◌^◌, ◌<◌, ◌≤◌, nat_le, ◌==◌, ◌&&◌, true, List, length, sum_by, slice_index_or, slice_set, Option, Some, None, IsSomeAnd, if◌then◌else◌}
use Rattle.std.specs.List.{AllByRecursion}
use Rattle.seed_model.specs.declared.node.Node.{Node}
use Rattle.seed_model.specs.declared.range.Range.{Range}
use Rattle.seed_model.specs.Files.{holds}
use Rattle.seed_model.specs.Keys.{sum_below, class_at}
use Rattle.seed_model.specs.Tables.{TableValue}
use Rattle.bound_cert.specs.declared.multipliers.Give.{Give}
use Rattle.bound_cert.specs.declared.multipliers.Multipliers.{Multipliers}
use Rattle.bound_cert.specs.Multipliers.{charges_at, rewards_at, charges_of, rewards_of, AreCharged, AreRewarded, ReachesBound, turning_point}
use Rattle.cert_check.specs.declared.leaf_sums.Share.{Share}
use Rattle.cert_check.specs.declared.leaf_sums.LeafSums.{LeafSums}

abbrev pub no_share : Share
no_share = record { charge = 0; reward = 0 }

abbrev pub share_at : List Share → ℕ → Share
share_at shares file = slice_index_or shares file no_share

-- the classes below a number are charged no more than q times their size
abbrev pub AreChargedBelow : TableValue → ℕ → List Give → ℕ → Type 0
AreChargedBelow table q gives n = (class : ℕ) → class < n → charges_of gives class ≤ q * (class_at table.classes class).size

-- and rewarded p times their size
abbrev pub AreRewardedBelow : TableValue → ℕ → List Give → ℕ → Type 0
AreRewardedBelow table p gives n = (class : ℕ) → class < n → rewards_of gives class ≡ p * (class_at table.classes class).size

-- the sums of gives that rise by class, as far as the class in work
pub record AreSums (table : TableValue) (gives : List Give) (sums : LeafSums) : Type 0 where
  pub count : sums.gives ≡ length gives
  pub rising : AllByRecursion (λ g. g.class ≤ sums.class) gives
  pub charge : sums.work.charge ≡ charges_of gives sums.class
  pub reward : sums.work.reward ≡ rewards_of gives sums.class
  pub charged : (sums.charged ≡ true) ↔ AreChargedBelow table sums.q gives sums.class
  pub rewarded : (sums.rewarded ≡ true) ↔ AreRewardedBelow table sums.p gives sums.class
  pub charges : (file : ℕ) → file < length sums.shares.items → (share_at sums.shares.items file).charge ≡ charges_at gives file
  pub rewards : (file : ℕ) → file < length sums.shares.items → (share_at sums.shares.items file).reward ≡ rewards_at gives file

-- all charges together, and all rewards
abbrev pub charge_sum : List Share → ℕ
charge_sum shares = sum_by (λ (s : Share). s.charge) shares

abbrev pub reward_sum : List Share → ℕ
reward_sum shares = sum_by (λ (s : Share). s.reward) shares

-- no sum is greater than so many shares below 2^100
pub record StaysSmall (sums : LeafSums) : Type 0 where
  pub p : sums.p ≤ 2 ^ 50
  pub q : sums.q ≤ 2 ^ 50
  pub gives : sums.gives ≤ 2 ^ 22
  pub charge : sums.work.charge ≤ sums.gives * 2 ^ 100
  pub reward : sums.work.reward ≤ sums.gives * 2 ^ 100
  pub charges : charge_sum sums.shares.items ≤ sums.gives * 2 ^ 100
  pub rewards : reward_sum sums.shares.items ≤ sums.gives * 2 ^ 100

-- behind a class, the next one begins with nothing
abbrev pub behind_class : ℕ → LeafSums → LeafSums
behind_class size sums = record sums {
  class = sums.class + 1;
  work = no_share;
  charged = sums.charged && nat_le sums.work.charge (sums.q * size);
  rewarded = sums.rewarded && (sums.work.reward == sums.p * size);
}

-- a give more of the class in work
abbrev pub with_share : Share → Give → Share
with_share share give = record { charge = share.charge + give.charge; reward = share.reward + give.reward }

abbrev pub shared_out : Give → List Share → List Share
shared_out give shares = slice_set shares give.file (with_share (share_at shares give.file) give)

-- what a node wins and loses at a file
abbrev pub share_won : Node → List Share → ℕ → ℕ
share_won node shares file = if holds node.inside file then (share_at shares file).charge else 0

abbrev pub share_lost : Node → List Share → ℕ → ℕ
share_lost node shares file =
    if holds node.inside file then (share_at shares file).reward
    else if holds node.outside file then 0 else (share_at shares file).reward - (share_at shares file).charge

-- the sums reach a bound at a node
abbrev pub SumsReach : Range → Node → ℕ → LeafSums → Type 0
SumsReach range node bound sums =
    let files = length sums.shares.items in
    let end = turning_point range sums.p sums.q in
    sum_below (share_lost node sums.shares.items) files + sums.q * end + sums.q * bound
    < sum_below (share_won node sums.shares.items) files + sums.p * end + sums.q

abbrev pub multipliers_of : LeafSums → List Give → Multipliers
multipliers_of sums gives = record { p = sums.p; q = sums.q; gives = gives }

-- the bound, where there is one, is reached
abbrev pub Reaches : TableValue → Range → Option ℕ → Node → Multipliers → Type 0
Reaches table range bound node m = IsSomeAnd bound (λ z. ReachesBound table range node z m)

-- the first of the three rules on a whole leaf that its multipliers break, by its number; none where they keep all three
abbrev pub JudgesLeaf : TableValue → Range → Option ℕ → Node → Multipliers → Option ℕ → Type 0
JudgesLeaf table range bound node m None = AreCharged table m.q m.gives × AreRewarded table m.p m.gives × Reaches table range bound node m
JudgesLeaf table range bound node m (Some rule) =
    ((rule ≡ 10) × (¬ AreCharged table m.q m.gives))
    ⊎ (((rule ≡ 11) × AreCharged table m.q m.gives × (¬ AreRewarded table m.p m.gives))
    ⊎ ((rule ≡ 12) × AreCharged table m.q m.gives × AreRewarded table m.p m.gives × (¬ Reaches table range bound node m)))
