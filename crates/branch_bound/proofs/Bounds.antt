-- Multipliers made anew at a node's slope prove the bound that its relaxation does.
use Rattle.std.proofs.Common.{◌≡◌, ℕ, ◌+◌, ◌*◌, ◌<◌, ◌≤◌, Option, Some, sym, ◌∙◌, ap, subst, arith}
use Rattle.std.proofs.Math.Nat.{mul-lt-mul_of_pos_left, lt_of_mul-lt-mul_right}
use Rattle.seed_model.specs.declared.node.Node.{Node}
use Rattle.seed_model.specs.declared.range.Range.{Range}
use Rattle.seed_model.specs.Tables.{TableValue}
use Rattle.seed_model.specs.Sums.{migrated_of, touched_of}
use Rattle.seed_model.specs.Nodes.{weight_of}
use Rattle.bound_cert.specs.declared.multipliers.Multipliers.{Multipliers}
use Rattle.bound_cert.specs.Multipliers.{won, lost, turning_point}
use Rattle.bound_cert.specs.Trees.{ClosesByBound}
use Rattle.bound_cert.proofs.Duality.{weak_duality}
use Rattle.hull_bound.specs.Forms.{AreMultipliersAt}
use Rattle.branch_bound.specs.declared.entry.Kept.{Kept}
use Rattle.branch_bound.specs.declared.entry.Relaxation.{Relaxation}
use Rattle.branch_bound.specs.States.{IsKnown}

-- one slope, one bound
one_bound : (table : TableValue) (node : Node) (p q : ℕ) (m n : Multipliers) → AreMultipliersAt table node p q m → AreMultipliersAt table node p q n
    → won table.files node m.gives + lost table.files node n.gives ≤ won table.files node n.gives + lost table.files node m.gives
one_bound table node p q m n a b =
    let set = b.attained.set in
    let below = weak_duality table node set m a.multipliers b.attained.member in
    let same = b.attained.attained in
    let mp : m.p * migrated_of set table ≡ n.p * migrated_of set table = ap (λ (x : ℕ). x * migrated_of set table) (a.over ∙ sym b.over) in
    let mq : m.q * touched_of set table ≡ n.q * touched_of set table = ap (λ (x : ℕ). x * touched_of set table) (a.under ∙ sym b.under) in
    omega (arith, below, same, mp, mq)

-- a bound that the value reaches
reached : (won lost won2 lost2 pk qk q z worth w : ℕ) → 1 ≤ q → (won + pk) * w ≡ (lost + qk) * w + q * worth → won + lost2 ≤ won2 + lost → z * w < worth + w
    → lost2 + qk + q * z < won2 + pk + q
reached won lost won2 lost2 pk qk q z worth w one value bound less =
    let scaled : q * (z * w) < q * (worth + w) = mul-lt-mul_of_pos_left less one in
    let times : (won + lost2) * w ≤ (won2 + lost) * w = mul_le (won + lost2) (won2 + lost) w bound in
    let all : (lost2 + qk + q * z) * w < (won2 + pk + q) * w = omega (arith, scaled, times, value) in
    lt_of_mul-lt-mul_right w all
  where
    mul_le : (a b c : ℕ) → a ≤ b → a * c ≤ b * c
    mul_le a b c h = grind (arith, h)

-- so multipliers made anew close the node for each bound that its value reaches
pub closes : (table : TableValue) (range : Range) (kept : Option Kept) (node : Node) (z : ℕ) (r : Relaxation) (m : Multipliers) → IsKnown table range kept node r → AreMultipliersAt table node r.p r.q m
    → z * weight_of r.mix < r.worth + weight_of r.mix → ClosesByBound table range (Some z) node m
closes table range kept node z r m k a less =
    let first = k.multipliers in
    let known : AreMultipliersAt table node r.p r.q first =
    subst (λ x. AreMultipliersAt table node r.p x first) k.q (subst (λ x. AreMultipliersAt table node x first.q first) k.p k.relaxation.multipliers) in
    let Value : ℕ → ℕ → Type 0 = λ p q. (won table.files node first.gives + p * turning_point range p q) * weight_of r.mix ≡ (lost table.files node first.gives + q * turning_point range p q) * weight_of r.mix + q * r.worth in
    let at_first : Value first.p first.q = k.relaxation.one_value ∙ ap (λ x. (lost table.files node first.gives + first.q * turning_point range first.p first.q) * weight_of r.mix + first.q * x) (sym k.worth) in
    let value : Value r.p r.q = subst (λ x. Value r.p x) k.q (subst (λ x. Value x first.q) k.p at_first) in
    let some : 1 ≤ r.q = subst (λ x. 1 ≤ x) k.q known.multipliers.positive in
    let Reaches : ℕ → ℕ → Type 0 = λ p q. lost table.files node m.gives + q * turning_point range p q + q * z < won table.files node m.gives + p * turning_point range p q + q in
    let at_slope : Reaches r.p r.q =
    reached (won table.files node first.gives) (lost table.files node first.gives) (won table.files node m.gives) (lost table.files node m.gives) (r.p * turning_point range r.p r.q) (r.q * turning_point range r.p r.q) r.q z r.worth (weight_of r.mix)
    some value (one_bound table node r.p r.q first m known a) less in
    (a.multipliers, subst (λ x. Reaches m.p x) (sym a.under) (subst (λ x. Reaches x r.q) (sym a.over) at_slope))
