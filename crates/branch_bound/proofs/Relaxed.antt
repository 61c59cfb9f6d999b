-- What the relaxation at a node tells of its mix.
use Rattle.std.proofs.Common.{◌≡◌, ◌≢◌, ℕ, ◌+◌, ◌-◌, ◌*◌, ◌^◌, ◌<◌, ◌≤◌, Bool, true, false, cond, eqb, Option, Some, None, sym, ◌∙◌, ap, subst, arith}
use Rattle.std.proofs.Math.Nat.{le_of_mul-le-mul_right, mul-le-mul_right}
use Rattle.seed_model.specs.declared.node.Node.{Node}
use Rattle.seed_model.specs.declared.node.Mix.{Mix}
use Rattle.seed_model.specs.declared.range.Range.{Range}
use Rattle.seed_model.specs.Files.{holds}
use Rattle.seed_model.specs.Tables.{TableValue, IsTable}
use Rattle.seed_model.specs.Sums.{migrated_of, replicated_of}
use Rattle.seed_model.specs.Ranges.{InRange}
use Rattle.seed_model.specs.Nodes.{IsMix, weight_of, mixed_migrated, mixed_replicated}
use Rattle.seed_model.proofs.ClassSums.{splits, stays_within_total}
use Rattle.bound_cert.specs.declared.multipliers.Multipliers.{Multipliers}
use Rattle.hull_bound.specs.Relaxations.{IsRelaxation}
use Rattle.branch_bound.specs.declared.candidate.Candidate.{Candidate}
use Rattle.branch_bound.specs.declared.entry.Kept.{Kept}
use Rattle.branch_bound.specs.declared.entry.Relaxation.{Relaxation}
use Rattle.branch_bound.specs.declared.entry.Finding.TheVariants.{Valued}
use Rattle.branch_bound.specs.States.{IsKnown, IsCandidateOf, GoesOn}
use Rattle.branch_bound.specs.Visits.{HasWeight}

-- no set migrates as many bytes as a table may not have
pub few_migrated : (table : TableValue) (set : ℕ → Bool) → IsTable table → migrated_of set table < 2 ^ 50
few_migrated table set lawful = omega (arith, splits table set lawful, stays_within_total table set, lawful.bytes)

pub few_replicated : (table : TableValue) (set : ℕ → Bool) → IsTable table → replicated_of set table < 2 ^ 50
few_replicated table set lawful = omega (arith, splits table set lawful, stays_within_total table set, lawful.bytes)

-- so the weights of a mix are small
pub weights : (table : TableValue) (range : Range) (node : Node) (m : Multipliers) (mix : Mix) → IsTable table → IsRelaxation table range node m mix → (mix.alpha < 2 ^ 51) × (mix.beta < 2 ^ 51)
weights table range node m mix lawful r =
    let s = r.search in
    let last = few_migrated table (holds mix.second) lawful in (
      small (eqb (migrated_of (holds mix.first) table) (migrated_of (holds mix.second) table)) mix.alpha (migrated_of (holds mix.second) table) s.aim s.alpha last,
      omega (arith, s.beta, s.above, last),
    )
  where
    small : (b : Bool) (alpha most aim : ℕ) → alpha ≡ cond b 1 (most - aim) → most < 2 ^ 50 → alpha < 2 ^ 51
    small true alpha most aim e h = omega (arith, e)
    small false alpha most aim e h = omega (arith, e, h)

pub has_weight : (table : TableValue) (range : Range) (kept : Option Kept) (node : Node) (r : Relaxation) → IsTable table → IsKnown table range kept node r → HasWeight (Valued r)
has_weight table range kept node r lawful k =
    let w = weights table range node k.multipliers r.mix lawful k.relaxation in
    (k.relaxation.value.is_mix.weighed, omega (arith, w.0, w.1))

-- where both sets of a mix are one, it is in range, and its bytes are the value
module _ (table : TableValue) (range : Range) (node : Node) (mix : Mix) (is : IsMix table range node mix) (same : mix.first ≡ mix.second) where
  bytes : ℕ
  bytes = migrated_of (holds mix.first) table

  migrates : mixed_migrated table mix ≡ bytes * weight_of mix
  unfolding bytes
  migrates =
      let second : mix.beta * migrated_of (holds mix.second) table ≡ mix.beta * migrated_of (holds mix.first) table = ap (λ z. mix.beta * migrated_of (holds z) table) (sym same) in
      omega (arith, second)

  pub one_in_range : InRange table range (holds mix.first)
  unfolding bytes
  one_in_range = record {
    enough = le_of_mul-le-mul_right (let h : range.low * weight_of mix ≤ bytes * weight_of mix = omega (arith, is.enough, migrates) in h) is.weighed;
    no_more = le_of_mul-le-mul_right (let h : bytes * weight_of mix ≤ range.high * weight_of mix = omega (arith, is.no_more, migrates) in h) is.weighed;
  }

  pub one_replicates : mixed_replicated table mix ≡ replicated_of (holds mix.first) table * weight_of mix
  one_replicates =
      let second : mix.beta * replicated_of (holds mix.second) table ≡ mix.beta * replicated_of (holds mix.first) table = ap (λ z. mix.beta * replicated_of (holds z) table) (sym same) in
      omega (arith, second)

-- where a candidate may hold a better plan, the two sets of its mix differ
pub differ : (table : TableValue) (range : Range) (kept : Option Kept) (node : Node) (c : Candidate) (r : Relaxation) → IsKnown table range kept node r → IsCandidateOf c None (Valued r) → GoesOn kept c
    → r.mix.first ≢ r.mix.second
differ table range None node c r k v on e = k.first (one_in_range table range node r.mix k.relaxation.value.is_mix e)
differ table range (Some plan) node c r k v on e =
    let mix = k.relaxation.value.is_mix in
    let least : plan.replicated ≤ replicated_of (holds r.mix.first) table = k.first (one_in_range table range node r.mix mix e) in
    let times = mul-le-mul_right (weight_of r.mix) least in
    let value : r.worth ≡ replicated_of (holds r.mix.first) table * weight_of r.mix = k.worth ∙ one_replicates table range node r.mix mix e in
    let going : r.worth + weight_of r.mix ≤ plan.replicated * weight_of r.mix = subst (λ z. r.worth + z ≤ plan.replicated * z) v.1 (subst (λ z. z + c.weight ≤ plan.replicated * c.weight) v.0 on) in
    omega (arith, times, value, going, mix.weighed)
