-- The facts of a turn of the search, from what its calls told.
use Rattle.std.proofs.Common.{◌≡◌, ℕ, ◌+◌, ◌-◌, ◌*◌, ◌^◌, ◌<◌, ◌≤◌, Option, Some, None, List, [], ◌∷◌, get_or, sym, ◌∙◌, subst, arith}
use Rattle.std.specs.Prelude.{All}
use Rattle.std.specs.List.Sorted.{IsPermutation}
use Rattle.std.proofs.Math.Nat.{mul-le-mul_right, lt_of_mul-lt-mul_right}
use Rattle.std.proofs.lemmas.List.Elements.{All-nil}
use Rattle.std.proofs.lemmas.List.Sorted.{All-permutation}
use Rattle.seed_model.specs.declared.node.Node.{Node}
use Rattle.seed_model.specs.declared.range.Range.{Range}
use Rattle.seed_model.specs.Files.{holds}
use Rattle.seed_model.specs.Tables.{TableValue, IsTable}
use Rattle.seed_model.specs.Sums.{replicated_of}
use Rattle.seed_ratio.specs.Fractions.{IsCeiling}
use Rattle.branch_bound.specs.declared.candidate.Candidate.{Candidate}
use Rattle.branch_bound.specs.declared.entry.Entry.{Entry}
use Rattle.branch_bound.specs.declared.entry.Kept.{Kept}
use Rattle.branch_bound.specs.Ended.{NoneBetter}
use Rattle.branch_bound.specs.Orders.{GoesFirst}
use Rattle.branch_bound.specs.States.{IsState, GoesOn, IsReached}
use Rattle.branch_bound.proofs.Branching.{stood, found_here}
use Rattle.branch_bound.proofs.Heaps.{waiting_permuted, values_permuted}
use Rattle.branch_bound.proofs.Relaxed.{few_replicated}
use Rattle.branch_bound.proofs.Searched.{reaches_more, first_least}

-- in another order the candidates are those of one state
pub state_permuted : (table : TableValue) (range : Range) (root : Node) (kept : Option Kept) (branchings : ℕ) (es : List Entry) (one other : List Candidate) → IsPermutation one other
    → IsState table range root kept branchings es one → IsState table range root kept branchings es other
state_permuted table range root kept branchings es one other p s = record {
  tree = s.tree;
  nodes = s.nodes;
  level = s.level;
  begins = s.begins;
  once = s.once;
  count = s.count;
  made = s.made;
  tree_of = s.tree_of;
  linked = s.linked;
  origins = s.origins;
  are_nodes = s.are_nodes;
  root_is = s.root_is;
  below = s.below;
  level_positive = s.level_positive;
  found = s.found;
  plan = s.plan;
  waiting = waiting_permuted es one other p s.waiting;
  values = values_permuted es one other p s.values;
}

pub first_of_all : (c : Candidate) (one other : List Candidate) → IsPermutation one other → All (GoesFirst c) one → All (GoesFirst c) other
first_of_all c one other p a = All-permutation (GoesFirst c) one other p a

-- without candidates none is better
pub none_left : (kept : Option Kept) (candidates : List Candidate) → candidates ≡ [] → NoneBetter kept candidates
none_left None candidates e = e
none_left (Some k) candidates e = subst (λ z. All (λ (c : Candidate). k.replicated * c.weight < c.worth + c.weight) z) (sym e) (All-nil (λ (c : Candidate). k.replicated * c.weight < c.worth + c.weight))

-- nor where the first of them is not
pub none_better : (kept : Option Kept) (first : Candidate) (whole : ℕ) (candidates : List Candidate) → IsReached whole kept → IsCeiling first.worth first.weight whole → All (GoesFirst first) candidates → NoneBetter kept candidates
none_better None first whole candidates r h a = absurd r
none_better (Some k) first whole candidates r h a =
    let times = mul-le-mul_right first.weight r in
    let low : k.replicated * first.weight < first.worth + first.weight = omega (arith, times, h.near) in
    λ i d l. by_one (get_or candidates i d) (a i d l) low
  where
    by_one : (d : Candidate) → GoesFirst first d → k.replicated * first.weight < first.worth + first.weight → k.replicated * d.weight < d.worth + d.weight
    by_one d g low = reaches_more k.replicated first.worth first.weight d.worth d.weight first.weighed d.weighed (first_least first d g) low

-- else it may be better
pub goes_on : (kept : Option Kept) (first : Candidate) (whole : ℕ) → (IsReached whole kept → ⊥) → IsCeiling first.worth first.weight whole → GoesOn kept first
goes_on None first whole n h = tt
goes_on (Some k) first whole n h =
    let more : whole + 1 ≤ k.replicated = omega (arith, n) in
    omega (arith, mul-le-mul_right first.weight more, h.above)

-- a value rounded up is no more than a table has bytes
pub whole_small : (table : TableValue) (range : Range) (root : Node) (kept : Option Kept) (branchings : ℕ) (es : List Entry) (c : Candidate) (rest : List Candidate) → IsTable table
    → (state : IsState table range root kept branchings es (c ∷ rest)) → All (GoesFirst c) (c ∷ rest) → (whole : ℕ) → IsCeiling c.worth c.weight whole → whole < 2 ^ 50
whole_small table range root kept branchings es c rest lawful state first whole h =
    let stands = stood table range root kept branchings es c rest state first in
    let found = found_here table range root kept branchings es c rest state first in
    let mix = stands.relaxation.mix in
    let one = few_replicated table (holds mix.first) lawful in
    let other = few_replicated table (holds mix.second) lawful in
    let left : mix.alpha * replicated_of (holds mix.first) table ≤ mix.alpha * (2 ^ 50 - 1) = mul_most mix.alpha (replicated_of (holds mix.first) table) one in
    let right : mix.beta * replicated_of (holds mix.second) table ≤ mix.beta * (2 ^ 50 - 1) = mul_most mix.beta (replicated_of (holds mix.second) table) other in
    let worth : c.worth ≤ c.weight * (2 ^ 50 - 1) = subst (λ z. z ≤ c.weight * (2 ^ 50 - 1)) (sym (stands.worth ∙ found.0.worth)) (subst (λ z. mix.alpha * replicated_of (holds mix.first) table + mix.beta * replicated_of (holds mix.second) table ≤ z * (2 ^ 50 - 1)) (sym stands.weight) (omega (arith, left, right))) in
    lt_of_mul-lt-mul_right c.weight (omega (arith, worth, h.near))
  where
    mul_most : (a b : ℕ) → b < 2 ^ 50 → a * b ≤ a * (2 ^ 50 - 1)
    mul_most a b l = let le : b ≤ 2 ^ 50 - 1 = omega (arith, l) in grind (arith, le)
