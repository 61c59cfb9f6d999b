-- The gives of a flow are multipliers, and their bound is what the set of a tight side costs.
use Rattle.std.proofs.Common.{inl, inr, ◌≡◌, ℕ, suc, ◌+◌, ◌*◌, ◌≤◌, ◌<◌, Bool, true, eqb, get_or, length, List, [], ◌∷◌, refl, ◌∙◌, arith}
use Rattle.std.specs.Prelude.{sum_by, map}
use Rattle.std.specs.List.{AllByRecursion}
use Rattle.std.proofs.lemmas.Bool.{cases_Bool}
use Rattle.std.proofs.lemmas.List.Sums.{sum_by-cons}
use Rattle.seed_model.specs.Tables.{TableValue, IsTable}
use Rattle.seed_model.specs.Sums.{migrated_of, touched_of, total_of}
use Rattle.flow_net.specs.Nets.{IsNet, pipe_at}
use Rattle.flow_net.specs.Flows.{out_of, into, IsFlow, IsSide, IsTight}
use Rattle.flow_net.proofs.Sums.{amount_on-cons}
use Rattle.flow_net.proofs.Values.{tight_sides_are_carried}
use Rattle.bound_cert.specs.declared.multipliers.Give.{Give}
use Rattle.bound_cert.specs.Multipliers.{IsGive, AreMultipliers, won, lost}
use Rattle.seed_model.specs.Nodes.{IsNode, IsMember}
use Rattle.hull_bound.specs.Slots.{Slot, pipe_of, file_node, charge_node, reward_node, slots_from, net_of, set_of}
use Rattle.hull_bound.specs.Walks.{Load, loads_of, given, gives_of, multipliers_of}
use Rattle.hull_bound.specs.Minima.{IsMinimum}
use Rattle.bound_cert.proofs.Duality.{weak_duality}
use Rattle.hull_bound.proofs.Loads.{IsLoad, lead, out_load, into_load, out_sum, into_sum, lead_sum, loads_charges, loads_rewards, loads_value}
use Rattle.hull_bound.proofs.Leads.{IsSlot, slots_good, one_led, total_led}
use Rattle.hull_bound.proofs.Costs.{sides_cost}
use Rattle.seed_model.specs.declared.node.Node.{Node}
use Rattle.seed_model.specs.Files.{holds}

out_loads : (n p q v : ℕ) (ss : List Slot) (xs : List ℕ) → out_of (λ u. eqb u v) (map (pipe_of n p q) ss) xs ≡ out_sum n p q v (loads_of ss xs)
out_loads n p q v [] xs = refl
out_loads n p q v (s ∷ ss) [] = refl
out_loads n p q v (s ∷ ss) (x ∷ xs) =
    omega (arith, out_loads n p q v ss xs, amount_on-cons (λ u. eqb u.from v) (pipe_of n p q s) (map (pipe_of n p q) ss) x xs, sum_by-cons (λ (l : Load). out_load n p q v l.slot l.amount) (record { slot = s; amount = x }) (loads_of ss xs))

into_loads : (n p q v : ℕ) (ss : List Slot) (xs : List ℕ) → into (λ u. eqb u v) (map (pipe_of n p q) ss) xs ≡ into_sum n p q v (loads_of ss xs)
into_loads n p q v [] xs = refl
into_loads n p q v (s ∷ ss) [] = refl
into_loads n p q v (s ∷ ss) (x ∷ xs) =
    omega (arith, into_loads n p q v ss xs, amount_on-cons (λ u. eqb u.to v) (pipe_of n p q s) (map (pipe_of n p q) ss) x xs, sum_by-cons (λ (l : Load). into_load n p q v l.slot l.amount) (record { slot = s; amount = x }) (loads_of ss xs))

lead_loads : (a b : ℕ) (test : ℕ → Bool) (ss : List Slot) (xs : List ℕ) → length xs ≡ length ss → lead_sum a b test (loads_of ss xs) ≡ sum_by (lead a b test) ss
lead_loads a b test [] xs e = refl
lead_loads a b test (s ∷ ss) [] e = absurd (omega (arith, e))
lead_loads a b test (s ∷ ss) (x ∷ xs) e =
    omega (arith, lead_loads a b test ss xs (omega (arith, e)), sum_by-cons (lead a b test) s ss, sum_by-cons (λ (l : Load). lead a b test l.slot) (record { slot = s; amount = x }) (loads_of ss xs))

pub length_pipes : (n p q : ℕ) (ss : List Slot) → length (map (pipe_of n p q) ss) ≡ length ss
length_pipes n p q [] = refl
length_pipes n p q (s ∷ ss) = omega (arith, length_pipes n p q ss)

loads_good : (table : TableValue) (p q : ℕ) (node : Node) (ss : List Slot) (xs : List ℕ) → AllByRecursion (IsSlot table p node) ss → length xs ≡ length ss
    → ((i : ℕ) → i < length ss → get_or xs i 0 ≤ (pipe_at (map (pipe_of table.files p q) ss) i).room) → AllByRecursion (IsLoad table p q node) (loads_of ss xs)
loads_good table p q node [] xs all e within = tt
loads_good table p q node (s ∷ ss) [] all e within = tt
loads_good table p q node (s ∷ ss) (x ∷ xs) all e within = (
  record { give = all.0.give x; file = all.0.file; fit = all.0.fit; within = within 0 (omega arith) },
  loads_good table p q node ss xs all.1 (omega (arith, e)) (λ i h. within (suc i) (omega (arith, h))),
)

gives_good : (table : TableValue) (p q : ℕ) (node : Node) (ls : List Load) → AllByRecursion (IsLoad table p q node) ls → AllByRecursion (IsGive table) (map (given p) ls)
gives_good table p q node [] all = tt
gives_good table p q node (l ∷ ls) all = (all.0.give, gives_good table p q node ls all.1)

module _ (table : TableValue) (p q : ℕ) (node : Node) (amounts : List ℕ)
    (lawful : IsTable table) (one : IsNode table.files node) (flow : IsFlow (net_of table p q node) 0 1 amounts) where
  n : ℕ
  n = table.files

  abbrev slots : List Slot
  slots = slots_from node 0 table.classes

  abbrev ls : List Load
  ls = loads_of slots amounts

  each : length amounts ≡ length slots
  each = flow.each ∙ length_pipes table.files p q slots

  good : AllByRecursion (IsLoad table p q node) ls
  good = loads_good table p q node slots amounts (slots_good table p node lawful) each (λ i h. flow.within i (let e = length_pipes table.files p q slots in omega (arith, h, e)))

  kept : (v : ℕ) → v < (net_of table p q node).nodes → 2 ≤ v → out_sum table.files p q v ls ≡ into_sum table.files p q v ls
  kept v h low =
      let law = flow.conserved v h (λ e. omega (arith, e, low)) (λ e. omega (arith, e, low)) in
      omega (arith, law, out_loads table.files p q v slots amounts, into_loads table.files p q v slots amounts)

  abbrev gives : List Give
  gives = gives_of p slots amounts

  pub multipliers : 1 ≤ q → AreMultipliers table (multipliers_of p q gives)
  multipliers some = record {
    positive = some;
    each = gives_good table p q node ls good;
    charges = λ k h.
        let most = loads_charges table p q node ls good k (kept (charge_node table.files k) (omega (arith, h)) (omega arith)) in
        let led = lead_loads 0 q (λ j. eqb j k) slots amounts each in
        omega (arith, most, led, one_led 0 q node k table.classes h);
    rewards = λ k h.
        let all = loads_rewards table p q node ls good k (kept (reward_node table.files k) (omega (arith, h)) (omega arith)) in
        let led = lead_loads p 0 (λ j. eqb j k) slots amounts each in
        omega (arith, all, led, one_led p 0 node k table.classes h);
  }

  -- the bound is at least what the flow carries
  pub value : lost table.files node gives + out_of (λ u. eqb u 0) (net_of table p q node).pipes amounts ≤ won table.files node gives + p * total_of table
  value =
      let bound = loads_value table p q node ls good one.apart (λ f h. kept (file_node f) (omega (arith, h)) (omega arith)) in
      let led = lead_loads p 0 (λ _. true) slots amounts each in
      omega (arith, bound, led, total_led p 0 node table.classes, out_loads table.files p q 0 slots amounts)

-- the gives of a flow are multipliers
pub flows_give : (table : TableValue) (p q : ℕ) (node : Node) (amounts : List ℕ) → 1 ≤ q → IsTable table → IsNode table.files node → IsFlow (net_of table p q node) 0 1 amounts
    → AreMultipliers table (multipliers_of p q (gives_of p (slots_from node 0 table.classes) amounts))
flows_give table p q node amounts some lawful one flow = multipliers table p q node amounts lawful one flow some

pub set_member : (n : ℕ) (node : Node) (side : ℕ → Bool) → IsNode n node → IsMember n node (set_of node side)
set_member n node side one = record {
  has = λ f h i. rw i refl;
  lacks = λ f h o. elim (cases_Bool (holds node.inside f)) [ inl i ↦ absurd (let e = one.apart f h i in cc (e, o)) | inr i ↦ rw (i, o) refl ];
}

-- and the set of a tight side costs what they say
pub is_attained : (table : TableValue) (p q : ℕ) (node : Node) (side : ℕ → Bool) (amounts : List ℕ) → 1 ≤ q → IsTable table → IsNode table.files node
    → IsNet (net_of table p q node) → IsFlow (net_of table p q node) 0 1 amounts → IsSide 0 1 side → IsTight side (net_of table p q node).pipes amounts
    → won table.files node (gives_of p (slots_from node 0 table.classes) amounts) + p * migrated_of (set_of node side) table
    ≡ lost table.files node (gives_of p (slots_from node 0 table.classes) amounts) + q * touched_of (set_of node side) table
is_attained table p q node side amounts some lawful one net flow ends tight =
    let gives : List Give = gives_of p (slots_from node 0 table.classes) amounts in
    let low : 0 < (net_of table p q node).nodes = omega arith in
    let carried = tight_sides_are_carried (net_of table p q node) 0 1 amounts side net low flow ends tight in
    let most = weak_duality table node (set_of node side) (multipliers_of p q gives) (flows_give table p q node amounts some lawful one flow) (set_member table.files node side one) in
    omega (arith, carried, most, value table p q node amounts lawful one flow, sides_cost table p q node side ends)

-- so it is a minimum
pub tight_are_minimal : (table : TableValue) (p q : ℕ) (node : Node) (side : ℕ → Bool) (amounts : List ℕ) → 1 ≤ q → IsTable table → IsNode table.files node
    → IsNet (net_of table p q node) → IsFlow (net_of table p q node) 0 1 amounts → IsSide 0 1 side → IsTight side (net_of table p q node).pipes amounts
    → IsMinimum table p q node (set_of node side)
tight_are_minimal table p q node side amounts some lawful one net flow ends tight = record {
  member = set_member table.files node side one;
  least = λ other member.
      let gives : List Give = gives_of p (slots_from node 0 table.classes) amounts in
      let here = is_attained table p q node side amounts some lawful one net flow ends tight in
      let there = weak_duality table node other (multipliers_of p q gives) (flows_give table p q node amounts some lawful one flow) member in
      omega (arith, here, there);
}
