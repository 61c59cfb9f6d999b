-- What the cut of a side costs, class by class.
use Rattle.std.proofs.Common.{inl, inr, ◌≡◌, ℕ, suc, ◌+◌, ◌*◌, ◌≤◌, Bool, true, false, not, ◌&&◌, cond, List, [], ◌∷◌, refl, ap, arith}
use Rattle.std.specs.Prelude.{sum_by, map, ◌++◌}
use Rattle.std.specs.List.{list_any, list_all}
use Rattle.std.proofs.lemmas.Bool.{cases_Bool}
use Rattle.std.proofs.lemmas.List.Sums.{sum_by-cons, sum_by-append}
use Rattle.seed_model.specs.declared.table.Class.{Class}
use Rattle.seed_model.specs.Tables.{TableValue}
use Rattle.flow_net.specs.Flows.{cost, IsSide}
use Rattle.flow_net.proofs.Sums.{cost-cons}
use Rattle.seed_model.specs.Sums.{migrated_of, touched_of, total_of}
use Rattle.seed_model.specs.Nodes.{is_free}
use Rattle.hull_bound.specs.Slots.{Slot, slots_from, reward_slots, charge_slots, reward_spokes, charge_spokes, first_of, pipe_of, set_of, net_of, file_node, charge_node, reward_node}
use Rattle.hull_bound.specs.Slots.Slot.{fill, drain, reward, charge}
use Rattle.seed_model.specs.declared.node.Node.{Node}
use Rattle.seed_model.specs.Files.{holds}

-- what the cut takes of one slot's pipe
abbrev pub cut : ℕ → ℕ → ℕ → (ℕ → Bool) → Slot → ℕ
cut n p q side s = cond (side (pipe_of n p q s).from && not (side (pipe_of n p q s).to)) (pipe_of n p q s).room 0

pub cost_sum : (n p q : ℕ) (side : ℕ → Bool) (ss : List Slot) → cost side (map (pipe_of n p q) ss) ≡ sum_by (cut n p q side) ss
cost_sum n p q side [] = refl
cost_sum n p q side (s ∷ ss) =
    omega (arith, cost_sum n p q side ss, sum_by-cons (cut n p q side) s ss, cost-cons side (pipe_of n p q s) (map (pipe_of n p q) ss))

module _ (n p q : ℕ) (node : Node) (side : ℕ → Bool) (ends : IsSide 0 1 side) where
  set : ℕ → Bool
  set f = set_of node side f

  -- where some user is not in the set, a pipe to a user is cut
  reward_cut : (k z : ℕ) (us : List ℕ) → list_any (holds node.outside) us ≡ false → list_all set us ≡ false → side (reward_node n k) ≡ true
      → p * z ≤ sum_by (cut n p q side) (reward_spokes (is_free node) k z us)
  unfolding set
  reward_cut k z [] none some at = absurd (cc some)
  reward_cut k z (u ∷ us) none some at =
      let more : List Slot = reward_spokes (is_free node) k z us in
      let sum = sum_by-cons (cut n p q side) (reward k u z) more in
      elim (cases_Bool (holds node.outside u)) as (λ _. p * z ≤ sum_by (cut n p q side) (reward_spokes (is_free node) k z (u ∷ us))) [
        | inl o ↦ absurd (cc (rw o at none))
        | inr o ↦ elim (cases_Bool (holds node.inside u)) as (λ _. p * z ≤ sum_by (cut n p q side) (reward_spokes (is_free node) k z (u ∷ us))) [
          | inl i ↦ rw i (reward_cut k z us (rw o at none) (rw i at some) at)
          | inr i ↦ elim (cases_Bool (side (file_node u))) as (λ _. p * z ≤ sum_by (cut n p q side) (reward_spokes (is_free node) k z (u ∷ us))) [
            | inl m ↦ rw (i, o) (omega (arith, sum, reward_cut k z us (rw o at none) (rw (i, o, m) at some) at))
            | inr m ↦
                let here : cut n p q side (reward k u z) ≡ p * z = rw (at, m) refl in
                rw (i, o) (omega (arith, sum, here))
          ]
        ]
      ]

  -- where some user is in the set, a pipe from a user is cut
  charge_cut : (k z : ℕ) (us : List ℕ) → list_any (holds node.inside) us ≡ false → list_any set us ≡ true → side (charge_node n k) ≡ false
      → q * z ≤ sum_by (cut n p q side) (charge_spokes (is_free node) k z us)
  unfolding set
  charge_cut k z [] none some at = absurd (cc some)
  charge_cut k z (u ∷ us) none some at =
      let more : List Slot = charge_spokes (is_free node) k z us in
      let sum = sum_by-cons (cut n p q side) (charge k u z) more in
      elim (cases_Bool (holds node.inside u)) as (λ _. q * z ≤ sum_by (cut n p q side) (charge_spokes (is_free node) k z (u ∷ us))) [
        | inl i ↦ absurd (cc (rw i at none))
        | inr i ↦ elim (cases_Bool (holds node.outside u)) as (λ _. q * z ≤ sum_by (cut n p q side) (charge_spokes (is_free node) k z (u ∷ us))) [
          | inl o ↦ rw (i, o) (charge_cut k z us (rw i at none) (rw (i, o) at some) at)
          | inr o ↦ elim (cases_Bool (side (file_node u))) as (λ _. q * z ≤ sum_by (cut n p q side) (charge_spokes (is_free node) k z (u ∷ us))) [
            | inl m ↦
                let here : cut n p q side (charge k u z) ≡ q * z = rw (at, m) refl in
                rw (i, o) (omega (arith, sum, here))
            | inr m ↦ rw (i, o) (omega (arith, sum, charge_cut k z us (rw i at none) (rw (i, o, m) at some) at))
          ]
        ]
      ]

  rewards_cut : (k : ℕ) (c : Class) → p * c.size ≤ sum_by (cut n p q side) (reward_slots node k c) + p * cond (list_all set c.users) c.size 0
  rewards_cut k c =
      let z : ℕ = c.size in
      let us : List ℕ = c.users in
      let first : Slot = fill k (first_of (λ _. true) us) z in
      let more : List Slot = reward_spokes (is_free node) k z us in
      elim (cases_Bool (list_all set us)) as (λ _. p * z ≤ sum_by (cut n p q side) (reward_slots node k c) + p * cond (list_all set us) z 0) [
        | inl a ↦ rw a (omega arith)
        | inr a ↦ elim (cases_Bool (list_any (holds node.outside) us)) as (λ _. p * z ≤ sum_by (cut n p q side) (reward_slots node k c) + p * cond (list_all set us) z 0) [
          | inl o ↦ rw (o, ends.0, ends.1) (omega arith)
          | inr o ↦
              let sum = sum_by-cons (cut n p q side) first more in
              rw o
              (elim (cases_Bool (side (reward_node n k))) as (λ _. p * z ≤ sum_by (cut n p q side) (first ∷ more) + p * cond (list_all set us) z 0) [
                | inl y ↦ omega (arith, sum, reward_cut k z us o a y)
                | inr y ↦
                    let here : cut n p q side first ≡ p * z = rw (y, ends.0) refl in
                    omega (arith, sum, here)
              ])
        ]
      ]

  charges_cut : (k : ℕ) (c : Class) → q * cond (list_any set c.users) c.size 0 ≤ sum_by (cut n p q side) (charge_slots node k c)
  charges_cut k c =
      let z : ℕ = c.size in
      let us : List ℕ = c.users in
      let first : Slot = drain k (first_of (λ _. true) us) z in
      let more : List Slot = charge_spokes (is_free node) k z us in
      elim (cases_Bool (list_any set us)) as (λ _. q * cond (list_any set us) z 0 ≤ sum_by (cut n p q side) (charge_slots node k c)) [
        | inr a ↦ rw a (omega arith)
        | inl a ↦ elim (cases_Bool (list_any (holds node.inside) us)) as (λ _. q * cond (list_any set us) z 0 ≤ sum_by (cut n p q side) (charge_slots node k c)) [
          | inl o ↦ rw (a, o, ends.0, ends.1) (omega arith)
          | inr o ↦
              let sum = sum_by-cons (cut n p q side) first more in
              rw (a, o)
              (elim (cases_Bool (side (charge_node n k))) as (λ _. q * z ≤ sum_by (cut n p q side) (first ∷ more)) [
                | inr y ↦ omega (arith, sum, charge_cut k z us o a y)
                | inl y ↦
                    let here : cut n p q side first ≡ q * z = rw (y, ends.1) refl in
                    omega (arith, sum, here)
              ])
        ]
      ]

  all_cut : (k : ℕ) (cs : List Class)
      → q * sum_by (λ (c : Class). cond (list_any set c.users) c.size 0) cs + p * sum_by (λ (c : Class). c.size) cs
      ≤ sum_by (cut n p q side) (slots_from node k cs) + p * sum_by (λ (c : Class). cond (list_all set c.users) c.size 0) cs
  all_cut k [] = omega arith
  all_cut k (c ∷ cs) =
      let f = cut n p q side in
      let more : List Slot = slots_from node (suc k) cs in
      let one = sum_by-append f (reward_slots node k c) (charge_slots node k c ++ more) in
      let two = sum_by-append f (charge_slots node k c) more in
      let touched = ap (λ (m : ℕ). q * m) (sum_by-cons (λ (c : Class). cond (list_any set c.users) c.size 0) c cs) in
      let whole = ap (λ (m : ℕ). p * m) (sum_by-cons (λ (c : Class). c.size) c cs) in
      let within = ap (λ (m : ℕ). p * m) (sum_by-cons (λ (c : Class). cond (list_all set c.users) c.size 0) c cs) in
      omega (arith, one, two, touched, whole, within, rewards_cut k c, charges_cut k c, all_cut (suc k) cs)

  pub side_costs : (table : TableValue) → table.files ≡ n
      → q * sum_by (λ (c : Class). cond (list_any (set_of node side) c.users) c.size 0) table.classes + p * sum_by (λ (c : Class). c.size) table.classes
      ≤ cost side (map (pipe_of n p q) (slots_from node 0 table.classes)) + p * sum_by (λ (c : Class). cond (list_all (set_of node side) c.users) c.size 0) table.classes
  unfolding set
  side_costs table same =
      omega (arith, all_cut 0 table.classes, cost_sum n p q side (slots_from node 0 table.classes))

-- each side costs at least what its set costs
pub sides_cost : (table : TableValue) (p q : ℕ) (node : Node) (side : ℕ → Bool) → IsSide 0 1 side
    → q * touched_of (set_of node side) table + p * total_of table ≤ cost side (net_of table p q node).pipes + p * migrated_of (set_of node side) table
sides_cost table p q node side ends = side_costs table.files p q node side ends table refl
