-- A node's net keeps to the limits of nets.
use Rattle.std.proofs.Common.{inl, inr, ℕ, zero, suc, ◌+◌, ◌*◌, ◌^◌, ◌≤◌, ◌<◌, Bool, true, false, cond, length, List, [], ◌∷◌, ◌++◌, arith}
use Rattle.std.specs.Prelude.{sum_by, map}
use Rattle.std.specs.List.{list_any, AllByRecursion}
use Rattle.std.proofs.lemmas.Bool.{cases_Bool}
use Rattle.std.proofs.lemmas.Nat.{mul-le}
use Rattle.std.proofs.lemmas.List.Sums.{sum_by-cons}
use Rattle.std.proofs.Common.{length-append}
use Rattle.std.proofs.lemmas.List.{length-map}
use Rattle.seed_model.specs.Sums.{total_of}
use Rattle.seed_model.specs.declared.table.Class.{Class}
use Rattle.seed_model.specs.declared.limits.TheConstants.{MOST_BYTES}
use Rattle.seed_model.specs.Tables.{TableValue, IsTable}
use Rattle.flow_net.specs.Nets.{IsNet, IsPipe, pipe_at}
use Rattle.seed_model.specs.Nodes.{is_free}
use Rattle.hull_bound.specs.Slots.{Slot, pipe_of, slots_from, reward_slots, charge_slots, reward_spokes, charge_spokes, net_of}
use Rattle.hull_bound.specs.Slots.Slot.{fill, drain, reward, charge, barred, forced}
use Rattle.hull_bound.proofs.Leads.{IsSlot, slots_good}
use Rattle.seed_model.specs.declared.node.Node.{Node}
use Rattle.seed_model.specs.Files.{holds}

rewards_few : (free : ℕ → Bool) (k z : ℕ) (us : List ℕ) → length (reward_spokes free k z us) ≤ length us
rewards_few free k z [] = omega arith
rewards_few free k z (u ∷ us) = elim (cases_Bool (free u)) as (λ _. length (reward_spokes free k z (u ∷ us)) ≤ length (u ∷ us)) [
  | inl t ↦ rw t (omega (arith, rewards_few free k z us))
  | inr f ↦ rw f (omega (arith, rewards_few free k z us))
]

charges_few : (free : ℕ → Bool) (k z : ℕ) (us : List ℕ) → length (charge_spokes free k z us) ≤ length us
charges_few free k z [] = omega arith
charges_few free k z (u ∷ us) = elim (cases_Bool (free u)) as (λ _. length (charge_spokes free k z (u ∷ us)) ≤ length (u ∷ us)) [
  | inl t ↦ rw t (omega (arith, charges_few free k z us))
  | inr f ↦ rw f (omega (arith, charges_few free k z us))
]

half_few : (b : Bool) (one two : List Slot) (m : ℕ) → length one ≤ m → length two ≤ m → length (cond b one two) ≤ m
half_few true one two m h k = h
half_few false one two m h k = k

pub slots_few : (node : Node) (k : ℕ) (cs : List Class) → length (slots_from node k cs) ≤ 2 * length cs + 2 * sum_by (λ (c : Class). length c.users) cs
slots_few node k [] = omega arith
slots_few node k (c ∷ cs) =
    let free = is_free node in
    let r : length (reward_slots node k c) ≤ length c.users + 1 = half_few (list_any (holds node.outside) c.users) _ _ (length c.users + 1) (omega arith) (omega (arith, rewards_few free k c.size c.users)) in
    let h : length (charge_slots node k c) ≤ length c.users + 1 = half_few (list_any (holds node.inside) c.users) _ _ (length c.users + 1) (omega arith) (omega (arith, charges_few free k c.size c.users)) in
    omega (
      arith,
      r,
      h,
      slots_few node (suc k) cs,
      sum_by-cons (λ (x : Class). length x.users) c cs,
      length-append (reward_slots node k c) (charge_slots node k c ++ slots_from node (suc k) cs),
      length-append (charge_slots node k c) (slots_from node (suc k) cs),
    )

room_fits : (a z : ℕ) → a ≤ 2 ^ 50 → z ≤ MOST_BYTES → a * z < 2 ^ 104
room_fits a z h l =
    let e : a * z ≤ 2 ^ 50 * 2 ^ 50 = mul-le a z (2 ^ 50) (2 ^ 50) h (omega (arith, l)) in
    omega (arith, e)

module _ (table : TableValue) (p q : ℕ) (node : Node) (lawful : IsTable table) (p_fits : p ≤ 2 ^ 50) (q_fits : q ≤ 2 ^ 50) where
  abbrev nodes : ℕ
  nodes = 2 + table.files + 2 * length table.classes

  room_of : (a z : ℕ) → a ≤ 2 ^ 50 → z ≤ total_of table → a * z < 2 ^ 104
  room_of a z h l = room_fits a z h (omega (arith, l, lawful.bytes))

  slot_pipe : (s : Slot) → IsSlot table p node s → IsPipe nodes (pipe_of table.files p q s)
  slot_pipe (fill k f z) good =
      let h = (good.give 0).known in
      record { from_is_node = omega arith; to_is_node = omega (arith, h); apart = λ e. omega (arith, e); small = room_of p z p_fits good.small }
  slot_pipe (drain k f z) good =
      let h = (good.give 0).known in
      record { from_is_node = omega (arith, h); to_is_node = omega arith; apart = λ e. omega (arith, e); small = room_of q z q_fits good.small }
  slot_pipe (reward k f z) good =
      let h = (good.give 0).known in
      record { from_is_node = omega (arith, h); to_is_node = omega (arith, good.file); apart = λ e. omega (arith, e, good.file); small = room_of p z p_fits good.small }
  slot_pipe (charge k f z) good =
      let h = (good.give 0).known in
      record { from_is_node = omega (arith, good.file); to_is_node = omega (arith, h); apart = λ e. omega (arith, e, good.file); small = room_of q z q_fits good.small }
  slot_pipe (barred k f z) good =
      record { from_is_node = omega arith; to_is_node = omega arith; apart = λ e. omega (arith, e); small = room_of p z p_fits good.small }
  slot_pipe (forced k f z) good =
      record { from_is_node = omega arith; to_is_node = omega arith; apart = λ e. omega (arith, e); small = room_of q z q_fits good.small }

  slot_pipes : (ss : List Slot) → AllByRecursion (IsSlot table p node) ss → (i : ℕ) → i < length (map (pipe_of table.files p q) ss)
      → IsPipe nodes (pipe_at (map (pipe_of table.files p q) ss) i)
  slot_pipes [] all i h = absurd (omega (arith, h))
  slot_pipes (s ∷ ss) all zero h = slot_pipe s all.0
  slot_pipes (s ∷ ss) all (suc i) h = slot_pipes ss all.1 i (omega (arith, h))

pub nets_are_lawful : (table : TableValue) (p q : ℕ) (node : Node) → IsTable table → p ≤ 2 ^ 50 → q ≤ 2 ^ 50 → IsNet (net_of table p q node)
nets_are_lawful table p q node lawful p_fits q_fits =
    let ss : List Slot = slots_from node 0 table.classes in
    record {
      few_nodes = omega (arith, lawful.files, lawful.classes);
      few_pipes = omega (arith, length-map ss (pipe_of table.files p q), slots_few node 0 table.classes, lawful.classes, lawful.pairs);
      pipes = slot_pipes table p q node lawful p_fits q_fits ss (slots_good table p node lawful);
    }
