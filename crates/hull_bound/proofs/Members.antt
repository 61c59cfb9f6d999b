-- The sides of members, and minima as least cuts.
use Rattle.std.proofs.Common.{inl, inr, ◌≡◌, ℕ, ◌+◌, ◌-◌, ◌*◌, ◌/◌, ◌%◌, ◌≤◌, ◌<◌, Bool, true, false, not, ◌&&◌, cond, eqb, List, [], ◌∷◌, refl, sym, ◌∙◌, ap, arith}
use Rattle.std.specs.Prelude.{sum_by}
use Rattle.std.specs.List.{list_any, list_all}
use Rattle.std.proofs.lemmas.Bool.{cases_Bool, lt-ltb, le-ltb}
use Rattle.std.proofs.lemmas.List.Sums.{sum_by-cons}
use Rattle.seed_model.specs.declared.table.Class.{Class}
use Rattle.seed_model.specs.Tables.{TableValue, IsTable}
use Rattle.seed_model.specs.Sums.{migrated_of, touched_of, total_of}
use Rattle.seed_model.specs.SumLaws.{IsWithin}
use Rattle.flow_net.specs.Flows.{cost, IsSide, IsLeastCut}
use Rattle.hull_bound.specs.Minima.{IsMinimum}
use Rattle.seed_model.specs.Keys.{class_at}
use Rattle.seed_model.specs.Nodes.{IsNode, IsMember}
use Rattle.hull_bound.specs.Slots.{Slot, file_node, charge_node, reward_node, slots_from, net_of, set_of, side_of}
use Rattle.hull_bound.specs.Slots.Slot.{fill, drain, reward, charge, barred, forced}
use Rattle.seed_model.proofs.KeySums.{sum_le, sum_plus}
use Rattle.bound_cert.proofs.Duality.{user_all, user_none}
use Rattle.hull_bound.proofs.Loads.{lead}
use Rattle.hull_bound.proofs.Leads.{IsSlot, slots_good, all_led, sized_classes}
use Rattle.hull_bound.proofs.Costs.{cut, cost_sum, sides_cost}
use Rattle.hull_bound.proofs.Attained.{set_member}
use Rattle.seed_model.specs.declared.node.Node.{Node}
use Rattle.seed_model.specs.Files.{holds}

module _ (table : TableValue) (set : ℕ → Bool) where
  at_file : (f : ℕ) → f < table.files → side_of table set (file_node f) ≡ set f
  at_file f h =
      let back : 2 + f - 2 ≡ f = omega arith in
      rw (le-ltb (2 + f) 2 (omega arith), lt-ltb (2 + f) (2 + table.files) (omega (arith, h)), back) refl

  at_charge : (k : ℕ) → side_of table set (charge_node table.files k) ≡ list_any set (class_at table.classes k).users
  at_charge k =
      let v : ℕ = charge_node table.files k in
      let even : (v - 2 - table.files) % 2 ≡ 0 = omega arith in
      let half : (v - 2 - table.files) / 2 ≡ k = omega arith in
      rw (le-ltb v 2 (omega arith), le-ltb v (2 + table.files) (omega arith), even, half) refl

  at_reward : (k : ℕ) → side_of table set (reward_node table.files k) ≡ list_all set (class_at table.classes k).users
  at_reward k =
      let v : ℕ = reward_node table.files k in
      let odd : (v - 2 - table.files) % 2 ≡ 1 = omega arith in
      let half : (v - 2 - table.files) / 2 ≡ k = omega arith in
      rw (le-ltb v 2 (omega arith), le-ltb v (2 + table.files) (omega arith), odd, half) refl

  touched_at : ℕ → Bool
  touched_at k = list_any set (class_at table.classes k).users

  apart_at : ℕ → Bool
  apart_at k = not (list_all set (class_at table.classes k).users)

  module _ (p q : ℕ) (node : Node) (member : IsMember table.files node set) where
    Cut : Slot → Type 0
    Cut s = cut table.files p q (side_of table set) s ≤ lead p 0 apart_at s + lead 0 q touched_at s

    fill_cut : (k f z : ℕ) → Cut (fill k f z)
    unfolding Cut apart_at
    fill_cut k f z =
        let here : cut table.files p q (side_of table set) (fill k f z) ≡ cond (not (list_all set (class_at table.classes k).users)) (p * z) 0 = rw (at_reward k) refl in
        omega (arith, here)

    drain_cut : (k f z : ℕ) → Cut (drain k f z)
    unfolding Cut touched_at
    drain_cut k f z =
        let here : cut table.files p q (side_of table set) (drain k f z) ≡ cond (list_any set (class_at table.classes k).users && true) (q * z) 0 = rw (at_charge k) refl in
        omega (arith, here, plain (list_any set (class_at table.classes k).users) (q * z))
      where
        plain : (b : Bool) (x : ℕ) → cond (b && true) x 0 ≡ cond b x 0
        plain true x = refl
        plain false x = refl

    reward_cut : (k f z : ℕ) → f < table.files → list_any (λ u. eqb u f) (class_at table.classes k).users ≡ true → Cut (reward k f z)
    unfolding Cut
    reward_cut k f z h u = elim (cases_Bool (list_all set (class_at table.classes k).users)) [
      | inl a ↦
          let in_set = user_all set f (class_at table.classes k).users u a in
          let here : cut table.files p q (side_of table set) (reward k f z) ≡ 0 = rw (at_reward k, at_file f h, a, in_set) refl in
          omega (arith, here)
      | inr a ↦
          let here : cut table.files p q (side_of table set) (reward k f z) ≡ 0 = rw (at_reward k, a) refl in
          omega (arith, here)
    ]

    charge_cut : (k f z : ℕ) → f < table.files → list_any (λ u. eqb u f) (class_at table.classes k).users ≡ true → Cut (charge k f z)
    unfolding Cut
    charge_cut k f z h u = elim (cases_Bool (list_any set (class_at table.classes k).users)) [
      | inr a ↦
          let in_set = user_none set f (class_at table.classes k).users u a in
          let here : cut table.files p q (side_of table set) (charge k f z) ≡ 0 = rw (at_charge k, at_file f h, a, in_set) refl in
          omega (arith, here)
      | inl a ↦
          let here : cut table.files p q (side_of table set) (charge k f z) ≡ 0 = rw (at_charge k, at_file f h, a) (both (set f)) in
          omega (arith, here)
    ]
      where
        both : (b : Bool) → ◌≡◌ {A = ℕ} (cond (b && false) (q * z) 0) 0
        both true = refl
        both false = refl

    barred_cut : (k f z : ℕ) → f < table.files → holds node.outside f ≡ true → list_any (λ u. eqb u f) (class_at table.classes k).users ≡ true → Cut (barred k f z)
    unfolding Cut apart_at
    barred_cut k f z h out u = elim (cases_Bool (list_all set (class_at table.classes k).users)) [
      | inl a ↦ absurd (let yes = user_all set f (class_at table.classes k).users u a in let no = member.lacks f h out in cc (yes, no))
      | inr a ↦ rw a (omega arith)
    ]

    forced_cut : (k f z : ℕ) → f < table.files → holds node.inside f ≡ true → list_any (λ u. eqb u f) (class_at table.classes k).users ≡ true → Cut (forced k f z)
    unfolding Cut touched_at
    forced_cut k f z h has u = elim (cases_Bool (list_any set (class_at table.classes k).users)) [
      | inr a ↦ absurd (let no = user_none set f (class_at table.classes k).users u a in let yes = member.has f h has in cc (yes, no))
      | inl a ↦ rw a (omega arith)
    ]

    slot_cut : (s : Slot) → IsSlot table p node s → cut table.files p q (side_of table set) s ≤ lead p 0 apart_at s + lead 0 q touched_at s
    unfolding Cut
    slot_cut (fill k f z) good = fill_cut k f z
    slot_cut (drain k f z) good = drain_cut k f z
    slot_cut (reward k f z) good = reward_cut k f z good.file (good.give 0).user
    slot_cut (charge k f z) good = charge_cut k f z good.file (good.give 0).user
    slot_cut (barred k f z) good = barred_cut k f z good.file good.fit (good.give 0).user
    slot_cut (forced k f z) good = forced_cut k f z good.file good.fit (good.give 0).user

apart_sum : (set : ℕ → Bool) (cs : List Class) → sum_by (λ (c : Class). cond (not (list_all set c.users)) c.size 0) cs + sum_by (λ (c : Class). cond (list_all set c.users) c.size 0) cs
    ≡ sum_by (λ (c : Class). c.size) cs
apart_sum set [] = refl
apart_sum set (c ∷ cs) =
    omega (
      arith,
      one (list_all set c.users) c.size,
      apart_sum set cs,
      sum_by-cons (λ (x : Class). cond (not (list_all set x.users)) x.size 0) c cs,
      sum_by-cons (λ (x : Class). cond (list_all set x.users) x.size 0) c cs,
      sum_by-cons (λ (x : Class). x.size) c cs,
    )
  where
    one : (b : Bool) (z : ℕ) → cond (not b) z 0 + cond b z 0 ≡ z
    one true z = omega arith
    one false z = omega arith

pub members_cost : (table : TableValue) (p q : ℕ) (node : Node) (set : ℕ → Bool) → IsTable table → IsMember table.files node set
    → cost (side_of table set) (net_of table p q node).pipes + p * migrated_of set table ≤ q * touched_of set table + p * total_of table
unfolding apart_at touched_at
members_cost table p q node set lawful member =
    let ss : List Slot = slots_from node 0 table.classes in
    let apart = sized_classes table (λ (c : Class). not (list_all set c.users)) in
    let touched = sized_classes table (λ (c : Class). list_any set c.users) in
    let le = sum_le (IsSlot table p node) (cut table.files p q (side_of table set)) (λ s. lead p 0 (apart_at table set) s + lead 0 q (touched_at table set) s) ss (slot_cut table set p q node member) (slots_good table p node lawful) in
    let split = ap (λ (m : ℕ). p * m) (apart_sum set table.classes) in
    let e1 = all_led p 0 (apart_at table set) node 0 table.classes in
    let e2 = all_led 0 q (touched_at table set) node 0 table.classes in
    let e3 = ap (λ (m : ℕ). (p + 0) * m) apart in
    let e4 = ap (λ (m : ℕ). (0 + q) * m) touched in
    omega (arith, le, split, e1, e2, e3, e4, cost_sum table.files p q (side_of table set) ss, sum_plus (lead p 0 (apart_at table set)) (lead 0 q (touched_at table set)) ss)

side_ends : (table : TableValue) (set : ℕ → Bool) → IsSide 0 1 (side_of table set)
side_ends table set = (refl, refl)

-- the side of a minimum is a least cut
pub minima_are_cuts : (table : TableValue) (p q : ℕ) (node : Node) (set : ℕ → Bool) → IsTable table → IsNode table.files node → IsMinimum table p q node set
    → IsLeastCut (net_of table p q node).pipes 0 1 (side_of table set)
minima_are_cuts table p q node set lawful one minimum = (
  side_ends table set,
  λ t ends.
      let own = members_cost table p q node set lawful minimum.member in
      let other = sides_cost table p q node t ends in
      let least = minimum.least (set_of node t) (set_member table.files node t one) in
      omega (arith, own, other, least),
)

-- so the smallest side of a least cut has the smallest minimum, and the largest the largest
pub sides_bound_minima : (table : TableValue) (p q : ℕ) (node : Node) (least greatest set : ℕ → Bool) → IsTable table → IsNode table.files node
    → ((s : ℕ → Bool) → IsLeastCut (net_of table p q node).pipes 0 1 s → (v : ℕ) → least v ≡ true → s v ≡ true)
    → ((s : ℕ → Bool) → IsLeastCut (net_of table p q node).pipes 0 1 s → (v : ℕ) → v < (net_of table p q node).nodes → s v ≡ true → greatest v ≡ true)
    → IsMinimum table p q node set → IsWithin table.files (set_of node least) set × IsWithin table.files set (set_of node greatest)
sides_bound_minima table p q node least greatest set lawful one smallest largest minimum =
    let cut_is = minima_are_cuts table p q node set lawful one minimum in (
      λ f h at.
          by_low f h (holds node.inside f) refl (holds node.outside f) refl (least (file_node f)) refl at,
      λ f h at.
          elim (cases_Bool (holds node.inside f)) as (λ _. set_of node greatest f ≡ true) [
            | inl i ↦ rw i refl
            | inr i ↦ elim (cases_Bool (holds node.outside f)) as (λ _. set_of node greatest f ≡ true) [
              | inl o ↦ absurd (let no = minimum.member.lacks f h o in cc (no, at))
              | inr o ↦
                  let up = largest (side_of table set) cut_is (file_node f) (omega (arith, h)) (at_file table set f h ∙ at) in
                  rw (i, o) up
            ]
          ],
    )
  where
    by_low : (f : ℕ) → f < table.files → (i : Bool) → holds node.inside f ≡ i → (o : Bool) → holds node.outside f ≡ o → (l : Bool) → least (file_node f) ≡ l → set_of node least f ≡ true → set f ≡ true
    by_low f h true i o oe l le at = minimum.member.has f h i
    by_low f h false i true o l le at = absurd (cc (rw (i, o) at at))
    by_low f h false i false o true l at =
        let cut_is = minima_are_cuts table p q node set lawful one minimum in
        sym (at_file table set f h) ∙ smallest (side_of table set) cut_is (file_node f) l
    by_low f h false i false o false l at = absurd (cc (rw (i, o, l) at at))
