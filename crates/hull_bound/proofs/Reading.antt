-- The steps of reading the gives off a flow.
use Rattle.std.proofs.Common.{inl, inr, ◌≡◌, ℕ, suc, ◌+◌, ◌-◌, ◌*◌, ◌<◌, Bool, cond, get_or, length, drop, List, [], ◌∷◌, ◌++◌, refl, sym, ◌∙◌, ap, arith, length-append, append_assoc}
use Rattle.std.specs.List.{filter, list_any, count_by}
use Rattle.std.proofs.lemmas.Bool.{cases_Bool}
use Rattle.std.proofs.lemmas.List.Elements.{filter-append}
use Rattle.std.proofs.lemmas.List.Recursion.{is_count_by}
use Rattle.std.proofs.lemmas.List.{drop-drop}
use Rattle.std.proofs.Math.Seq.{drop-cons}
use Rattle.seed_model.specs.declared.node.Node.{Node}
use Rattle.seed_model.specs.declared.table.Class.{Class}
use Rattle.seed_model.specs.Files.{holds}
use Rattle.seed_model.specs.Keys.{class_at, no_class}
use Rattle.seed_model.specs.Nodes.{is_free}
use Rattle.bound_cert.specs.declared.multipliers.Give.{Give}
use Rattle.hull_bound.specs.Forms.{is_some_give}
use Rattle.hull_bound.specs.Slots.{Slot, reward_slots, charge_slots, reward_spokes, charge_spokes, slots_from}
use Rattle.hull_bound.specs.Walks.{taken, left_over, walk, asked, class_gives, walked_from}
use Rattle.hull_bound.proofs.Building.{slots_next}

-- the next user's give
pub walk_next : (free lead payer : ℕ → Bool) (k : ℕ) (us : List ℕ) (i rest due : ℕ) (xs ys : List ℕ) → i < length us
    → walk free lead payer k (drop i us) rest due xs ys
    ≡ record { class = k; file = get_or us i 0; charge = cond (payer (get_or us i 0)) due 0 + taken (free (get_or us i 0)) ys; reward = cond (lead (get_or us i 0)) rest 0 + taken (free (get_or us i 0)) xs }
    ∷ walk free lead payer k (drop (i + 1) us) (cond (lead (get_or us i 0)) 0 rest) (cond (payer (get_or us i 0)) 0 due) (left_over (free (get_or us i 0)) xs) (left_over (free (get_or us i 0)) ys)
walk_next free lead payer k us i rest due xs ys h =
    let u : ℕ = get_or us i 0 in
    let next : suc i ≡ i + 1 = omega arith in
    rw (drop-cons us i 0)
    (ap (λ (m : ℕ). record { class = k; file = u; charge = cond (payer u) due 0 + taken (free u) ys; reward = cond (lead u) rest 0 + taken (free u) xs }
    ∷ walk free lead payer k (drop m us) (cond (lead u) 0 rest) (cond (payer u) 0 due) (left_over (free u) xs) (left_over (free u) ys)) next)

-- what is left to be given after the next user's give
pub walk_left : (free lead payer : ℕ → Bool) (k : ℕ) (us : List ℕ) (i rest due : ℕ) (xs ys : List ℕ) (now next all : List Give) (open_ asks pays : Bool) (charge reward rest_left due_left : ℕ) (xs_left ys_left : List ℕ) → i < length us
    → now ++ filter is_some_give (walk free lead payer k (drop i us) rest due xs ys) ≡ all
    → open_ ≡ free (get_or us i 0) → asks ≡ lead (get_or us i 0) → pays ≡ payer (get_or us i 0)
    → charge ≡ cond pays due 0 + taken open_ ys → reward ≡ cond asks rest 0 + taken open_ xs
    → next ≡ now ++ filter is_some_give (record { class = k; file = get_or us i 0; charge = charge; reward = reward } ∷ [])
    → rest_left ≡ cond asks 0 rest → due_left ≡ cond pays 0 due
    → xs_left ≡ left_over open_ xs → ys_left ≡ left_over open_ ys
    → next ++ filter is_some_give (walk free lead payer k (drop (i + 1) us) rest_left due_left xs_left ys_left) ≡ all
walk_left free lead payer k us i rest due xs ys now next all open_ asks pays charge reward rest_left due_left xs_left ys_left h left e_open e_asks e_pays e_charge e_reward e_next e_rest e_due e_xs e_ys =
    let u : ℕ = get_or us i 0 in
    let here : Give = record { class = k; file = u; charge = cond (payer u) due 0 + taken (free u) ys; reward = cond (lead u) rest 0 + taken (free u) xs } in
    let more : List Give = walk free lead payer k (drop (i + 1) us) (cond (lead u) 0 rest) (cond (payer u) 0 due) (left_over (free u) xs) (left_over (free u) ys) in
    let split : filter is_some_give (walk free lead payer k (drop i us) rest due xs ys) ≡ filter is_some_give (here ∷ []) ++ filter is_some_give more =
    ap (filter is_some_give) (walk_next free lead payer k us i rest due xs ys h) ∙ filter-append is_some_give (here ∷ []) more in
    rw (e_next, e_charge, e_reward, e_rest, e_due, e_xs, e_ys, e_open, e_asks, e_pays)
    (append_assoc now (filter is_some_give (here ∷ [])) (filter is_some_give more) ∙ (ap (λ (gs : List Give). now ++ gs) (sym split) ∙ left))

-- the slots of half a class are one, or one more than there are free users
reward_count : (free : ℕ → Bool) (k z : ℕ) (us : List ℕ) → length (reward_spokes free k z us) ≡ count_by free us
reward_count free k z us = is_count_by (λ vs. length (reward_spokes free k z vs)) free refl step us
  where
    step : (u : ℕ) (vs : List ℕ) → length (reward_spokes free k z (u ∷ vs)) ≡ cond (free u) (1 + length (reward_spokes free k z vs)) (length (reward_spokes free k z vs))
    step u vs = elim (cases_Bool (free u)) as (λ _. length (reward_spokes free k z (u ∷ vs)) ≡ cond (free u) (1 + length (reward_spokes free k z vs)) (length (reward_spokes free k z vs))) [
      | inl t ↦ rw t (omega arith)
      | inr f ↦ rw f refl
    ]

charge_count : (free : ℕ → Bool) (k z : ℕ) (us : List ℕ) → length (charge_spokes free k z us) ≡ count_by free us
charge_count free k z us = is_count_by (λ vs. length (charge_spokes free k z vs)) free refl step us
  where
    step : (u : ℕ) (vs : List ℕ) → length (charge_spokes free k z (u ∷ vs)) ≡ cond (free u) (1 + length (charge_spokes free k z vs)) (length (charge_spokes free k z vs))
    step u vs = elim (cases_Bool (free u)) as (λ _. length (charge_spokes free k z (u ∷ vs)) ≡ cond (free u) (1 + length (charge_spokes free k z vs)) (length (charge_spokes free k z vs))) [
      | inl t ↦ rw t (omega arith)
      | inr f ↦ rw f refl
    ]

pub rewards_long : (node : Node) (k : ℕ) (c : Class) → length (reward_slots node k c) ≡ cond (list_any (holds node.outside) c.users) 1 (1 + count_by (is_free node) c.users)
rewards_long node k c = elim (cases_Bool (list_any (holds node.outside) c.users)) as (λ _. length (reward_slots node k c) ≡ cond (list_any (holds node.outside) c.users) 1 (1 + count_by (is_free node) c.users)) [
  | inl t ↦ rw t refl
  | inr f ↦ rw f (omega (arith, reward_count (is_free node) k c.size c.users))
]

pub charges_long : (node : Node) (k : ℕ) (c : Class) → length (charge_slots node k c) ≡ cond (list_any (holds node.inside) c.users) 1 (1 + count_by (is_free node) c.users)
charges_long node k c = elim (cases_Bool (list_any (holds node.inside) c.users)) as (λ _. length (charge_slots node k c) ≡ cond (list_any (holds node.inside) c.users) 1 (1 + count_by (is_free node) c.users)) [
  | inl t ↦ rw t refl
  | inr f ↦ rw f (omega (arith, charge_count (is_free node) k c.size c.users))
]

-- where the charges of a class begin, and the next class
pub class_next : (node : Node) (k : ℕ) (c : Class) (us : List ℕ) (b d : Bool) (first free behind next : ℕ)
    → us ≡ c.users → b ≡ list_any (holds node.outside) us → d ≡ list_any (holds node.inside) us → free ≡ count_by (is_free node) us
    → behind ≡ first + cond b 1 (1 + free) → next ≡ behind + cond d 1 (1 + free)
    → (behind ≡ first + length (reward_slots node k c)) × (next ≡ first + length (reward_slots node k c ++ charge_slots node k c))
class_next node k c us b d first free behind next e_us e_b e_d e_free e_behind e_next =
    let rs : cond b 1 (1 + free) ≡ length (reward_slots node k c) = rw (e_b, e_free, e_us) (sym (rewards_long node k c)) in
    let hs : cond d 1 (1 + free) ≡ length (charge_slots node k c) = rw (e_d, e_free, e_us) (sym (charges_long node k c)) in
    (omega (arith, e_behind, rs), omega (arith, e_behind, e_next, rs, hs, length-append (reward_slots node k c) (charge_slots node k c)))

-- the gives of the next class
walked_next : (p : ℕ) (node : Node) (cs : List Class) (k : ℕ) (xs : List ℕ) → k < length cs
    → walked_from p node k (drop k cs) xs
    ≡ class_gives p node k (class_at cs k) xs
    ++ walked_from p node (k + 1) (drop (k + 1) cs) (drop (length (reward_slots node k (class_at cs k) ++ charge_slots node k (class_at cs k))) xs)
walked_next p node cs k xs h =
    let next : suc k ≡ k + 1 = omega arith in
    rw (drop-cons cs k no_class)
    (ap (λ (m : ℕ). class_gives p node k (class_at cs k) xs ++ walked_from p node m (drop m cs) (drop (length (reward_slots node k (class_at cs k) ++ charge_slots node k (class_at cs k))) xs)) next)

module _ (p : ℕ) (node : Node) (cs : List Class) (k first : ℕ) (amounts : List ℕ) (now all : List Give) (h : k < length cs)
    (left : now ++ filter is_some_give (walked_from p node k (drop k cs) (drop first amounts)) ≡ all) where
  abbrev slots : List Slot
  slots = reward_slots node k (class_at cs k) ++ charge_slots node k (class_at cs k)

  pub left_next : (then_ : List Give) (next : ℕ) → then_ ≡ now ++ filter is_some_give (class_gives p node k (class_at cs k) (drop first amounts)) → next ≡ first + length slots
      → then_ ++ filter is_some_give (walked_from p node (k + 1) (drop (k + 1) cs) (drop next amounts)) ≡ all
  left_next then_ next is at =
      let c : List Give = class_gives p node k (class_at cs k) (drop first amounts) in
      let more : List Give = walked_from p node (k + 1) (drop (k + 1) cs) (drop (length slots) (drop first amounts)) in
      let split : filter is_some_give (walked_from p node k (drop k cs) (drop first amounts)) ≡ filter is_some_give c ++ filter is_some_give more =
      ap (filter is_some_give) (walked_next p node cs k (drop first amounts) h) ∙ filter-append is_some_give c more in
      let here : drop (length slots) (drop first amounts) ≡ drop next amounts = drop-drop (length slots) first amounts ∙ ap (λ (n : ℕ). drop n amounts) (sym at) in
      ap (λ (gs : List Give). gs ++ filter is_some_give (walked_from p node (k + 1) (drop (k + 1) cs) (drop next amounts))) is
      ∙ append_assoc now (filter is_some_give c) (filter is_some_give (walked_from p node (k + 1) (drop (k + 1) cs) (drop next amounts)))
      ∙ ap (λ (xs : List ℕ). now ++ (filter is_some_give c ++ filter is_some_give (walked_from p node (k + 1) (drop (k + 1) cs) xs))) (sym here)
      ∙ ap (λ (gs : List Give). now ++ gs) (sym split) ∙ left

-- and its slots
pub first_next : (node : Node) (cs : List Class) (k first next all : ℕ) → k < length cs → first + length (slots_from node k (drop k cs)) ≡ all
    → next ≡ first + length (reward_slots node k (class_at cs k) ++ charge_slots node k (class_at cs k)) → next + length (slots_from node (k + 1) (drop (k + 1) cs)) ≡ all
first_next node cs k first next all h left at =
    let rs : List Slot = reward_slots node k (class_at cs k) in
    let hs : List Slot = charge_slots node k (class_at cs k) in
    let more : List Slot = slots_from node (k + 1) (drop (k + 1) cs) in
    let e = ap (λ (ss : List Slot). length ss) (slots_next node cs k h) in
    omega (arith, left, at, e, length-append rs (hs ++ more), length-append hs more, length-append rs hs)

-- a walk that begins with what the class begins with gives what the class does
pub class_read : (p : ℕ) (node : Node) (k : ℕ) (c : Class) (first behind whole : ℕ) (amounts us : List ℕ) (b d : Bool) (rest due : ℕ) (xs ys : List ℕ)
    → us ≡ c.users → b ≡ list_any (holds node.outside) us → d ≡ list_any (holds node.inside) us → behind ≡ first + length (reward_slots node k c) → whole ≡ p * c.size
    → rest ≡ cond b whole (whole - get_or (drop first amounts) 0 0) → due ≡ cond d (get_or (drop behind amounts) 0 0) 0
    → xs ≡ cond b [] (drop 1 (drop first amounts)) → ys ≡ cond d [] (drop 1 (drop behind amounts))
    → walk (is_free node) (asked node b) (holds node.inside) k us rest due xs ys ≡ class_gives p node k c (drop first amounts)
class_read p node k c first behind whole amounts us b d rest due xs ys e_us e_b e_d e_behind e_whole e_rest e_due e_xs e_ys =
    let here : drop behind amounts ≡ drop (length (reward_slots node k c)) (drop first amounts) =
    ap (λ (n : ℕ). drop n amounts) e_behind ∙ sym (drop-drop (length (reward_slots node k c)) first amounts) in
    rw (e_rest, e_due, e_xs, e_ys, here, e_whole, e_d, e_b, e_us) refl
