-- One give to each user, in one walk along them, has the sums of the gives slot by slot.
use Rattle.std.proofs.Common.{inl, inr, ◌≡◌, ℕ, suc, ◌+◌, ◌-◌, ◌*◌, ◌<◌, Bool, true, false, cond, get_or, length, drop, List, [], ◌∷◌, ◌++◌, refl, sym, ◌∙◌, ap, arith, append_assoc}
use Rattle.std.specs.Prelude.{sum_by}
use Rattle.std.specs.List.{list_any}
use Rattle.std.proofs.lemmas.Bool.{cases_Bool}
use Rattle.std.proofs.lemmas.List.Sums.{sum_by-cons, sum_by-append}
use Rattle.seed_model.specs.declared.node.Node.{Node}
use Rattle.seed_model.specs.declared.table.Class.{Class}
use Rattle.seed_model.specs.Files.{holds}
use Rattle.seed_model.specs.Nodes.{is_free}
use Rattle.bound_cert.specs.declared.multipliers.Give.{Give}
use Rattle.hull_bound.specs.Slots.{Slot, first_of, reward_spokes, charge_spokes, reward_slots, charge_slots, slots_from}
use Rattle.hull_bound.specs.Slots.Slot.{fill, drain, reward, charge, barred, forced}
use Rattle.hull_bound.specs.Walks.{give_of, gives_of, taken, left_over, walk, asked, charge_amounts, class_gives}
use Rattle.hull_bound.proofs.Leads.{any_user}

-- what a give counts for, where a test of its class and file passes
abbrev pub charged : (ℕ → ℕ → Bool) → Give → ℕ
charged t g = cond (t g.class g.file) g.charge 0

abbrev pub rewarded : (ℕ → ℕ → Bool) → Give → ℕ
rewarded t g = cond (t g.class g.file) g.reward 0

two : (b : Bool) (x y : ℕ) → cond b (x + y) 0 ≡ cond b x 0 + cond b y 0
two true x y = refl
two false x y = refl

zero : (b : Bool) → ◌≡◌ {A = ℕ} (cond b 0 0) 0
zero true = refl
zero false = refl

no_amounts : (p : ℕ) (ss : List Slot) → gives_of p ss [] ≡ []
no_amounts p [] = refl
no_amounts p (s ∷ ss) = refl

-- what the first user that passes a test takes
abbrev lead_part : (ℕ → Bool) → (ℕ → Bool) → List ℕ → ℕ → ℕ
lead_part t lead us rest = cond (list_any lead us) (cond (t (first_of lead us)) rest 0) 0

lead_step : (t lead : ℕ → Bool) (u : ℕ) (us : List ℕ) (rest : ℕ)
    → cond (t u) (cond (lead u) rest 0) 0 + lead_part t lead us (cond (lead u) 0 rest) ≡ lead_part t lead (u ∷ us) rest
lead_step t lead u us rest = elim (cases_Bool (lead u)) as (λ _. cond (t u) (cond (lead u) rest 0) 0 + lead_part t lead us (cond (lead u) 0 rest) ≡ lead_part t lead (u ∷ us) rest) [
  | inl y ↦ rw y (omega (arith, none (list_any lead us) (t (first_of lead us))))
  | inr n ↦ rw n (omega (arith, zero (t u)))
]
  where
    none : (a b : Bool) → ◌≡◌ {A = ℕ} (cond a (cond b 0 0) 0) 0
    none true b = zero b
    none false b = refl

reward_step : (t : ℕ → ℕ → Bool) (free : ℕ → Bool) (p k z u : ℕ) (us xs : List ℕ)
    → cond (t k u) (taken (free u) xs) 0 + sum_by (rewarded t) (gives_of p (reward_spokes free k z us) (left_over (free u) xs)) ≡ sum_by (rewarded t) (gives_of p (reward_spokes free k z (u ∷ us)) xs)
reward_step t free p k z u us xs = elim (cases_Bool (free u)) as (λ _. cond (t k u) (taken (free u) xs) 0 + sum_by (rewarded t) (gives_of p (reward_spokes free k z us) (left_over (free u) xs)) ≡ sum_by (rewarded t) (gives_of p (reward_spokes free k z (u ∷ us)) xs)) [
  | inl y ↦ rw y (some xs)
  | inr n ↦ rw n (omega (arith, zero (t k u)))
]
  where
    some : (ys : List ℕ) → cond (t k u) (get_or ys 0 0) 0 + sum_by (rewarded t) (gives_of p (reward_spokes free k z us) (drop 1 ys)) ≡ sum_by (rewarded t) (gives_of p (reward k u z ∷ reward_spokes free k z us) ys)
    some [] = let e = ap (sum_by (rewarded t)) (no_amounts p (reward_spokes free k z us)) in omega (arith, e, zero (t k u))
    some (y ∷ ys) = omega (arith, sum_by-cons (rewarded t) (give_of p (reward k u z) y) (gives_of p (reward_spokes free k z us) ys))

charge_step : (t : ℕ → ℕ → Bool) (free : ℕ → Bool) (p k z u : ℕ) (us xs : List ℕ)
    → cond (t k u) (taken (free u) xs) 0 + sum_by (charged t) (gives_of p (charge_spokes free k z us) (left_over (free u) xs)) ≡ sum_by (charged t) (gives_of p (charge_spokes free k z (u ∷ us)) xs)
charge_step t free p k z u us xs = elim (cases_Bool (free u)) as (λ _. cond (t k u) (taken (free u) xs) 0 + sum_by (charged t) (gives_of p (charge_spokes free k z us) (left_over (free u) xs)) ≡ sum_by (charged t) (gives_of p (charge_spokes free k z (u ∷ us)) xs)) [
  | inl y ↦ rw y (some xs)
  | inr n ↦ rw n (omega (arith, zero (t k u)))
]
  where
    some : (ys : List ℕ) → cond (t k u) (get_or ys 0 0) 0 + sum_by (charged t) (gives_of p (charge_spokes free k z us) (drop 1 ys)) ≡ sum_by (charged t) (gives_of p (charge k u z ∷ charge_spokes free k z us) ys)
    some [] = let e = ap (sum_by (charged t)) (no_amounts p (charge_spokes free k z us)) in omega (arith, e, zero (t k u))
    some (y ∷ ys) = omega (arith, sum_by-cons (charged t) (give_of p (charge k u z) y) (gives_of p (charge_spokes free k z us) ys))

module _ (t : ℕ → ℕ → Bool) (free lead payer : ℕ → Bool) (p k z : ℕ) where
  walk_rewards : (us : List ℕ) (rest due : ℕ) (xs ys : List ℕ)
      → sum_by (rewarded t) (walk free lead payer k us rest due xs ys) ≡ lead_part (t k) lead us rest + sum_by (rewarded t) (gives_of p (reward_spokes free k z us) xs)
  walk_rewards [] rest due xs ys = refl
  walk_rewards (u ∷ us) rest due xs ys =
      let first : Give = record { class = k; file = u; charge = cond (payer u) due 0 + taken (free u) ys; reward = cond (lead u) rest 0 + taken (free u) xs } in
      let more : List Give = walk free lead payer k us (cond (lead u) 0 rest) (cond (payer u) 0 due) (left_over (free u) xs) (left_over (free u) ys) in
      omega (
        arith,
        sum_by-cons (rewarded t) first more,
        two (t k u) (cond (lead u) rest 0) (taken (free u) xs),
        lead_step (t k) lead u us rest,
        reward_step t free p k z u us xs,
        walk_rewards us (cond (lead u) 0 rest) (cond (payer u) 0 due) (left_over (free u) xs) (left_over (free u) ys),
      )

  walk_charges : (us : List ℕ) (rest due : ℕ) (xs ys : List ℕ)
      → sum_by (charged t) (walk free lead payer k us rest due xs ys) ≡ lead_part (t k) payer us due + sum_by (charged t) (gives_of p (charge_spokes free k z us) ys)
  walk_charges [] rest due xs ys = refl
  walk_charges (u ∷ us) rest due xs ys =
      let first : Give = record { class = k; file = u; charge = cond (payer u) due 0 + taken (free u) ys; reward = cond (lead u) rest 0 + taken (free u) xs } in
      let more : List Give = walk free lead payer k us (cond (lead u) 0 rest) (cond (payer u) 0 due) (left_over (free u) xs) (left_over (free u) ys) in
      omega (
        arith,
        sum_by-cons (charged t) first more,
        two (t k u) (cond (payer u) due 0) (taken (free u) ys),
        lead_step (t k) payer u us due,
        charge_step t free p k z u us ys,
        walk_charges us (cond (lead u) 0 rest) (cond (payer u) 0 due) (left_over (free u) xs) (left_over (free u) ys),
      )

gives_append : (p : ℕ) (ss ts : List Slot) (xs : List ℕ) → gives_of p (ss ++ ts) xs ≡ gives_of p ss xs ++ gives_of p ts (drop (length ss) xs)
gives_append p [] ts xs = refl
gives_append p (s ∷ ss) [] [] = refl
gives_append p (s ∷ ss) (t ∷ ts) [] = refl
gives_append p (s ∷ ss) ts (x ∷ xs) = ap (λ (gs : List Give). give_of p s x ∷ gs) (gives_append p ss ts xs)

-- no half gives what the other does
charge_spokes_pay : (t : ℕ → ℕ → Bool) (free : ℕ → Bool) (p k z : ℕ) (us xs : List ℕ) → sum_by (rewarded t) (gives_of p (charge_spokes free k z us) xs) ≡ 0
charge_spokes_pay t free p k z [] xs = refl
charge_spokes_pay t free p k z (u ∷ us) xs = elim (cases_Bool (free u)) as (λ _. sum_by (rewarded t) (gives_of p (charge_spokes free k z (u ∷ us)) xs) ≡ 0) [
  | inl y ↦ rw y (some xs (λ ys. charge_spokes_pay t free p k z us ys))
  | inr n ↦ rw n (charge_spokes_pay t free p k z us xs)
]
  where
    some : (ys : List ℕ) → ((zs : List ℕ) → sum_by (rewarded t) (gives_of p (charge_spokes free k z us) zs) ≡ 0) → sum_by (rewarded t) (gives_of p (charge k u z ∷ charge_spokes free k z us) ys) ≡ 0
    some [] ih = refl
    some (y ∷ ys) ih = omega (arith, sum_by-cons (rewarded t) (give_of p (charge k u z) y) (gives_of p (charge_spokes free k z us) ys), zero (t k u), ih ys)

reward_spokes_pay : (t : ℕ → ℕ → Bool) (free : ℕ → Bool) (p k z : ℕ) (us xs : List ℕ) → sum_by (charged t) (gives_of p (reward_spokes free k z us) xs) ≡ 0
reward_spokes_pay t free p k z [] xs = refl
reward_spokes_pay t free p k z (u ∷ us) xs = elim (cases_Bool (free u)) as (λ _. sum_by (charged t) (gives_of p (reward_spokes free k z (u ∷ us)) xs) ≡ 0) [
  | inl y ↦ rw y (some xs (λ ys. reward_spokes_pay t free p k z us ys))
  | inr n ↦ rw n (reward_spokes_pay t free p k z us xs)
]
  where
    some : (ys : List ℕ) → ((zs : List ℕ) → sum_by (charged t) (gives_of p (reward_spokes free k z us) zs) ≡ 0) → sum_by (charged t) (gives_of p (reward k u z ∷ reward_spokes free k z us) ys) ≡ 0
    some [] ih = refl
    some (y ∷ ys) ih = omega (arith, sum_by-cons (charged t) (give_of p (reward k u z) y) (gives_of p (reward_spokes free k z us) ys), zero (t k u), ih ys)

module _ (t : ℕ → ℕ → Bool) (p : ℕ) (node : Node) (k : ℕ) (c : Class) where
  abbrev us : List ℕ
  us = c.users

  abbrev z : ℕ
  z = c.size

  charges_reward_none : (xs : List ℕ) → sum_by (rewarded t) (gives_of p (charge_slots node k c) xs) ≡ 0
  charges_reward_none xs = elim (cases_Bool (list_any (holds node.inside) us)) as (λ _. sum_by (rewarded t) (gives_of p (charge_slots node k c) xs) ≡ 0) [
    | inl y ↦ rw y (one xs)
    | inr n ↦ rw n (more xs)
  ]
    where
      one : (ys : List ℕ) → sum_by (rewarded t) (gives_of p (forced k (first_of (holds node.inside) us) z ∷ []) ys) ≡ 0
      one [] = refl
      one (y ∷ ys) = omega (arith, zero (t k (first_of (holds node.inside) us)))

      more : (ys : List ℕ) → sum_by (rewarded t) (gives_of p (drain k (first_of (λ _. true) us) z ∷ charge_spokes (is_free node) k z us) ys) ≡ 0
      more [] = refl
      more (y ∷ ys) =
          omega (arith, sum_by-cons (rewarded t) (give_of p (drain k (first_of (λ _. true) us) z) y) (gives_of p (charge_spokes (is_free node) k z us) ys), zero (t k (first_of (λ _. true) us)), charge_spokes_pay t (is_free node) p k z us ys)

  rewards_charge_none : (xs : List ℕ) → sum_by (charged t) (gives_of p (reward_slots node k c) xs) ≡ 0
  rewards_charge_none xs = elim (cases_Bool (list_any (holds node.outside) us)) as (λ _. sum_by (charged t) (gives_of p (reward_slots node k c) xs) ≡ 0) [
    | inl y ↦ rw y (one xs)
    | inr n ↦ rw n (more xs)
  ]
    where
      one : (ys : List ℕ) → sum_by (charged t) (gives_of p (barred k (first_of (holds node.outside) us) z ∷ []) ys) ≡ 0
      one [] = refl
      one (y ∷ ys) = omega (arith, zero (t k (first_of (holds node.outside) us)))

      more : (ys : List ℕ) → sum_by (charged t) (gives_of p (fill k (first_of (λ _. true) us) z ∷ reward_spokes (is_free node) k z us) ys) ≡ 0
      more [] = refl
      more (y ∷ ys) =
          omega (arith, sum_by-cons (charged t) (give_of p (fill k (first_of (λ _. true) us) z) y) (gives_of p (reward_spokes (is_free node) k z us) ys), zero (t k (first_of (λ _. true) us)), reward_spokes_pay t (is_free node) p k z us ys)

  -- what the rewards of a class give
  abbrev lead_of : Bool → ℕ → Bool
  lead_of b = asked node b

  half_rewards : (xs : List ℕ) → 0 < length us → 0 < length xs
      → lead_part (t k) (lead_of (list_any (holds node.outside) us)) us (cond (list_any (holds node.outside) us) (p * z) (p * z - get_or xs 0 0))
      + sum_by (rewarded t) (gives_of p (reward_spokes (is_free node) k z us) (cond (list_any (holds node.outside) us) [] (drop 1 xs)))
      ≡ sum_by (rewarded t) (gives_of p (reward_slots node k c) xs)
  half_rewards [] used some = absurd (omega (arith, some))
  half_rewards (x ∷ xs) used some =
      elim (cases_Bool (list_any (holds node.outside) us)) as (λ _. lead_part (t k) (lead_of (list_any (holds node.outside) us)) us (cond (list_any (holds node.outside) us) (p * z) (p * z - x))
      + sum_by (rewarded t) (gives_of p (reward_spokes (is_free node) k z us) (cond (list_any (holds node.outside) us) [] xs))
      ≡ sum_by (rewarded t) (gives_of p (reward_slots node k c) (x ∷ xs))) [
        | inl y ↦
            let e = ap (sum_by (rewarded t)) (no_amounts p (reward_spokes (is_free node) k z us)) in
            rw (y, y) (omega (arith, e))
        | inr n ↦
            let e = sum_by-cons (rewarded t) (give_of p (fill k (first_of (λ _. true) us) z) x) (gives_of p (reward_spokes (is_free node) k z us) xs) in
            rw (n, any_user us used) (omega (arith, e))
      ]

  half_charges : (xs : List ℕ)
      → lead_part (t k) (holds node.inside) us (cond (list_any (holds node.inside) us) (get_or xs 0 0) 0)
      + sum_by (charged t) (gives_of p (charge_spokes (is_free node) k z us) (cond (list_any (holds node.inside) us) [] (drop 1 xs)))
      ≡ sum_by (charged t) (gives_of p (charge_slots node k c) xs)
  half_charges xs =
      elim (cases_Bool (list_any (holds node.inside) us)) as (λ _. lead_part (t k) (holds node.inside) us (cond (list_any (holds node.inside) us) (get_or xs 0 0) 0)
      + sum_by (charged t) (gives_of p (charge_spokes (is_free node) k z us) (cond (list_any (holds node.inside) us) [] (drop 1 xs)))
      ≡ sum_by (charged t) (gives_of p (charge_slots node k c) xs)) [
        | inl y ↦ rw y (one xs)
        | inr n ↦ rw n (more xs)
      ]
    where
      none : sum_by (charged t) (gives_of p (charge_spokes (is_free node) k z us) []) ≡ 0
      none = ap (sum_by (charged t)) (no_amounts p (charge_spokes (is_free node) k z us))

      one : (ys : List ℕ) → cond (t k (first_of (holds node.inside) us)) (get_or ys 0 0) 0 + sum_by (charged t) (gives_of p (charge_spokes (is_free node) k z us) [])
          ≡ sum_by (charged t) (gives_of p (forced k (first_of (holds node.inside) us) z ∷ []) ys)
      one [] = omega (arith, none, zero (t k (first_of (holds node.inside) us)))
      one (y ∷ ys) = omega (arith, none)

      more : (ys : List ℕ) → 0 + sum_by (charged t) (gives_of p (charge_spokes (is_free node) k z us) (drop 1 ys))
          ≡ sum_by (charged t) (gives_of p (drain k (first_of (λ _. true) us) z ∷ charge_spokes (is_free node) k z us) ys)
      more [] = omega (arith, none)
      more (y ∷ ys) =
          omega (arith, zero (t k (first_of (λ _. true) us)), sum_by-cons (charged t) (give_of p (drain k (first_of (λ _. true) us) z) y) (gives_of p (charge_spokes (is_free node) k z us) ys))

  pub class_rewards : (xs : List ℕ) → 0 < length us → 0 < length xs → sum_by (rewarded t) (class_gives p node k c xs) ≡ sum_by (rewarded t) (gives_of p (reward_slots node k c ++ charge_slots node k c) xs)
  class_rewards xs used some =
      let b : Bool = list_any (holds node.outside) us in
      let d : Bool = list_any (holds node.inside) us in
      let ys : List ℕ = charge_amounts node k c xs in
      let e = ap (sum_by (rewarded t)) (gives_append p (reward_slots node k c) (charge_slots node k c) xs) in
      omega (
        arith,
        walk_rewards t (is_free node) (lead_of b) (holds node.inside) p k z us (cond b (p * z) (p * z - get_or xs 0 0)) (cond d (get_or ys 0 0) 0) (cond b [] (drop 1 xs)) (cond d [] (drop 1 ys)),
        half_rewards xs used some,
        e,
        sum_by-append (rewarded t) (gives_of p (reward_slots node k c) xs) (gives_of p (charge_slots node k c) (drop (length (reward_slots node k c)) xs)),
        charges_reward_none (drop (length (reward_slots node k c)) xs),
      )

  pub class_charges : (xs : List ℕ) → sum_by (charged t) (class_gives p node k c xs) ≡ sum_by (charged t) (gives_of p (reward_slots node k c ++ charge_slots node k c) xs)
  class_charges xs =
      let b : Bool = list_any (holds node.outside) us in
      let d : Bool = list_any (holds node.inside) us in
      let ys : List ℕ = charge_amounts node k c xs in
      let e = ap (sum_by (charged t)) (gives_append p (reward_slots node k c) (charge_slots node k c) xs) in
      omega (
        arith,
        walk_charges t (is_free node) (lead_of b) (holds node.inside) p k z us (cond b (p * z) (p * z - get_or xs 0 0)) (cond d (get_or ys 0 0) 0) (cond b [] (drop 1 xs)) (cond d [] (drop 1 ys)),
        half_charges ys,
        e,
        sum_by-append (charged t) (gives_of p (reward_slots node k c) xs) (gives_of p (charge_slots node k c) (drop (length (reward_slots node k c)) xs)),
        rewards_charge_none xs,
      )

-- the gives of a class, and those of the classes behind it
pub split_gives : (p : ℕ) (node : Node) (k : ℕ) (c : Class) (cs : List Class) (xs : List ℕ)
    → gives_of p (slots_from node k (c ∷ cs)) xs
    ≡ gives_of p (reward_slots node k c ++ charge_slots node k c) xs ++ gives_of p (slots_from node (suc k) cs) (drop (length (reward_slots node k c ++ charge_slots node k c)) xs)
split_gives p node k c cs xs =
    ap (λ (ss : List Slot). gives_of p ss xs) (sym (append_assoc (reward_slots node k c) (charge_slots node k c) (slots_from node (suc k) cs)))
    ∙ gives_append p (reward_slots node k c ++ charge_slots node k c) (slots_from node (suc k) cs) xs
