-- The gives of a node are multipliers where those slot by slot are, and stand in their form.
use Rattle.std.proofs.Common.{inl, inr, ◌≡◌, ℕ, suc, ◌+◌, ◌-◌, ◌≤◌, ◌<◌, Bool, true, false, not, ◌&&◌, cond, eqb, get_or, length, drop, List, [], ◌∷◌, ◌++◌, refl, sym, ◌∙◌, ap, subst, arith, length-append}
use Rattle.std.specs.Prelude.{sum_by}
use Rattle.std.specs.List.{filter, list_any, AllByRecursion}
use Rattle.std.specs.List.Sorted.{IsStrictlyIncreasing}
use Rattle.std.proofs.lemmas.Bool.{cases_Bool, eqb-true}
use Rattle.std.proofs.lemmas.List.{length-drop}
use Rattle.std.proofs.lemmas.List.Elements.{recursion_from_All}
use Rattle.std.proofs.lemmas.List.Sums.{sum_by-cons, sum_by-append}
use Rattle.seed_model.specs.declared.node.Node.{Node}
use Rattle.seed_model.specs.declared.table.Class.{Class}
use Rattle.seed_model.specs.Files.{holds}
use Rattle.seed_model.specs.Keys.{class_at}
use Rattle.seed_model.specs.Nodes.{is_free}
use Rattle.seed_model.specs.Tables.{TableValue, IsTable, IsClass}
use Rattle.bound_cert.specs.declared.multipliers.Give.{Give}
use Rattle.bound_cert.specs.Multipliers.{IsGive, AreMultipliers, won, lost, won_at, lost_at}
use Rattle.hull_bound.specs.Forms.{IsBefore, AreRising, is_some_give}
use Rattle.hull_bound.specs.Slots.{reward_slots, charge_slots, slots_from}
use Rattle.hull_bound.specs.Walks.{gives_of, taken, left_over, walk, class_gives, walked_from, node_gives, multipliers_of}
use Rattle.seed_model.proofs.KeySums.{all_append, sum_below_same}
use Rattle.hull_bound.proofs.Leads.{IsRest, rest_next, IsUser, users_are}
use Rattle.hull_bound.proofs.Walking.{charged, rewarded, class_rewards, class_charges, split_gives}

-- users in order
rising_tail : (u : ℕ) (us : List ℕ) → IsStrictlyIncreasing (u ∷ us) → IsStrictlyIncreasing us
rising_tail u us r k h =
    let next : suc k + 1 ≡ suc (k + 1) = omega arith in
    subst (λ (m : ℕ). get_or us k 0 < get_or (u ∷ us) m 0) next (r (suc k) (omega (arith, h)))

weaken : (v u : ℕ) (us : List ℕ) → v < u → AllByRecursion (λ y. u < y) us → AllByRecursion (λ y. v < y) us
weaken v u [] h all = tt
weaken v u (w ∷ ws) h all = (omega (arith, h, all.0), weaken v u ws h all.1)

above : (v : ℕ) (us : List ℕ) → IsStrictlyIncreasing (v ∷ us) → AllByRecursion (λ y. v < y) us
above v [] r = tt
above v (u ∷ us) r =
    let h : v < u = r 0 (omega arith) in
    (h, weaken v u us h (above u us (rising_tail v (u ∷ us) r)))

-- gives from class k on
abbrev IsFrom : ℕ → Give → Type 0
IsFrom k g = k ≤ g.class

module _ (free lead payer : ℕ → Bool) (k : ℕ) where
  walk_after : (u : ℕ) (us : List ℕ) (c r rest due : ℕ) (xs ys : List ℕ) → AllByRecursion (λ y. u < y) us
      → AllByRecursion (IsBefore (record { class = k; file = u; charge = c; reward = r })) (walk free lead payer k us rest due xs ys)
  walk_after u [] c r rest due xs ys all = tt
  walk_after u (v ∷ vs) c r rest due xs ys all =
      (inr (refl, all.0), walk_after u vs c r (cond (lead v) 0 rest) (cond (payer v) 0 due) (left_over (free v) xs) (left_over (free v) ys) all.1)

  walk_rises : (us : List ℕ) (rest due : ℕ) (xs ys : List ℕ) → IsStrictlyIncreasing us → AreRising (walk free lead payer k us rest due xs ys)
  walk_rises [] rest due xs ys r = tt
  walk_rises (u ∷ us) rest due xs ys r = (
    walk_after u us (cond (payer u) due 0 + taken (free u) ys) (cond (lead u) rest 0 + taken (free u) xs) (cond (lead u) 0 rest) (cond (payer u) 0 due) (left_over (free u) xs) (left_over (free u) ys) (above u us r),
    walk_rises us (cond (lead u) 0 rest) (cond (payer u) 0 due) (left_over (free u) xs) (left_over (free u) ys) (rising_tail u us r),
  )

  walk_same : (us : List ℕ) (rest due : ℕ) (xs ys : List ℕ) → AllByRecursion (λ (g : Give). g.class ≡ k) (walk free lead payer k us rest due xs ys)
  walk_same [] rest due xs ys = tt
  walk_same (u ∷ us) rest due xs ys = (refl, walk_same us (cond (lead u) 0 rest) (cond (payer u) 0 due) (left_over (free u) xs) (left_over (free u) ys))

  walk_length : (us : List ℕ) (rest due : ℕ) (xs ys : List ℕ) → length (walk free lead payer k us rest due xs ys) ≡ length us
  walk_length [] rest due xs ys = refl
  walk_length (u ∷ us) rest due xs ys = omega (arith, walk_length us (cond (lead u) 0 rest) (cond (payer u) 0 due) (left_over (free u) xs) (left_over (free u) ys))

  walk_good : (table : TableValue) (c : Class) (us : List ℕ) (rest due : ℕ) (xs ys : List ℕ) → k < length table.classes → class_at table.classes k ≡ c
      → AllByRecursion (IsUser table.files c.users) us → AllByRecursion (IsGive table) (walk free lead payer k us rest due xs ys)
  walk_good table c [] rest due xs ys h same all = tt
  walk_good table c (u ∷ us) rest due xs ys h same all = (
    record { known = h; file = all.0.0; user = rw same all.0.1 },
    walk_good table c us (cond (lead u) 0 rest) (cond (payer u) 0 due) (left_over (free u) xs) (left_over (free u) ys) h same all.1,
  )

same_from : (k : ℕ) (gs : List Give) → AllByRecursion (λ (g : Give). g.class ≡ k) gs → AllByRecursion (IsFrom k) gs
same_from k [] all = tt
same_from k (g ∷ gs) all = (omega (arith, all.0), same_from k gs all.1)

later_from : (k j : ℕ) (gs : List Give) → k ≤ j → AllByRecursion (IsFrom j) gs → AllByRecursion (IsFrom k) gs
later_from k j [] h all = tt
later_from k j (g ∷ gs) h all = (omega (arith, h, all.0), later_from k j gs h all.1)

before_all : (k : ℕ) (g : Give) (gs : List Give) → g.class ≡ k → AllByRecursion (IsFrom (suc k)) gs → AllByRecursion (IsBefore g) gs
before_all k g [] e all = tt
before_all k g (h ∷ hs) e all = (inl (omega (arith, e, all.0)), before_all k g hs e all.1)

rise_append : (k : ℕ) (gs hs : List Give) → AllByRecursion (λ (g : Give). g.class ≡ k) gs → AreRising gs → AllByRecursion (IsFrom (suc k)) hs → AreRising hs → AreRising (gs ++ hs)
rise_append k [] hs same r from s = s
rise_append k (g ∷ gs) hs same r from s = (all_append (IsBefore g) gs hs r.0 (before_all k g hs same.0 from), rise_append k gs hs same.1 r.1 from s)

module _ (p : ℕ) (node : Node) where
  class_same : (k : ℕ) (c : Class) (xs : List ℕ) → AllByRecursion (λ (g : Give). g.class ≡ k) (class_gives p node k c xs)
  class_same k c xs = walk_same (is_free node) _ (holds node.inside) k c.users _ _ _ _

  walked_after : (k : ℕ) (cs : List Class) (xs : List ℕ) → AllByRecursion (IsFrom k) (walked_from p node k cs xs)
  walked_after k [] xs = tt
  walked_after k (c ∷ cs) xs =
      let more : List Give = walked_from p node (suc k) cs (drop (length (reward_slots node k c ++ charge_slots node k c)) xs) in
      all_append (IsFrom k) (class_gives p node k c xs) more (same_from k (class_gives p node k c xs) (class_same k c xs))
      (later_from k (suc k) more (omega arith) (walked_after (suc k) cs (drop (length (reward_slots node k c ++ charge_slots node k c)) xs)))

  walked_rise : (n k : ℕ) (cs : List Class) (xs : List ℕ) → AllByRecursion (IsClass n) cs → AreRising (walked_from p node k cs xs)
  walked_rise n k [] xs fine = tt
  walked_rise n k (c ∷ cs) xs fine =
      let ys : List ℕ = drop (length (reward_slots node k c ++ charge_slots node k c)) xs in
      rise_append k (class_gives p node k c xs) (walked_from p node (suc k) cs ys) (class_same k c xs)
      (walk_rises (is_free node) _ (holds node.inside) k c.users _ _ _ _ fine.0.rising)
      (walked_after (suc k) cs ys) (walked_rise n (suc k) cs ys fine.1)

  walked_length : (k : ℕ) (cs : List Class) (xs : List ℕ) → length (walked_from p node k cs xs) ≡ sum_by (λ (c : Class). length c.users) cs
  walked_length k [] xs = refl
  walked_length k (c ∷ cs) xs =
      let ys : List ℕ = drop (length (reward_slots node k c ++ charge_slots node k c)) xs in
      let one : length (class_gives p node k c xs) ≡ length c.users = walk_length (is_free node) _ (holds node.inside) k c.users _ _ _ _ in
      omega (arith, one, walked_length (suc k) cs ys, length-append (class_gives p node k c xs) (walked_from p node (suc k) cs ys), sum_by-cons (λ (d : Class). length d.users) c cs)

  -- a slot for each half at least
  some_slots : (k : ℕ) (c : Class) → 0 < length (reward_slots node k c)
  some_slots k c = elim (cases_Bool (list_any (holds node.outside) c.users)) as (λ _. 0 < length (reward_slots node k c)) [
    | inl y ↦ rw y (omega arith)
    | inr n ↦ rw n (omega arith)
  ]

  walked_rewards : (t : ℕ → ℕ → Bool) (n k : ℕ) (cs : List Class) (xs : List ℕ) → AllByRecursion (IsClass n) cs → length (slots_from node k cs) ≤ length xs
      → sum_by (rewarded t) (walked_from p node k cs xs) ≡ sum_by (rewarded t) (gives_of p (slots_from node k cs) xs)
  walked_rewards t n k [] xs fine enough = refl
  walked_rewards t n k (c ∷ cs) xs fine enough =
      let ys : List ℕ = drop (length (reward_slots node k c ++ charge_slots node k c)) xs in
      let e = ap (sum_by (rewarded t)) (split_gives p node k c cs xs) in
      let l1 = length-append (reward_slots node k c) (charge_slots node k c ++ slots_from node (suc k) cs) in
      let l2 = length-append (charge_slots node k c) (slots_from node (suc k) cs) in
      let l3 = length-append (reward_slots node k c) (charge_slots node k c) in
      let some : 0 < length xs = omega (arith, enough, l1, some_slots k c) in
      let left : length (slots_from node (suc k) cs) ≤ length ys = omega (arith, enough, l1, l2, l3, length-drop (length (reward_slots node k c ++ charge_slots node k c)) xs) in
      omega (
        arith,
        e,
        class_rewards t p node k c xs fine.0.used some,
        walked_rewards t n (suc k) cs ys fine.1 left,
        sum_by-append (rewarded t) (class_gives p node k c xs) (walked_from p node (suc k) cs ys),
        sum_by-append (rewarded t) (gives_of p (reward_slots node k c ++ charge_slots node k c) xs) (gives_of p (slots_from node (suc k) cs) ys),
      )

  walked_charges : (t : ℕ → ℕ → Bool) (k : ℕ) (cs : List Class) (xs : List ℕ)
      → sum_by (charged t) (walked_from p node k cs xs) ≡ sum_by (charged t) (gives_of p (slots_from node k cs) xs)
  walked_charges t k [] xs = refl
  walked_charges t k (c ∷ cs) xs =
      let ys : List ℕ = drop (length (reward_slots node k c ++ charge_slots node k c)) xs in
      let e = ap (sum_by (charged t)) (split_gives p node k c cs xs) in
      omega (
        arith,
        e,
        class_charges t p node k c xs,
        walked_charges t (suc k) cs ys,
        sum_by-append (charged t) (class_gives p node k c xs) (walked_from p node (suc k) cs ys),
        sum_by-append (charged t) (gives_of p (reward_slots node k c ++ charge_slots node k c) xs) (gives_of p (slots_from node (suc k) cs) ys),
      )

  walked_good : (table : TableValue) (k : ℕ) (cs : List Class) (xs : List ℕ) → IsRest table k cs → AllByRecursion (IsClass table.files) cs → AllByRecursion (IsGive table) (walked_from p node k cs xs)
  walked_good table k [] xs rest fine = tt
  walked_good table k (c ∷ cs) xs rest fine =
      let ys : List ℕ = drop (length (reward_slots node k c ++ charge_slots node k c)) xs in
      let h : k < length table.classes = omega (arith, rest.count) in
      let none : k + 0 ≡ k = omega arith in
      let same : class_at table.classes k ≡ c = sym (ap (class_at table.classes) none) ∙ rest.same 0 (omega arith) in
      all_append (IsGive table) (class_gives p node k c xs) (walked_from p node (suc k) cs ys)
      (walk_good (is_free node) _ (holds node.inside) k table c c.users _ _ _ _ h same (users_are table.files c.users (recursion_from_All (λ file. file < table.files) c.users fine.0.below)))
      (walked_good table (suc k) cs ys (rest_next table k c cs rest) fine.1)

-- gives of nothing left out
filter_all : (P : Give → Type 0) (gs : List Give) → AllByRecursion P gs → AllByRecursion P (filter is_some_give gs)
filter_all P [] all = tt
filter_all P (g ∷ gs) all = elim (cases_Bool (is_some_give g)) as (λ _. AllByRecursion P (filter is_some_give (g ∷ gs))) [
  | inl t ↦ rw t (all.0, filter_all P gs all.1)
  | inr f ↦ rw f (filter_all P gs all.1)
]

filter_some : (gs : List Give) → AllByRecursion (λ g. is_some_give g ≡ true) (filter is_some_give gs)
filter_some [] = tt
filter_some (g ∷ gs) = elim (cases_Bool (is_some_give g)) as (λ _. AllByRecursion (λ h. is_some_give h ≡ true) (filter is_some_give (g ∷ gs))) [
  | inl t ↦ rw t (t, filter_some gs)
  | inr f ↦ rw f (filter_some gs)
]

filter_few : (gs : List Give) → length (filter is_some_give gs) ≤ length gs
filter_few [] = omega arith
filter_few (g ∷ gs) = elim (cases_Bool (is_some_give g)) as (λ _. length (filter is_some_give (g ∷ gs)) ≤ length (g ∷ gs)) [
  | inl t ↦ rw t (omega (arith, filter_few gs))
  | inr f ↦ rw f (omega (arith, filter_few gs))
]

filter_rising : (gs : List Give) → AreRising gs → AreRising (filter is_some_give gs)
filter_rising [] r = tt
filter_rising (g ∷ gs) r = elim (cases_Bool (is_some_give g)) as (λ _. AreRising (filter is_some_give (g ∷ gs))) [
  | inl t ↦ rw t (filter_all (IsBefore g) gs r.0, filter_rising gs r.1)
  | inr f ↦ rw f (filter_rising gs r.1)
]

filter_sum : (a : Give → ℕ) → ((g : Give) → is_some_give g ≡ false → a g ≡ 0) → (gs : List Give) → sum_by a (filter is_some_give gs) ≡ sum_by a gs
filter_sum a none [] = refl
filter_sum a none (g ∷ gs) = elim (cases_Bool (is_some_give g)) as (λ _. sum_by a (filter is_some_give (g ∷ gs)) ≡ sum_by a (g ∷ gs)) [
  | inl t ↦ rw t (omega (arith, filter_sum a none gs, sum_by-cons a g gs, sum_by-cons a g (filter is_some_give gs)))
  | inr f ↦ rw f (omega (arith, filter_sum a none gs, sum_by-cons a g gs, none g f))
]

no_give : (g : Give) → is_some_give g ≡ false → (g.charge ≡ 0) × (g.reward ≡ 0)
no_give g f = parts (eqb g.charge 0) (eqb g.reward 0) refl refl f
  where
    parts : (a b : Bool) → eqb g.charge 0 ≡ a → eqb g.reward 0 ≡ b → not (a && b) ≡ false → (g.charge ≡ 0) × (g.reward ≡ 0)
    parts true true x y h = (eqb-true g.charge 0 x, eqb-true g.reward 0 y)
    parts true false x y h = absurd (cc h)
    parts false b x y h = absurd (cc h)

none_if : (b : Bool) (x : ℕ) → x ≡ 0 → cond b x 0 ≡ 0
none_if true x e = e
none_if false x e = refl

module _ (table : TableValue) (p q : ℕ) (node : Node) (amounts : List ℕ) (lawful : IsTable table) (each : length amounts ≡ length (slots_from node 0 table.classes)) where
  abbrev slot_gives : List Give
  slot_gives = gives_of p (slots_from node 0 table.classes) amounts

  abbrev walked : List Give
  walked = walked_from p node 0 table.classes amounts

  abbrev some : List Give
  some = node_gives p table node amounts

  fine : AllByRecursion (IsClass table.files) table.classes
  fine = recursion_from_All (IsClass table.files) table.classes lawful.each

  charges : (t : ℕ → ℕ → Bool) → sum_by (charged t) some ≡ sum_by (charged t) slot_gives
  charges t = filter_sum (charged t) (λ g f. none_if (t g.class g.file) g.charge (no_give g f).0) walked ∙ walked_charges p node t 0 table.classes amounts

  rewards : (t : ℕ → ℕ → Bool) → sum_by (rewarded t) some ≡ sum_by (rewarded t) slot_gives
  rewards t =
      filter_sum (rewarded t) (λ g f. none_if (t g.class g.file) g.reward (no_give g f).1) walked
      ∙ walked_rewards p node t table.files 0 table.classes amounts fine (omega (arith, each))

  pub gives_multipliers : AreMultipliers table (multipliers_of p q slot_gives) → AreMultipliers table (multipliers_of p q some)
  gives_multipliers m = record {
    positive = m.positive;
    each =
        filter_all (IsGive table) walked
        (walked_good p node table 0 table.classes amounts (record { count = omega arith; same = λ i h. let e : 0 + i ≡ i = omega arith in ap (class_at table.classes) e }) fine);
    charges = λ k h. omega (arith, charges (λ j _. eqb j k), m.charges k h);
    rewards = λ k h. omega (arith, rewards (λ j _. eqb j k), m.rewards k h);
  }

  pub gives_won : won table.files node some ≡ won table.files node slot_gives
  gives_won = sum_below_same (won_at node some) (won_at node slot_gives) table.files (λ f _. ap (λ (m : ℕ). cond (holds node.inside f) m 0) (charges (λ _ u. eqb u f)))

  pub gives_lost : lost table.files node some ≡ lost table.files node slot_gives
  gives_lost =
      sum_below_same (lost_at node some) (lost_at node slot_gives) table.files
      (λ f _. same (holds node.inside f) (holds node.outside f) _ _ _ _ (rewards (λ _ u. eqb u f)) (charges (λ _ u. eqb u f)))
    where
      same : (i o : Bool) (r s c d : ℕ) → r ≡ s → c ≡ d → cond i r (cond o 0 (r - c)) ≡ cond i s (cond o 0 (s - d))
      same i o r s c d e1 e2 = rw (e1, e2) refl

  pub gives_rise : AreRising some
  gives_rise = filter_rising walked (walked_rise p node table.files 0 table.classes amounts fine)

  pub gives_few : length some ≤ sum_by (λ (c : Class). length c.users) table.classes
  gives_few = omega (arith, filter_few walked, walked_length p node 0 table.classes amounts)

  pub gives_some : AllByRecursion (λ g. is_some_give g ≡ true) some
  gives_some = filter_some walked
