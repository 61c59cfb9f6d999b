-- The slots of a node's net: each class is led once on each half, and each slot is a fit one.
use Rattle.std.proofs.Common.{inl, inr, ◌≡◌, ℕ, zero, suc, ◌+◌, ◌*◌, ◌≤◌, ◌<◌, Bool, true, false, not, ◌&&◌, cond, eqb, length, List, [], ◌∷◌, refl, sym, ◌∙◌, ap, subst, arith}
use Rattle.std.specs.Prelude.{sum_by, ◌++◌}
use Rattle.std.specs.List.{list_any, AllByRecursion}
use Rattle.std.proofs.lemmas.Bool.{cases_Bool, eq-eqb, ne_eqb}
use Rattle.std.proofs.lemmas.List.Elements.{recursion_from_All}
use Rattle.std.proofs.lemmas.List.Sums.{sum_by-cons, sum_by-append, get_or-le-sum_by}
use Rattle.seed_model.specs.declared.table.Class.{Class}
use Rattle.seed_model.specs.Tables.{TableValue, IsTable, IsClass}
use Rattle.seed_model.specs.Sums.{total_of}
use Rattle.bound_cert.specs.declared.multipliers.Give.{Give}
use Rattle.seed_model.specs.Keys.{class_at, no_class}
use Rattle.bound_cert.specs.Multipliers.{IsGive}
use Rattle.seed_model.specs.Nodes.{is_free}
use Rattle.hull_bound.specs.Slots.{Slot, slots_from, reward_slots, charge_slots, reward_spokes, charge_spokes, first_of}
use Rattle.hull_bound.specs.Walks.{give_of, gives_of}
use Rattle.hull_bound.specs.Slots.Slot.{fill, drain, reward, charge, barred, forced}
use Rattle.seed_model.proofs.KeySums.{all_append}
use Rattle.hull_bound.proofs.Loads.{IsFit, user, size, lead}
use Rattle.seed_model.specs.declared.node.Node.{Node}
use Rattle.seed_model.specs.Files.{holds}

-- the sizes of the classes from number k on whose number passes a test
pub sized : (ℕ → Bool) → ℕ → List Class → ℕ
sized test k [] = 0
sized test k (c ∷ cs) = cond (test k) c.size 0 + sized test (suc k) cs

reward_none : (a b : ℕ) (test free : ℕ → Bool) (k z : ℕ) (us : List ℕ) → sum_by (lead a b test) (reward_spokes free k z us) ≡ 0
reward_none a b test free k z [] = refl
reward_none a b test free k z (u ∷ us) = elim (cases_Bool (free u)) [
  | inl t ↦ rw t (omega (arith, reward_none a b test free k z us, sum_by-cons (lead a b test) (reward k u z) (reward_spokes free k z us)))
  | inr f ↦ rw f (reward_none a b test free k z us)
]

charge_none : (a b : ℕ) (test free : ℕ → Bool) (k z : ℕ) (us : List ℕ) → sum_by (lead a b test) (charge_spokes free k z us) ≡ 0
charge_none a b test free k z [] = refl
charge_none a b test free k z (u ∷ us) = elim (cases_Bool (free u)) [
  | inl t ↦ rw t (omega (arith, charge_none a b test free k z us, sum_by-cons (lead a b test) (charge k u z) (charge_spokes free k z us)))
  | inr f ↦ rw f (charge_none a b test free k z us)
]

rewards_led : (a b : ℕ) (test : ℕ → Bool) (node : Node) (k : ℕ) (c : Class) → sum_by (lead a b test) (reward_slots node k c) ≡ cond (test k) (a * c.size) 0
rewards_led a b test node k c = elim (cases_Bool (list_any (holds node.outside) c.users)) [
  | inl t ↦ rw t (omega arith)
  | inr f ↦
      let rest : List Slot = reward_spokes (is_free node) k c.size c.users in
      rw f (omega (arith, sum_by-cons (lead a b test) (fill k (first_of (λ _. true) c.users) c.size) rest, reward_none a b test (is_free node) k c.size c.users))
]

charges_led : (a b : ℕ) (test : ℕ → Bool) (node : Node) (k : ℕ) (c : Class) → sum_by (lead a b test) (charge_slots node k c) ≡ cond (test k) (b * c.size) 0
charges_led a b test node k c = elim (cases_Bool (list_any (holds node.inside) c.users)) [
  | inl t ↦ rw t (omega arith)
  | inr f ↦
      let rest : List Slot = charge_spokes (is_free node) k c.size c.users in
      rw f (omega (arith, sum_by-cons (lead a b test) (drain k (first_of (λ _. true) c.users) c.size) rest, charge_none a b test (is_free node) k c.size c.users))
]

both_if : (t : Bool) (a b z : ℕ) → cond t (a * z) 0 + cond t (b * z) 0 ≡ (a + b) * cond t z 0
both_if true a b z = omega arith
both_if false a b z = omega arith

pub all_led : (a b : ℕ) (test : ℕ → Bool) (node : Node) (k : ℕ) (cs : List Class) → sum_by (lead a b test) (slots_from node k cs) ≡ (a + b) * sized test k cs
unfolding sized
all_led a b test node k [] = omega arith
all_led a b test node k (c ∷ cs) =
    let f = lead a b test in
    let more : List Slot = slots_from node (suc k) cs in
    let one = sum_by-append f (reward_slots node k c) (charge_slots node k c ++ more) in
    let two = sum_by-append f (charge_slots node k c) more in
    omega (arith, one, two, rewards_led a b test node k c, charges_led a b test node k c, all_led a b test node (suc k) cs, both_if (test k) a b c.size)

sized_none : (k i : ℕ) (cs : List Class) → i < k → sized (λ j. eqb j i) k cs ≡ 0
unfolding sized
sized_none k i [] h = refl
sized_none k i (c ∷ cs) h = rw (ne_eqb k i (λ e. omega (arith, e, h))) (omega (arith, sized_none (suc k) i cs (omega (arith, h))))

sized_one : (k i : ℕ) (cs : List Class) → i < length cs → sized (λ j. eqb j (k + i)) k cs ≡ (class_at cs i).size
unfolding sized
sized_one k i [] h = absurd (omega (arith, h))
sized_one k zero (c ∷ cs) h =
    rw (eq-eqb k (k + 0) (omega arith)) (omega (arith, sized_none (suc k) (k + 0) cs (omega arith)))
sized_one k (suc i) (c ∷ cs) h =
    let next : suc k + i ≡ k + suc i = omega arith in
    let ih = subst (λ (m : ℕ). sized (λ j. eqb j m) (suc k) cs ≡ (class_at cs i).size) next (sized_one (suc k) i cs (omega (arith, h))) in
    rw (ne_eqb k (k + suc i) (λ e. omega (arith, e))) (omega (arith, ih))

pub sized_all : (k : ℕ) (cs : List Class) → sized (λ _. true) k cs ≡ sum_by (λ (c : Class). c.size) cs
unfolding sized
sized_all k [] = refl
sized_all k (c ∷ cs) = omega (arith, sized_all (suc k) cs, sum_by-cons (λ (x : Class). x.size) c cs)

pub one_led : (a b : ℕ) (node : Node) (k : ℕ) (cs : List Class) → k < length cs
    → sum_by (lead a b (λ j. eqb j k)) (slots_from node 0 cs) ≡ (a + b) * (class_at cs k).size
one_led a b node k cs h =
    let here : 0 + k ≡ k = omega arith in
    let one = subst (λ (m : ℕ). sized (λ j. eqb j m) 0 cs ≡ (class_at cs k).size) here (sized_one 0 k cs h) in
    all_led a b (λ j. eqb j k) node 0 cs ∙ ap (λ (m : ℕ). (a + b) * m) one

pub total_led : (a b : ℕ) (node : Node) (cs : List Class)
    → sum_by (lead a b (λ _. true)) (slots_from node 0 cs) ≡ (a + b) * sum_by (λ (c : Class). c.size) cs
total_led a b node cs = all_led a b (λ _. true) node 0 cs ∙ ap (λ (m : ℕ). (a + b) * m) (sized_all 0 cs)

-- users
abbrev pub IsUser : ℕ → List ℕ → ℕ → Type 0
IsUser n us u = (u < n) × (list_any (λ v. eqb v u) us ≡ true)

push_user : (n v : ℕ) (us vs : List ℕ) → AllByRecursion (IsUser n us) vs → AllByRecursion (IsUser n (v ∷ us)) vs
push_user n v us [] all = tt
push_user n v us (w ∷ ws) all = ((all.0.0, elim (cases_Bool (eqb v w)) as (λ _. list_any (λ x. eqb x w) (v ∷ us) ≡ true) [ inl t ↦ rw t refl | inr f ↦ rw f all.0.1 ]), push_user n v us ws all.1)

pub users_are : (n : ℕ) (us : List ℕ) → AllByRecursion (λ u. u < n) us → AllByRecursion (IsUser n us) us
users_are n [] all = tt
users_are n (u ∷ us) all = ((all.0, rw (eq-eqb u u refl) refl), push_user n u us us (users_are n us all.1))

first_is : (P : ℕ → Type 0) (test : ℕ → Bool) (us : List ℕ) → AllByRecursion P us → list_any test us ≡ true → P (first_of test us) × (test (first_of test us) ≡ true)
first_is P test [] all h = absurd (cc h)
first_is P test (u ∷ us) all h = elim (cases_Bool (test u)) [
  | inl t ↦ rw t (all.0, t)
  | inr f ↦ rw f (first_is P test us all.1 (rw f at h))
]

pub any_user : (us : List ℕ) → 0 < length us → list_any (λ _. true) us ≡ true
any_user [] h = absurd (omega (arith, h))
any_user (u ∷ us) h = refl

pub record IsSlot (table : TableValue) (p : ℕ) (node : Node) (s : Slot) : Type 0 where
  pub give : (x : ℕ) → IsGive table (give_of p s x)
  pub file : user s < table.files
  pub fit : IsFit node s
  pub small : size s ≤ total_of table

-- the classes from a number on are those of the table
pub record IsRest (table : TableValue) (k : ℕ) (cs : List Class) : Type 0 where
  pub count : k + length cs ≡ length table.classes
  pub same : (i : ℕ) → i < length cs → class_at table.classes (k + i) ≡ class_at cs i

pub rest_next : (table : TableValue) (k : ℕ) (c : Class) (cs : List Class) → IsRest table k (c ∷ cs) → IsRest table (suc k) cs
rest_next table k c cs rest = record {
  count = omega (arith, rest.count);
  same = λ i h.
      let next : k + suc i ≡ suc k + i = omega arith in
      sym (ap (class_at table.classes) next) ∙ rest.same (suc i) (omega (arith, h));
}

-- what the slots of a class give is given to its users
abbrev pub IsTo : ℕ → Class → Give → Type 0
IsTo k c g = (g.class ≡ k) × (list_any (λ u. eqb u g.file) c.users ≡ true)

module _ (table : TableValue) (p : ℕ) (node : Node) where
  Good : Slot → Type 0
  Good s = IsSlot table p node s

  InClass : ℕ → Slot → Type 0
  InClass k s = Good s × ((x : ℕ) → (give_of p s x).class ≡ k)

  slot_good : (s : Slot) (k f : ℕ) (c : Class) → ((x : ℕ) → (give_of p s x).class ≡ k) → ((x : ℕ) → (give_of p s x).file ≡ f) → user s ≡ f
      → k < length table.classes → class_at table.classes k ≡ c → IsUser table.files c.users f → size s ≡ c.size → IsFit node s → InClass k s
  unfolding InClass Good
  slot_good s k f c at_k at_f is h same u all fit = (
    record {
      give = λ x. record {
        known = rw (at_k x) h;
        file = rw (at_f x) u.0;
        user = rw (at_k x, at_f x, same) u.1;
      };
      file = rw is u.0;
      fit = fit;
      small = omega (arith, all, ap (λ (d : Class). d.size) same, get_or-le-sum_by (λ (d : Class). d.size) table.classes k no_class h);
    },
    at_k,
  )

  free_parts : (f : ℕ) → is_free node f ≡ true → (holds node.inside f ≡ false) × (holds node.outside f ≡ false)
  free_parts f h = parts (holds node.inside f) (holds node.outside f) h
    where
      parts : (i o : Bool) → (not i && not o) ≡ true → (i ≡ false) × (o ≡ false)
      parts true o h = absurd (cc h)
      parts false true h = absurd (cc h)
      parts false false h = (refl, refl)

  rewards_good : (k : ℕ) (c : Class) (us : List ℕ) → k < length table.classes → class_at table.classes k ≡ c → AllByRecursion (IsUser table.files c.users) us
      → AllByRecursion (InClass k) (reward_spokes (is_free node) k c.size us)
  rewards_good k c [] h same all = tt
  rewards_good k c (u ∷ us) h same all = elim (cases_Bool (is_free node u)) [
    | inl t ↦ rw t (slot_good (reward k u c.size) k u c (λ _. refl) (λ _. refl) refl h same all.0 refl (free_parts u t), rewards_good k c us h same all.1)
    | inr f ↦ rw f (rewards_good k c us h same all.1)
  ]

  charges_good : (k : ℕ) (c : Class) (us : List ℕ) → k < length table.classes → class_at table.classes k ≡ c → AllByRecursion (IsUser table.files c.users) us
      → AllByRecursion (InClass k) (charge_spokes (is_free node) k c.size us)
  charges_good k c [] h same all = tt
  charges_good k c (u ∷ us) h same all = elim (cases_Bool (is_free node u)) [
    | inl t ↦ rw t (slot_good (charge k u c.size) k u c (λ _. refl) (λ _. refl) refl h same all.0 refl (free_parts u t), charges_good k c us h same all.1)
    | inr f ↦ rw f (charges_good k c us h same all.1)
  ]

  class_good : (k : ℕ) (c : Class) → k < length table.classes → class_at table.classes k ≡ c → IsClass table.files c
      → AllByRecursion (InClass k) (reward_slots node k c) × AllByRecursion (InClass k) (charge_slots node k c)
  class_good k c h same fine =
      let us = users_are table.files c.users (recursion_from_All (λ file. file < table.files) c.users fine.below) in
      let first = first_is (IsUser table.files c.users) (λ _. true) c.users us (any_user c.users fine.used) in (
        elim (cases_Bool (list_any (holds node.outside) c.users)) as (λ _. AllByRecursion (InClass k) (reward_slots node k c)) [
          | inl t ↦
              let one = first_is (IsUser table.files c.users) (holds node.outside) c.users us t in
              rw t (slot_good (barred k (first_of (holds node.outside) c.users) c.size) k (first_of (holds node.outside) c.users) c (λ _. refl) (λ _. refl) refl h same one.0 refl one.1, tt)
          | inr f ↦
              rw f (slot_good (fill k (first_of (λ _. true) c.users) c.size) k (first_of (λ _. true) c.users) c (λ _. refl) (λ _. refl) refl h same first.0 refl tt, rewards_good k c c.users h same us)
        ],
        elim (cases_Bool (list_any (holds node.inside) c.users)) as (λ _. AllByRecursion (InClass k) (charge_slots node k c)) [
          | inl t ↦
              let one = first_is (IsUser table.files c.users) (holds node.inside) c.users us t in
              rw t (slot_good (forced k (first_of (holds node.inside) c.users) c.size) k (first_of (holds node.inside) c.users) c (λ _. refl) (λ _. refl) refl h same one.0 refl one.1, tt)
          | inr f ↦
              rw f (slot_good (drain k (first_of (λ _. true) c.users) c.size) k (first_of (λ _. true) c.users) c (λ _. refl) (λ _. refl) refl h same first.0 refl tt, charges_good k c c.users h same us)
        ],
      )

  only_good : (k : ℕ) (ss : List Slot) → AllByRecursion (InClass k) ss → AllByRecursion Good ss
  unfolding InClass
  only_good k [] all = tt
  only_good k (s ∷ ss) all = (all.0.0, only_good k ss all.1)

  rest_good : (k : ℕ) (cs : List Class) → IsRest table k cs → AllByRecursion (IsClass table.files) cs → AllByRecursion Good (slots_from node k cs)
  rest_good k [] rest fine = tt
  rest_good k (c ∷ cs) rest fine =
      let h : k < length table.classes = omega (arith, rest.count) in
      let none : k + 0 ≡ k = omega arith in
      let same : class_at table.classes k ≡ c = sym (ap (class_at table.classes) none) ∙ rest.same 0 (omega arith) in
      let both = class_good k c h same fine.0 in
      all_append Good (reward_slots node k c) _ (only_good k _ both.0)
      (all_append Good (charge_slots node k c) _ (only_good k _ both.1) (rest_good (suc k) cs (rest_next table k c cs rest) fine.1))

  pub slots_good : IsTable table → AllByRecursion (IsSlot table p node) (slots_from node 0 table.classes)
  unfolding Good
  slots_good lawful =
      let whole : IsRest table 0 table.classes = record { count = omega arith; same = λ i h. let e : 0 + i ≡ i = omega arith in ap (class_at table.classes) e } in
      rest_good 0 table.classes whole (recursion_from_All (IsClass table.files) table.classes lawful.each)

  given_to : (k : ℕ) (c : Class) (ss : List Slot) (xs : List ℕ) → class_at table.classes k ≡ c → AllByRecursion (InClass k) ss → AllByRecursion (IsTo k c) (gives_of p ss xs)
  unfolding InClass Good
  given_to k c [] xs same all = tt
  given_to k c (s ∷ ss) [] same all = tt
  given_to k c (s ∷ ss) (x ∷ xs) same all = (
    (all.0.1 x, rw (all.0.1 x, same) at (all.0.0.give x).user),
    given_to k c ss xs same all.1,
  )

  pub class_to : (k : ℕ) (c : Class) (xs : List ℕ) → k < length table.classes → class_at table.classes k ≡ c → IsClass table.files c
      → AllByRecursion (IsTo k c) (gives_of p (reward_slots node k c ++ charge_slots node k c) xs)
  class_to k c xs h same fine =
      let both = class_good k c h same fine in
      given_to k c (reward_slots node k c ++ charge_slots node k c) xs same (all_append (InClass k) (reward_slots node k c) _ both.0 both.1)

-- a test of classes, by their numbers
sized_rest : (table : TableValue) (test : Class → Bool) (k : ℕ) (cs : List Class) → IsRest table k cs
    → sized (λ j. test (class_at table.classes j)) k cs ≡ sum_by (λ (c : Class). cond (test c) c.size 0) cs
unfolding sized
sized_rest table test k [] rest = refl
sized_rest table test k (c ∷ cs) rest =
    let none : k + 0 ≡ k = omega arith in
    let same : class_at table.classes k ≡ c = sym (ap (class_at table.classes) none) ∙ rest.same 0 (omega arith) in
    let here : cond (test (class_at table.classes k)) c.size 0 ≡ cond (test c) c.size 0 = ap (λ (d : Class). cond (test d) c.size 0) same in
    omega (arith, here, sized_rest table test (suc k) cs (rest_next table k c cs rest), sum_by-cons (λ (x : Class). cond (test x) x.size 0) c cs)

pub sized_classes : (table : TableValue) (test : Class → Bool)
    → sized (λ j. test (class_at table.classes j)) 0 table.classes ≡ sum_by (λ (c : Class). cond (test c) c.size 0) table.classes
sized_classes table test =
    let whole : IsRest table 0 table.classes = record { count = omega arith; same = λ i h. let e : 0 + i ≡ i = omega arith in ap (class_at table.classes) e } in
    sized_rest table test 0 table.classes whole
