-- No member of a node costs less than multipliers say.
use Rattle.std.proofs.Common.{inl, inr, ◌≡◌, ℕ, ◌+◌, ◌-◌, ◌*◌, ◌≤◌, ◌<◌, Bool, true, false, cond, eqb, List, [], ◌∷◌, length, refl, sym, ◌∙◌, ap, arith}
use Rattle.std.specs.Prelude.{sum_by}
use Rattle.std.specs.List.{list_any, list_all, AllByRecursion}
use Rattle.std.proofs.lemmas.Bool.{cases_Bool, eqb-true}
use Rattle.std.proofs.lemmas.List.Sums.{sum_by-cons}
use Rattle.seed_model.specs.declared.node.Node.{Node}
use Rattle.seed_model.specs.declared.table.Class.{Class}
use Rattle.seed_model.specs.Files.{holds}
use Rattle.seed_model.specs.Tables.{TableValue}
use Rattle.seed_model.specs.Sums.{migrated_of, touched_of}
use Rattle.seed_model.specs.Nodes.{IsMember}
use Rattle.bound_cert.specs.declared.multipliers.Give.{Give}
use Rattle.seed_model.specs.Keys.{at_key, sum_below, class_at, no_class}
use Rattle.bound_cert.specs.Multipliers.{IsGive, AreCharged, AreRewarded, charges_at, rewards_at, charges_of, rewards_of, won, lost, won_at, lost_at}
use Rattle.bound_cert.specs.Laws.{WeakDuality}
use Rattle.seed_model.proofs.KeySums.{by_key, sum_below_le, sum_below_same, sum_below_plus, sum_below_entries, sum_times}

abbrev charge_of : Give → ℕ
charge_of g = g.charge

abbrev reward_of : Give → ℕ
reward_of g = g.reward

abbrev file_of : Give → ℕ
file_of g = g.file

abbrev class_of : Give → ℕ
class_of g = g.class

-- what a test keeps
abbrev kept : (ℕ → Bool) → (Give → ℕ) → Give → ℕ
kept t a g = cond (t g.file) (a g) 0

abbrev touched_size : (ℕ → Bool) → Class → ℕ
touched_size t c = cond (list_any t c.users) c.size 0

abbrev within_size : (ℕ → Bool) → Class → ℕ
within_size t c = cond (list_all t c.users) c.size 0

-- at one file the test decides at once
kept_at : (t : ℕ → Bool) (a : Give → ℕ) (k : ℕ) (gs : List Give) → sum_by (at_key file_of (kept t a) k) gs ≡ cond (t k) (sum_by (at_key file_of a k) gs) 0
kept_at t a k [] = grind arith
kept_at t a k (g ∷ gs) =
    let one : at_key file_of (kept t a) k g ≡ cond (t k) (at_key file_of a k g) 0 = grind arith in
    let ih = kept_at t a k gs in
    grind (arith, one, ih, sum_by-cons (at_key file_of (kept t a) k) g gs, sum_by-cons (at_key file_of a k) g gs)

files_below : (table : TableValue) (gs : List Give) → AllByRecursion (IsGive table) gs → AllByRecursion (λ g. file_of g < table.files) gs
files_below table [] all = tt
files_below table (g ∷ gs) all = (all.0.file, files_below table gs all.1)

classes_below : (table : TableValue) (gs : List Give) → AllByRecursion (IsGive table) gs → AllByRecursion (λ g. class_of g < length table.classes) gs
classes_below table [] all = tt
classes_below table (g ∷ gs) all = (all.0.known, classes_below table gs all.1)

kept_files : (t : ℕ → Bool) (a : Give → ℕ) (n : ℕ) (gs : List Give) → AllByRecursion (λ g. file_of g < n) gs
    → sum_by (kept t a) gs ≡ sum_below (λ f. cond (t f) (sum_by (at_key file_of a f) gs) 0) n
kept_files t a n gs b =
    by_key file_of (kept t a) n gs b ∙ sum_below_same (λ f. sum_by (at_key file_of (kept t a) f) gs) (λ f. cond (t f) (sum_by (at_key file_of a f) gs) 0) n (λ k _. kept_at t a k gs)

-- at each file, the charge won and the reward kept are at most the reward lost and the charge kept
file_part : (i o s : Bool) (c r : ℕ) → (i ≡ true → s ≡ true) → (o ≡ true → s ≡ false) → cond i c 0 + cond s r 0 ≤ cond i r (cond o 0 (r - c)) + cond s c 0
file_part i o s c r h l = grind arith

files_part : (n : ℕ) (node : Node) (t : ℕ → Bool) (gs : List Give) → IsMember n node t → AllByRecursion (λ g. file_of g < n) gs
    → won n node gs + sum_by (kept t reward_of) gs ≤ lost n node gs + sum_by (kept t charge_of) gs
files_part n node t gs m b =
    let ws = won_at node gs in
    let ls = lost_at node gs in
    let rs : ℕ → ℕ = λ f. cond (t f) (rewards_at gs f) 0 in
    let cs : ℕ → ℕ = λ f. cond (t f) (charges_at gs f) 0 in
    let each : (f : ℕ) → f < n → ws f + rs f ≤ ls f + cs f = λ f h. file_part (holds node.inside f) (holds node.outside f) (t f) (charges_at gs f) (rewards_at gs f) (m.has f h) (m.lacks f h) in
    let le = sum_below_le (λ f. ws f + rs f) (λ f. ls f + cs f) n each in
    omega (arith, le, sum_below_plus ws rs n, sum_below_plus ls cs n, kept_files t reward_of n gs b, kept_files t charge_of n gs b)

-- a user is in the set where all are, and not where none is
pub user_all : (t : ℕ → Bool) (f : ℕ) (us : List ℕ) → list_any (λ u. eqb u f) us ≡ true → list_all t us ≡ true → t f ≡ true
user_all t f [] h a = absurd (cc h)
user_all t f (u ∷ us) h a = elim (cases_Bool (eqb u f)) [
  | inl e ↦ elim (cases_Bool (t u)) [ inl y ↦ sym (ap t (eqb-true u f e)) ∙ y | inr n ↦ absurd (cc (rw n at a)) ]
  | inr e ↦ elim (cases_Bool (t u)) [ inl y ↦ user_all t f us (rw e at h) (rw y at a) | inr n ↦ absurd (cc (rw n at a)) ]
]

pub user_none : (t : ℕ → Bool) (f : ℕ) (us : List ℕ) → list_any (λ u. eqb u f) us ≡ true → list_any t us ≡ false → t f ≡ false
user_none t f [] h a = absurd (cc h)
user_none t f (u ∷ us) h a = elim (cases_Bool (eqb u f)) [
  | inl e ↦ elim (cases_Bool (t u)) [ inl y ↦ absurd (cc (rw y at a)) | inr n ↦ sym (ap t (eqb-true u f e)) ∙ n ]
  | inr e ↦ elim (cases_Bool (t u)) [ inl y ↦ absurd (cc (rw y at a)) | inr n ↦ user_none t f us (rw e at h) (rw n at a) ]
]

-- the gives of a class: within the set all are kept, untouched none
class_all : (table : TableValue) (t : ℕ → Bool) (a : Give → ℕ) (k : ℕ) (gs : List Give) → AllByRecursion (IsGive table) gs
    → list_all t (class_at table.classes k).users ≡ true → sum_by (at_key class_of (kept t a) k) gs ≡ sum_by (at_key class_of a k) gs
class_all table t a k [] u e = refl
class_all table t a k (g ∷ gs) u e =
    let ih = class_all table t a k gs u.1 e in
    let f : g.class ≡ k → t g.file ≡ true = λ h. user_all t g.file (class_at table.classes g.class).users u.0.user (rw h e) in
    let one : at_key class_of (kept t a) k g ≡ at_key class_of a k g = grind (arith, f) in
    omega (arith, ih, one, sum_by-cons (at_key class_of (kept t a) k) g gs, sum_by-cons (at_key class_of a k) g gs)

class_none : (table : TableValue) (t : ℕ → Bool) (a : Give → ℕ) (k : ℕ) (gs : List Give) → AllByRecursion (IsGive table) gs
    → list_any t (class_at table.classes k).users ≡ false → sum_by (at_key class_of (kept t a) k) gs ≡ 0
class_none table t a k [] u e = refl
class_none table t a k (g ∷ gs) u e =
    let ih = class_none table t a k gs u.1 e in
    let f : g.class ≡ k → t g.file ≡ false = λ h. user_none t g.file (class_at table.classes g.class).users u.0.user (rw h e) in
    let one : at_key class_of (kept t a) k g ≡ 0 = grind (arith, f) in
    omega (arith, ih, one, sum_by-cons (at_key class_of (kept t a) k) g gs)

class_some : (t : ℕ → Bool) (a : Give → ℕ) (k : ℕ) (gs : List Give) → sum_by (at_key class_of (kept t a) k) gs ≤ sum_by (at_key class_of a k) gs
class_some t a k [] = omega arith
class_some t a k (g ∷ gs) =
    let ih = class_some t a k gs in
    let one : at_key class_of (kept t a) k g ≤ at_key class_of a k g = grind arith in
    omega (arith, ih, one, sum_by-cons (at_key class_of (kept t a) k) g gs, sum_by-cons (at_key class_of a k) g gs)

at_most : (s : Bool) (q z m kept : ℕ) → (s ≡ false → kept ≡ 0) → kept ≤ m → m ≤ q * z → kept ≤ q * cond s z 0
at_most true q z m kept none some l = omega arith
at_most false q z m kept none some l = omega (arith, none refl)

at_least : (s : Bool) (p z m kept : ℕ) → (s ≡ true → kept ≡ m) → m ≡ p * z → p * cond s z 0 ≤ kept
at_least true p z m kept all l = omega (arith, all refl)
at_least false p z m kept all l = omega arith

charges_part : (table : TableValue) (q : ℕ) (t : ℕ → Bool) (gs : List Give) → AllByRecursion (IsGive table) gs → AreCharged table q gs → sum_by (kept t charge_of) gs ≤ q * touched_of t table
charges_part table q t gs all charged =
    let n : ℕ = length table.classes in
    let each : (k : ℕ) → k < n → sum_by (at_key class_of (kept t charge_of) k) gs ≤ q * touched_size t (class_at table.classes k) =
    λ k h. at_most (list_any t (class_at table.classes k).users) q (class_at table.classes k).size (charges_of gs k) _ (class_none table t charge_of k gs all) (class_some t charge_of k gs) (charged k h) in
    let le = sum_below_le (λ k. sum_by (at_key class_of (kept t charge_of) k) gs) (λ k. q * touched_size t (class_at table.classes k)) n each in
    let sums = sum_below_entries (λ (c : Class). q * touched_size t c) table.classes no_class in
    omega (arith, le, sums, sum_times q (touched_size t) table.classes, by_key class_of (kept t charge_of) n gs (classes_below table gs all))

rewards_part : (table : TableValue) (p : ℕ) (t : ℕ → Bool) (gs : List Give) → AllByRecursion (IsGive table) gs → AreRewarded table p gs → p * migrated_of t table ≤ sum_by (kept t reward_of) gs
rewards_part table p t gs all rewarded =
    let n : ℕ = length table.classes in
    let each : (k : ℕ) → k < n → p * within_size t (class_at table.classes k) ≤ sum_by (at_key class_of (kept t reward_of) k) gs =
    λ k h. at_least (list_all t (class_at table.classes k).users) p (class_at table.classes k).size (rewards_of gs k) _ (class_all table t reward_of k gs all) (rewarded k h) in
    let le = sum_below_le (λ k. p * within_size t (class_at table.classes k)) (λ k. sum_by (at_key class_of (kept t reward_of) k) gs) n each in
    let sums = sum_below_entries (λ (c : Class). p * within_size t c) table.classes no_class in
    omega (arith, le, sums, sum_times p (within_size t) table.classes, by_key class_of (kept t reward_of) n gs (classes_below table gs all))

pub weak_duality : WeakDuality
weak_duality table node t m am mem =
    let files = files_part table.files node t m.gives mem (files_below table m.gives am.each) in
    omega (arith, files, charges_part table m.q t m.gives am.each am.charges, rewards_part table m.p t m.gives am.each am.rewards)
