-- Sums over the classes of a table.
use Rattle.std.proofs.Common.{◌≡◌, ◌+◌, ◌<◌, ◌≤◌, ◌∷◌, [], ℕ, List, Bool, true, false, length, take, get_or, arith, inl, inr, refl, sym, ap, ◌∙◌, if◌then◌else◌}
use Rattle.std.specs.Prelude.{sum_by, ◌&&◌, not, IsTrue}
use Rattle.std.specs.Bool.{beq}
use Rattle.std.specs.List.{list_all, list_any, AllByRecursion}
use Rattle.std.proofs.lemmas.Bool.{cases_Bool}
use Rattle.std.proofs.lemmas.List.Elements.{recursion_from_All}
use Rattle.std.proofs.lemmas.List.Sums.{sum_by_more_le_part, sum_by-cons, sum_by-le-sum_by, sum_by-take-le}
use Rattle.seed_model.specs.declared.limits.TheConstants.{MOST_BYTES}
use Rattle.seed_model.specs.declared.table.Class.{Class}
use Rattle.seed_model.specs.Tables.{TableValue, IsTable, IsClass}
use Rattle.seed_model.specs.Sums.{bytes_where, migrated_of, touched_of}
use Rattle.seed_model.specs.SumLaws.{IsWithin, Splits, Grows, DependsOnFiles, StaysWithinTotal}

-- what a class counts for, where a test of its users decides
abbrev pub counted : (List ℕ → Bool) → Class → ℕ
counted test c = if test c.users then c.size else 0

-- some users in the set, and some outside it
abbrev pub some_but_not_all : (ℕ → Bool) → List ℕ → Bool
some_but_not_all set users = list_any set users && not (list_all set users)

pub counted_le : (test : List ℕ → Bool) (c : Class) → counted test c ≤ c.size
counted_le test c = elim (test c.users) as (λ b. (if b then c.size else 0) ≤ c.size) [ true ↦ omega arith | false ↦ omega arith ]

-- a class more still fits
pub more_fits : (test : List ℕ → Bool) (table : TableValue) (classes : List Class) (i : ℕ) (c : Class) → IsTable table → classes ≡ table.classes → i < length classes
    → c ≡ get_or classes i c → bytes_where test (take i classes) + c.size ≤ MOST_BYTES
more_fits test table classes i c t same lt e =
    let part = sum_by_more_le_part (counted test) (λ (x : Class). x.size) classes i c lt (counted_le test) in
    let here : bytes_where test (take i classes) + c.size ≤ sum_by (λ (x : Class). x.size) classes = rw (← e) at part in
    let all : sum_by (λ (x : Class). x.size) classes ≡ sum_by (λ (x : Class). x.size) table.classes = ap (λ (cs : List Class). sum_by (λ (x : Class). x.size) cs) same in
    omega (arith, here, all, t.bytes)

-- the classes so far keep to the limit
pub front_fits : (test : List ℕ → Bool) (table : TableValue) (classes : List Class) (i : ℕ) → IsTable table → classes ≡ table.classes
    → bytes_where test (take i classes) ≤ MOST_BYTES
front_fits test table classes i t same =
    let front = sum_by-take-le (counted test) classes i in
    let part = sum_by-le-sum_by (counted test) (λ (c : Class). c.size) classes (counted_le test) in
    let all : sum_by (λ (x : Class). x.size) classes ≡ sum_by (λ (x : Class). x.size) table.classes = ap (λ (cs : List Class). sum_by (λ (x : Class). x.size) cs) same in
    omega (arith, front, part, all, t.bytes)

-- where all of some are in the set, some are
any_of_all : (set : ℕ → Bool) (users : List ℕ) → 0 < length users → list_all set users ≡ true → list_any set users ≡ true
any_of_all set [] some e = absurd (omega arith)
any_of_all set (u ∷ us) some e = elim (cases_Bool (set u)) [ inl t ↦ rw t refl | inr f ↦ cc (rw f at e) ]

-- one class splits
class_splits : (set : ℕ → Bool) (c : Class) → 0 < length c.users
    → counted (list_any set) c ≡ counted (list_all set) c + counted (some_but_not_all set) c
class_splits set c some = elim (cases_Bool (list_all set c.users)) [
  | inl t ↦ rw (t, any_of_all set c.users some t) (omega arith)
  | inr f ↦ elim (cases_Bool (list_any set c.users)) [ inl s ↦ rw (f, s) (omega arith) | inr n ↦ rw (f, n) (omega arith) ]
]

splits_by_recursion : (set : ℕ → Bool) (files : ℕ) (classes : List Class) → AllByRecursion (IsClass files) classes
    → sum_by (counted (list_any set)) classes ≡ sum_by (counted (list_all set)) classes + sum_by (counted (some_but_not_all set)) classes
splits_by_recursion set files [] all = refl
splits_by_recursion set files (c ∷ classes) all =
    let step : counted (list_any set) c + sum_by (counted (list_any set)) classes
    ≡ (counted (list_all set) c + sum_by (counted (list_all set)) classes) + (counted (some_but_not_all set) c + sum_by (counted (some_but_not_all set)) classes)
    = omega (arith, class_splits set c all.0.used, splits_by_recursion set files classes all.1) in
    rw (sum_by-cons (counted (list_any set)) c classes, sum_by-cons (counted (list_all set)) c classes, sum_by-cons (counted (some_but_not_all set)) c classes) step

pub splits : Splits
splits table set t = splits_by_recursion set table.files table.classes (recursion_from_All (IsClass table.files) table.classes t.each)

-- tests of users in the order of their answers give sums in that order
grows_by_recursion : (files : ℕ) (p q : List ℕ → Bool) → ((users : List ℕ) → AllByRecursion (λ file. file < files) users → IsTrue (p users) → IsTrue (q users))
    → (classes : List Class) → AllByRecursion (IsClass files) classes → sum_by (counted p) classes ≤ sum_by (counted q) classes
grows_by_recursion files p q implies [] all = omega arith
grows_by_recursion files p q implies (c ∷ classes) all =
    let users = recursion_from_All (λ file. file < files) c.users all.0.below in
    let one : counted p c ≤ counted q c = elim (cases_Bool (p c.users)) [
      | inl t ↦ rw (t, implies c.users users t) (omega arith)
      | inr f ↦ rw f (omega arith)
    ] in
    let step : counted p c + sum_by (counted p) classes ≤ counted q c + sum_by (counted q) classes = omega (arith, one, grows_by_recursion files p q implies classes all.1) in
    rw (sum_by-cons (counted p) c classes, sum_by-cons (counted q) c classes) step

all_grows : (files : ℕ) (inner outer : ℕ → Bool) → IsWithin files inner outer → (users : List ℕ) → AllByRecursion (λ file. file < files) users
    → IsTrue (list_all inner users) → IsTrue (list_all outer users)
all_grows files inner outer within [] below h = refl
all_grows files inner outer within (u ∷ us) below h = elim (cases_Bool (inner u)) [
  | inl t ↦ rw (within u below.0 t) (all_grows files inner outer within us below.1 (rw t at h))
  | inr f ↦ cc (rw f at h)
]

any_grows : (files : ℕ) (inner outer : ℕ → Bool) → IsWithin files inner outer → (users : List ℕ) → AllByRecursion (λ file. file < files) users
    → IsTrue (list_any inner users) → IsTrue (list_any outer users)
any_grows files inner outer within [] below h = cc h
any_grows files inner outer within (u ∷ us) below h = elim (cases_Bool (inner u)) [
  | inl t ↦ rw (within u below.0 t) refl
  | inr f ↦ elim (cases_Bool (outer u)) [
    | inl s ↦ rw s refl
    | inr n ↦ rw n (any_grows files inner outer within us below.1 (rw f at h))
  ]
]

pub grows : Grows
grows table inner outer t within =
    let each = recursion_from_All (IsClass table.files) table.classes t.each in (
      grows_by_recursion table.files (list_all inner) (list_all outer) (all_grows table.files inner outer within) table.classes each,
      grows_by_recursion table.files (list_any inner) (list_any outer) (any_grows table.files inner outer within) table.classes each,
    )

pub files_alone : DependsOnFiles
files_alone table one other t agrees =
    let there : IsWithin table.files one other = λ file lt h. rw (agrees file lt) at h in
    let back : IsWithin table.files other one = λ file lt h. rw (← agrees file lt) at h in
    let up = grows table one other t there in
    let down = grows table other one t back in
    let m : migrated_of one table ≡ migrated_of other table = omega (arith, up, down) in
    let a : touched_of one table ≡ touched_of other table = omega (arith, up, down) in
    (m, a, omega (arith, m, a, splits table one t, splits table other t))

pub stays_within_total : StaysWithinTotal
stays_within_total table set = sum_by-le-sum_by (counted (list_any set)) (λ (c : Class). c.size) table.classes (counted_le (list_any set))

-- users that are not all as one is are split, whichever that one is
differs_from : (set : ℕ → Bool) (inside : Bool) (users : List ℕ) → list_any (λ file. not (beq (set file) inside)) users ≡ (if inside then not (list_all set users) else list_any set users)
differs_from set true [] = refl
differs_from set false [] = refl
differs_from set true (u ∷ us) = elim (cases_Bool (set u)) [ inl t ↦ rw t (differs_from set true us) | inr f ↦ rw f refl ]
differs_from set false (u ∷ us) = elim (cases_Bool (set u)) [ inl t ↦ rw t refl | inr f ↦ rw f (differs_from set false us) ]

pub split_by_first : (set : ℕ → Bool) (users : List ℕ) (first : ℕ) (inside : Bool) → 0 < length users → first ≡ get_or users 0 first → inside ≡ set first
    → list_any (λ file. not (beq (set file) inside)) users ≡ some_but_not_all set users
split_by_first set [] first inside some is read = absurd (omega arith)
split_by_first set (u ∷ us) first inside some is read = differs_from set inside (u ∷ us) ∙ as_first inside (sym (read ∙ ap set is))
  where
    and_true : (b : Bool) → b ≡ (b && true)
    and_true true = refl
    and_true false = refl

    as_first : (b : Bool) → set u ≡ b → (if b then not (list_all set (u ∷ us)) else list_any set (u ∷ us)) ≡ some_but_not_all set (u ∷ us)
    as_first true t = rw t refl
    as_first false f = rw f (and_true (list_any set us))
