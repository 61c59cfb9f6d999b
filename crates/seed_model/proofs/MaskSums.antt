-- Sums over classes for each mask.
use Rattle.std.specs.Prelude.{◌==◌, not, sum_by, bit_and}
use Rattle.std.proofs.Common.{◌≡◌, ◌∙◌, ◌+◌, ◌-◌, ◌^◌, ◌<◌, ◌≤◌, ◌∷◌, [], ℕ, List, Bool, true, false, refl, ap, arith, inl, inr, length, get_or, w64, min, if◌then◌else◌}
use Rattle.std.specs.Int.{bit_at, bit_not}
use Rattle.std.specs.List.{list_all, list_any, AllByRecursion}
use Rattle.std.proofs.lemmas.Bool.{cases_Bool}
use Rattle.std.proofs.lemmas.List.Elements.{recursion_from_All}
use Rattle.std.proofs.lemmas.List.Sums.{sum_by-cons, sum_by-le-sum_by}
use Rattle.std.proofs.lemmas.Nat.Bits.{bit_at_and, bit_at_not, bit_at_ones}
use Rattle.seed_model.specs.declared.table.Class.{Class}
use Rattle.seed_model.specs.Tables.{TableValue, IsTable, IsClass}
use Rattle.seed_model.specs.Sums.{bytes_where, migrated_of, touched_of, replicated_of, total_of}
use Rattle.seed_model.specs.Masks.{in_mask, mask_of, without, AddsSubsets, HasMigrated}
use Rattle.seed_model.specs.declared.range.Range.{Range}
use Rattle.seed_model.specs.Ranges.{InRange}
use Rattle.std.proofs.lemmas.Nat.{and_le_l, pow_pos}
use Rattle.seed_model.proofs.ExactSums.{few_masks}
use Rattle.seed_model.specs.declared.limits.TheConstants.{MOST_BYTES, MOST_TRIED_FILES}
use Rattle.seed_model.proofs.SubsetSums.{without_lt}
use Rattle.seed_model.proofs.ClassSums.{counted, splits}
use Rattle.seed_model.proofs.MaskBits.{fits, fits-absent, fits-used, fits-unused, misfits-unused, misfits-used, fits-zero, fits-all, in_mask-from, in_mask-none, bit_cases}

-- the bytes of the classes whose masks fit
abbrev pub fit_bytes : ℕ → ℕ → List Class → ℕ
fit_bytes b k classes = bytes_where (λ users. fits b k (mask_of users)) classes

-- what one class counts for there
abbrev pub fit_size : ℕ → ℕ → Class → ℕ
fit_size b k c = if fits b k (mask_of c.users) then c.size else 0

sum_same : (f g : Class → ℕ) → ((c : Class) → f c ≡ g c) → (classes : List Class) → sum_by f classes ≡ sum_by g classes
sum_same f g same [] = refl
sum_same f g same (c ∷ classes) =
    let step : f c + sum_by f classes ≡ g c + sum_by g classes = omega (arith, same c, sum_same f g same classes) in
    rw (sum_by-cons f c classes, sum_by-cons g c classes) step

sum_both : (f g h : Class → ℕ) → ((c : Class) → f c ≡ g c + h c) → (classes : List Class) → sum_by f classes ≡ sum_by g classes + sum_by h classes
sum_both f g h same [] = refl
sum_both f g h same (c ∷ classes) =
    let step : f c + sum_by f classes ≡ (g c + sum_by g classes) + (h c + sum_by h classes) = omega (arith, same c, sum_both f g h same classes) in
    rw (sum_by-cons f c classes, sum_by-cons g c classes, sum_by-cons h c classes) step

-- one class, at a mask with the file
size_splits : (b k : ℕ) → k < 2 ^ 64 → b < 64 → in_mask k b ≡ true → (c : Class) → fit_size (b + 1) k c ≡ fit_size b k c + fit_size b (without k b) c
size_splits b k small lt present c = elim (cases_Bool (in_mask (mask_of c.users) b)) [
  | inl used ↦ rw (fits-used b k (mask_of c.users) present used, misfits-used b k (mask_of c.users) lt used) (omega arith)
  | inr unused ↦ rw (fits-unused b k (mask_of c.users) small lt unused, misfits-unused b k (mask_of c.users) present unused) (omega arith)
]

-- one file more is free
pub fit_bytes-step : (b k : ℕ) (classes : List Class) → k < 2 ^ 64 → b < 64
    → fit_bytes (b + 1) k classes ≡ fit_bytes b k classes + (if in_mask k b then fit_bytes b (without k b) classes else 0)
fit_bytes-step b k classes small lt = elim (cases_Bool (in_mask k b)) [
  | inl present ↦ rw present (sum_both (fit_size (b + 1) k) (fit_size b k) (fit_size b (without k b)) (size_splits b k small lt present) classes)
  | inr absent ↦
      let same : fit_bytes (b + 1) k classes ≡ fit_bytes b k classes
      = sum_same (fit_size (b + 1) k) (fit_size b k) (λ c. ap (λ (t : Bool). if t then c.size else 0) (fits-absent b k (mask_of c.users) absent)) classes in
      rw absent (omega (arith, same))
]

-- no file is free
pub fit_bytes-zero : (k : ℕ) (classes : List Class) → fit_bytes 0 k classes ≡ bytes_where (λ users. mask_of users == k) classes
fit_bytes-zero k classes = sum_same (fit_size 0 k) (counted (λ users. mask_of users == k))
    (λ c. ap (λ (t : Bool). if t then c.size else 0) (fits-zero k (mask_of c.users))) classes

-- every file is free
pub fit_bytes-all : (n k : ℕ) (classes : List Class) → k < 2 ^ n → AllByRecursion (IsClass n) classes → fit_bytes n k classes ≡ bytes_where (list_all (in_mask k)) classes
fit_bytes-all n k [] small each = refl
fit_bytes-all n k (c ∷ classes) small each =
    let here : fit_size n k c ≡ counted (list_all (in_mask k)) c
    = ap (λ (t : Bool). if t then c.size else 0) (fits-all n k c.users small (recursion_from_All (λ file. file < n) c.users each.0.below)) in
    let step : fit_size n k c + fit_bytes n k classes ≡ counted (list_all (in_mask k)) c + bytes_where (list_all (in_mask k)) classes
    = omega (arith, here, fit_bytes-all n k classes small each.1) in
    rw (sum_by-cons (fit_size n k) c classes, sum_by-cons (counted (list_all (in_mask k))) c classes) step

-- a part of the classes has at most all bytes
pub bytes-le-total : (test : List ℕ → Bool) (table : TableValue) → bytes_where test table.classes ≤ total_of table
bytes-le-total test table = sum_by-le-sum_by (counted test) (λ (c : Class). c.size) table.classes
    (λ c. elim (test c.users) as (λ b. (if b then c.size else 0) ≤ c.size) [ true ↦ omega arith | false ↦ omega arith ])

-- some user is in the one set where not all are in the other, which has the other files
any_opposite : (n : ℕ) (p q : ℕ → Bool) → ((f : ℕ) → f < n → q f ≡ not (p f)) → (users : List ℕ) → AllByRecursion (λ file. file < n) users
    → list_any p users ≡ not (list_all q users)
any_opposite n p q opposite [] below = refl
any_opposite n p q opposite (u ∷ us) below = elim (cases_Bool (p u)) [
  | inl t ↦ rw (opposite u below.0, t) refl
  | inr f ↦ rw (opposite u below.0, f) (any_opposite n p q opposite us below.1)
]

whole_size : (a b : Bool) (c : Class) → a ≡ not b → c.size ≡ (if a then c.size else 0) + (if b then c.size else 0)
whole_size true true c e = cc e
whole_size true false c e = omega arith
whole_size false true c e = omega arith
whole_size false false c e = cc e

pub opposite_sum : (n : ℕ) (p q : ℕ → Bool) → ((f : ℕ) → f < n → q f ≡ not (p f)) → (classes : List Class) → AllByRecursion (IsClass n) classes
    → sum_by (λ (c : Class). c.size) classes ≡ bytes_where (list_any p) classes + bytes_where (list_all q) classes
opposite_sum n p q opposite [] each = refl
opposite_sum n p q opposite (c ∷ classes) each =
    let here = whole_size (list_any p c.users) (list_all q c.users) c (any_opposite n p q opposite c.users (recursion_from_All (λ file. file < n) c.users each.0.below)) in
    let step : c.size + sum_by (λ (x : Class). x.size) classes
    ≡ (counted (list_any p) c + bytes_where (list_any p) classes) + (counted (list_all q) c + bytes_where (list_all q) classes)
    = omega (arith, here, opposite_sum n p q opposite classes each.1) in
    rw (sum_by-cons (λ (x : Class). x.size) c classes, sum_by-cons (counted (list_any p)) c classes, sum_by-cons (counted (list_all q)) c classes) step

-- every file but those of the mask
abbrev pub others : ℕ → ℕ → ℕ
others n mask = bit_and (2 ^ n - 1) (bit_not w64 mask)

least : (x : ℕ) → min 1 (1 - x) ≡ 1 - x
least x = omega arith

bit_at-others : (n mask f : ℕ) → n ≤ 64 → mask < 2 ^ 64 → f < n → bit_at (others n mask) f ≡ 1 - bit_at mask f
bit_at-others n mask f le small lt =
    let ones : bit_at (2 ^ n - 1) f ≡ 1 = bit_at_ones n f lt in
    let off : bit_at (bit_not w64 mask) f ≡ 1 - bit_at mask f = bit_at_not w64 mask f small (omega arith) in
    bit_at_and (2 ^ n - 1) (bit_not w64 mask) f ∙ (ap (λ (x : ℕ). min x (bit_at (bit_not w64 mask) f)) ones ∙ (ap (min 1) off ∙ least (bit_at mask f)))

in_mask-others : (n mask f : ℕ) → n ≤ 64 → mask < 2 ^ 64 → f < n → in_mask (others n mask) f ≡ not (in_mask mask f)
in_mask-others n mask f le small lt = elim (bit_cases mask f) [
  | inl none ↦
      let one : bit_at (others n mask) f ≡ 1 = bit_at-others n mask f le small lt ∙ ap (λ (x : ℕ). 1 - x) none in
      rw (in_mask-from (others n mask) f one, in_mask-none mask f none) refl
  | inr one ↦
      let none : bit_at (others n mask) f ≡ 0 = bit_at-others n mask f le small lt ∙ ap (λ (x : ℕ). 1 - x) one in
      rw (in_mask-none (others n mask) f none, in_mask-from mask f one) refl
]

-- what a mask touches, and what every other file migrates, are all bytes
pub touched_and_others : (table : TableValue) (mask : ℕ) → IsTable table → table.files ≤ 64 → mask < 2 ^ 64
    → total_of table ≡ touched_of (in_mask mask) table + migrated_of (in_mask (others table.files mask)) table
touched_and_others table mask t le small =
    opposite_sum table.files (in_mask mask) (in_mask (others table.files mask)) (λ f lt. in_mask-others table.files mask f le small lt) table.classes
    (recursion_from_All (IsClass table.files) table.classes t.each)

-- each of the sums keeps to the limit
pub fit_bytes_small : (b k : ℕ) (table : TableValue) → IsTable table → fit_bytes b k table.classes ≤ MOST_BYTES
fit_bytes_small b k table t = omega (arith, bytes-le-total (λ users. fits b k (mask_of users)) table, t.bytes)

pub fit_bytes-migrated : (table : TableValue) (k : ℕ) → IsTable table → k < 2 ^ table.files → fit_bytes table.files k table.classes ≡ migrated_of (in_mask k) table
fit_bytes-migrated table k t small = fit_bytes-all table.files k table.classes small (recursion_from_All (IsClass table.files) table.classes t.each)

-- a pass over the masks by the rule of the sums
pub pass-step : (b n : ℕ) (classes : List Class) (old now : List ℕ) → n ≤ 2 ^ 64 → b < 64 → length old ≡ n → AddsSubsets b old now
    → ((k : ℕ) → k < n → get_or old k 0 ≡ fit_bytes b k classes) → (k : ℕ) → k < n → get_or now k 0 ≡ fit_bytes (b + 1) k classes
pass-step b n classes old now fits_n lt len adds each k below =
    let small : k < 2 ^ 64 = omega arith in
    let rule = fit_bytes-step b k classes small lt in
    let added = adds k (omega arith) in
    let own = each k below in
    elim (cases_Bool (in_mask k b)) [
      | inl present ↦
          let part : get_or old (without k b) 0 ≡ fit_bytes b (without k b) classes = each (without k b) (let less = without_lt k b lt present in omega arith) in
          omega (arith, own, part, rw present at rule, rw present at added)
      | inr absent ↦ omega (arith, own, rw absent at rule, rw absent at added)
    ]

pub others_lt : (n mask : ℕ) → others n mask < 2 ^ n
others_lt n mask = omega (arith, and_le_l (2 ^ n - 1) (bit_not w64 mask), pow_pos n)

-- what a mask migrates, what every other file migrates, and what the mask replicates are all bytes
pub weighed : (table : TableValue) (sums : List ℕ) (mask all : ℕ) → IsTable table → table.files ≤ MOST_TRIED_FILES → HasMigrated table sums → mask < length sums
    → all ≡ 2 ^ table.files - 1
    → get_or sums mask 0 + (get_or sums (bit_and all (bit_not w64 mask)) 0 + replicated_of (in_mask mask) table) ≡ total_of table
weighed table sums mask all t few h lt e =
    let own = h.each mask (omega (arith, lt, h.masks)) in
    let rest = h.each (others table.files mask) (others_lt table.files mask) in
    let at : get_or sums (bit_and all (bit_not w64 mask)) 0 ≡ get_or sums (others table.files mask) 0 = ap (λ (x : ℕ). get_or sums (bit_and x (bit_not w64 mask)) 0) e in
    let small : mask < 2 ^ 64 = omega (arith, lt, h.masks, few_masks table.files few) in
    let whole = touched_and_others table mask t (omega (arith, few)) small in
    omega (arith, own, rest, at, whole, splits table (in_mask mask) t)

-- the bytes of a mask in range
pub mask_in_range : (table : TableValue) (range : Range) (sums : List ℕ) (mask : ℕ) → HasMigrated table sums → mask < length sums
    → range.low ≤ get_or sums mask 0 → get_or sums mask 0 ≤ range.high → InRange table range (in_mask mask)
mask_in_range table range sums mask h lt low high =
    let own = h.each mask (omega (arith, lt, h.masks)) in
    record { enough = omega (arith, own, low); no_more = omega (arith, own, high) }

pub mask_too_low : (table : TableValue) (range : Range) (sums : List ℕ) (mask : ℕ) → HasMigrated table sums → mask < length sums
    → get_or sums mask 0 < range.low → ¬ InRange table range (in_mask mask)
mask_too_low table range sums mask h lt low = λ inside.
    let own = h.each mask (omega (arith, lt, h.masks)) in
    omega (arith, own, low, inside.enough)

pub mask_too_high : (table : TableValue) (range : Range) (sums : List ℕ) (mask : ℕ) → HasMigrated table sums → mask < length sums
    → range.high < get_or sums mask 0 → ¬ InRange table range (in_mask mask)
mask_too_high table range sums mask h lt high = λ inside.
    let own = h.each mask (omega (arith, lt, h.masks)) in
    omega (arith, own, high, inside.no_more)
