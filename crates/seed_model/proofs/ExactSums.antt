-- Sums of the classes by their masks, class by class.
use Rattle.std.specs.Prelude.{◌==◌, All}
use Rattle.std.proofs.Common.{◌≡◌, ◌∙◌, ◌+◌, ◌-◌, ◌*◌, ◌%◌, ◌^◌, ◌<◌, ◌≤◌, ◌∷◌, [], ℕ, zero, suc, List, refl, sym, ap, arith, inl, inr, length, take, drop, ◌++◌, get_or, eq-eqb}
use Rattle.std.proofs.Math.ListN.{set}
use Rattle.std.proofs.lemmas.Nat.{pow_below, one_shl}
use Rattle.std.proofs.lemmas.Bool.{cases_eq, ne_eqb}
use Rattle.std.proofs.lemmas.List.{get_or-set_same, get_or-set_other, take_at}
use Rattle.std.proofs.lemmas.List.Elements.{recursion_from_All}
use Rattle.std.proofs.lemmas.List.Sums.{sum_by_more}
use Rattle.seed_model.specs.declared.limits.TheConstants.{MOST_BYTES, MOST_TRIED_FILES}
use Rattle.seed_model.specs.declared.table.Class.{Class}
use Rattle.seed_model.specs.Tables.{TableValue, IsTable, IsClass}
use Rattle.seed_model.specs.Sums.{bytes_where}
use Rattle.seed_model.specs.Masks.{mask_of}
use Rattle.seed_model.proofs.ClassSums.{counted, more_fits}
use Rattle.seed_model.proofs.MaskBits.{mask_of_lt}

-- a class of the table
pub class_at : (table : TableValue) (classes : List Class) (i : ℕ) (c : Class) → IsTable table → classes ≡ table.classes → i < length classes → c ≡ get_or classes i c
    → IsClass table.files c
class_at table classes i c t same lt e =
    let each : All (IsClass table.files) classes = rw same t.each in
    rw (← e) at (each i c lt)

pub class_mask_lt : (files : ℕ) (c : Class) → IsClass files c → mask_of c.users < 2 ^ files
class_mask_lt files c k = mask_of_lt files c.users (recursion_from_All (λ file. file < files) c.users k.below)

-- the mask of the class gets its size
pub exact-more : (classes : List Class) (i : ℕ) (c : Class) (sums : List ℕ) (n x : ℕ) → i < length classes → c ≡ get_or classes i c
    → mask_of c.users < length sums → x ≡ get_or sums (mask_of c.users) 0
    → ((k : ℕ) → k < n → get_or sums k 0 ≡ bytes_where (λ users. mask_of users == k) (take i classes))
    → (k : ℕ) → k < n → get_or (set sums (mask_of c.users) (x + c.size)) k 0 ≡ bytes_where (λ users. mask_of users == k) (take (i + 1) classes)
exact-more classes i c sums n x lt e inside read each k below =
    let more = sum_by_more (counted (λ users. mask_of users == k)) classes i c lt in
    let grown : bytes_where (λ users. mask_of users == k) (take (i + 1) classes)
    ≡ bytes_where (λ users. mask_of users == k) (take i classes) + counted (λ users. mask_of users == k) c = rw (← e) at more in
    elim (cases_eq k (mask_of c.users)) [
      | inl own ↦
          let gain : counted (λ users. mask_of users == k) c ≡ c.size = rw (eq-eqb (mask_of c.users) k (sym own)) refl in
          let now : get_or (set sums (mask_of c.users) (x + c.size)) k 0 ≡ x + c.size
          = ap (λ (j : ℕ). get_or (set sums (mask_of c.users) (x + c.size)) j 0) own ∙ get_or-set_same sums (mask_of c.users) (x + c.size) 0 inside in
          let was : x ≡ get_or sums k 0 = read ∙ ap (λ (j : ℕ). get_or sums j 0) (sym own) in
          omega (arith, grown, gain, now, was, each k below)
      | inr ne ↦
          let gain : counted (λ users. mask_of users == k) c ≡ 0 = rw (ne_eqb (mask_of c.users) k (λ same. ne (sym same))) refl in
          let now = get_or-set_other sums (mask_of c.users) k (x + c.size) 0 ne in
          omega (arith, grown, gain, now, each k below)
    ]

-- the sum of a mask and the class still fit
pub exact_fits : (table : TableValue) (classes : List Class) (i : ℕ) (c : Class) (sums : List ℕ) (x : ℕ) → IsTable table → classes ≡ table.classes → i < length classes
    → c ≡ get_or classes i c → x ≡ get_or sums (mask_of c.users) 0
    → ((k : ℕ) → k < 2 ^ table.files → get_or sums k 0 ≡ bytes_where (λ users. mask_of users == k) (take i classes)) → x + c.size ≤ MOST_BYTES
exact_fits table classes i c sums x t same lt e read each =
    let small = class_mask_lt table.files c (class_at table classes i c t same lt e) in
    let fits = more_fits (λ users. mask_of users == mask_of c.users) table classes i c t same lt e in
    omega (arith, fits, read, each (mask_of c.users) small)

-- a whole slice that was written
pub written_whole : (n : ℕ) (now old : List ℕ) → length now ≡ n → take n (now ++ drop (length now) old) ≡ now
written_whole n now old e = take_at now (drop (length now) old) n e

pub any_default : (xs : List ℕ) (k d : ℕ) → k < length xs → get_or xs k d ≡ get_or xs k 0
any_default [] k d lt = absurd (omega arith)
any_default (x ∷ xs) zero d lt = refl
any_default (x ∷ xs) (suc k) d lt = any_default xs k d (omega arith)

-- masks of few files fit a word
pub few_masks : (n : ℕ) → n ≤ MOST_TRIED_FILES → 2 ^ n ≤ 2 ^ 64
few_masks n few =
    let lt : 2 ^ n < 2 ^ 64 = pow_below n 64 (omega arith) in
    omega (arith, lt)

-- the mask of every file, as it is computed
pub every_file : (n files : ℕ) → n ≡ files → files ≤ MOST_TRIED_FILES → 1 * 2 ^ n % 2 ^ 64 - 1 ≡ 2 ^ files - 1
every_file n files e few =
    let shifted : 1 * 2 ^ n % 2 ^ 64 ≡ 2 ^ n = one_shl n 64 (omega (arith, e, few)) in
    ap (λ (x : ℕ). x - 1) (shifted ∙ ap (λ (x : ℕ). 2 ^ x) e)
