-- Bits of masks, and which masks are summed on the way from exact masks to subsets.
use Rattle.std.specs.Prelude.{◌==◌, ◌&&◌, bit_and, bit_or, fold}
use Rattle.std.proofs.Common.{◌≡◌, ◌≢◌, ◌∙◌, ◌+◌, ◌-◌, ◌*◌, ◌/◌, ◌%◌, ◌^◌, ◌<◌, ◌≤◌, ◌∷◌, [], ℕ, List, Bool, true, false, refl, sym, ap, arith, inl, inr, ◌⊎◌, min, max, w64, eq-eqb}
use Rattle.std.specs.Int.{bit_at, bit_not}
use Rattle.std.specs.List.{list_all, list_any, AllByRecursion}
use Rattle.std.proofs.lemmas.Bool.{cases_Bool, eqb-true, eqb-false, and_parts, and_from, cases_lt, cases_eq, false_from_ne_true}
use Rattle.std.proofs.lemmas.Nat.{shr-shr, and_le_l, or_lt, pow_below, pow_pos}
use Rattle.std.proofs.lemmas.Nat.Bits.{bit_at-lt, bit_at-zero, bit_at_and, bit_at_or, bit_at-pow_same, bit_at-pow_other, bit_at_clear_same, bit_at_clear_other, bit_at_above, same_from_bits}
use Rattle.seed_model.specs.Masks.{in_mask, mask_of, without}

-- tests with the same answers are equal
pub same_test : (a b : Bool) → (a ≡ true → b ≡ true) → (b ≡ true → a ≡ true) → a ≡ b
same_test true true there back = refl
same_test true false there back = sym (there refl)
same_test false true there back = back refl
same_test false false there back = refl

below_two : (x : ℕ) → x < 2 → (x ≡ 0) ⊎ (x ≡ 1)
below_two x lt = elim (cases_lt x 1) [ inl none ↦ inl (omega arith) | inr one ↦ inr (omega arith) ]

pub bit_cases : (n f : ℕ) → (bit_at n f ≡ 0) ⊎ (bit_at n f ≡ 1)
bit_cases n f = below_two (bit_at n f) (bit_at-lt n f)

pub in_mask-true : (n f : ℕ) → in_mask n f ≡ true → bit_at n f ≡ 1
in_mask-true n f h = eqb-true (bit_at n f) 1 h

pub in_mask-false : (n f : ℕ) → in_mask n f ≡ false → bit_at n f ≡ 0
in_mask-false n f h = elim (bit_cases n f) [ inl none ↦ none | inr one ↦ absurd (eqb-false (bit_at n f) 1 h one) ]

pub in_mask-from : (n f : ℕ) → bit_at n f ≡ 1 → in_mask n f ≡ true
in_mask-from n f h = eq-eqb (bit_at n f) 1 h

pub in_mask-none : (n f : ℕ) → bit_at n f ≡ 0 → in_mask n f ≡ false
in_mask-none n f h = rw h refl

bit_high : (n b i : ℕ) → bit_at n (b + i) ≡ bit_at (n / 2 ^ b) i
bit_high n b i = ap (λ (x : ℕ). x % 2) (sym (shr-shr n b i))

pub without_same : (k b : ℕ) → b < 64 → bit_at (without k b) b ≡ 0
without_same k b lt = bit_at_clear_same w64 k b lt

under : (x k : ℕ) → x ≤ k → k < 2 ^ 64 → x < 2 ^ 64
under x k le lt = omega arith

pub without_other : (k b i : ℕ) → k < 2 ^ 64 → b < 64 → i ≢ b → bit_at (without k b) i ≡ bit_at k i
without_other k b i small lt ne = elim (cases_lt i 64) [
  | inl in_word ↦ bit_at_clear_other w64 k b lt i in_word ne
  | inr above ↦
      let part : without k b ≤ k = and_le_l k (bit_not w64 (1 * 2 ^ b % 2 ^ 64)) in
      let less : without k b < 2 ^ 64 = under (without k b) k part small in
      bit_at_above (without k b) 64 i less above ∙ sym (bit_at_above k 64 i small above)
]

-- whether a mask lies in k and has the bits of k from b on
abbrev pub fits : ℕ → ℕ → ℕ → Bool
fits b k m = (m / 2 ^ b == k / 2 ^ b) && (bit_and m k == m)

-- the same, bit by bit
pub record FitsBits (b k m : ℕ) : Type 0 where
  pub low : (f : ℕ) → f < b → bit_at m f ≤ bit_at k f
  pub high : (f : ℕ) → b ≤ f → bit_at m f ≡ bit_at k f

min_le : (x y : ℕ) → x ≡ min x y → x ≤ y
min_le x y e = omega arith

min_left : (x y : ℕ) → x ≤ y → min x y ≡ x
min_left x y le = omega arith

at_most : (x y : ℕ) → x ≡ y → x ≤ y
at_most x y e = omega arith

pub fits_bits : (b k m : ℕ) → fits b k m ≡ true → FitsBits b k m
fits_bits b k m h =
    let parts = and_parts (m / 2 ^ b == k / 2 ^ b) (bit_and m k == m) h in
    let tops : m / 2 ^ b ≡ k / 2 ^ b = eqb-true (m / 2 ^ b) (k / 2 ^ b) parts.0 in
    let lies : bit_and m k ≡ m = eqb-true (bit_and m k) m parts.1 in
    record {
      low = λ f lt. min_le (bit_at m f) (bit_at k f) (sym (ap (λ (n : ℕ). bit_at n f) lies) ∙ bit_at_and m k f);
      high = λ f le.
          let at : b + (f - b) ≡ f = omega arith in
          let high : bit_at m (b + (f - b)) ≡ bit_at k (b + (f - b)) = bit_high m b (f - b) ∙ (ap (λ (n : ℕ). bit_at n (f - b)) tops ∙ sym (bit_high k b (f - b))) in
          ap (bit_at m) (sym at) ∙ (high ∙ ap (bit_at k) at);
    }

pub bits_fit : (b k m : ℕ) → FitsBits b k m → fits b k m ≡ true
bits_fit b k m h =
    and_from _ _
    (eq-eqb (m / 2 ^ b) (k / 2 ^ b) (same_from_bits (m / 2 ^ b) (k / 2 ^ b) (λ i. sym (bit_high m b i) ∙ (h.high (b + i) (omega arith) ∙ bit_high k b i))))
    (eq-eqb (bit_and m k) m (same_from_bits (bit_and m k) m (λ i. bit_at_and m k i ∙ elim (cases_lt i b) [
      | inl lt ↦ min_left (bit_at m i) (bit_at k i) (h.low i lt)
      | inr le ↦ min_left (bit_at m i) (bit_at k i) (at_most (bit_at m i) (bit_at k i) (h.high i le))
    ])))

-- one bit more is free, and it is the same in both
fits-same : (b k m : ℕ) → (bit_at m b ≤ bit_at k b → bit_at m b ≡ bit_at k b) → fits (b + 1) k m ≡ fits b k m
fits-same b k m same =
    same_test (fits (b + 1) k m) (fits b k m)
    (λ h. let bits = fits_bits (b + 1) k m h in bits_fit b k m (record {
      low = λ f lt. bits.low f (omega arith);
      high = λ f le. elim (cases_eq f b) [
        | inl e ↦ ap (bit_at m) e ∙ (same (bits.low b (omega arith)) ∙ sym (ap (bit_at k) e))
        | inr ne ↦ bits.high f (omega arith)
      ];
    }))
    (λ h. let bits = fits_bits b k m h in bits_fit (b + 1) k m (record {
      low = λ f lt. elim (cases_lt f b) [ inl below ↦ bits.low f below | inr above ↦ at_most (bit_at m f) (bit_at k f) (bits.high f above) ];
      high = λ f le. bits.high f (omega arith);
    }))

none_le : (x y : ℕ) → y ≡ 0 → x ≤ y → x ≡ y
none_le x y e le = omega arith

both : (x y z : ℕ) → x ≡ z → y ≡ z → x ≡ y
both x y z p q = p ∙ sym q

-- a mask without the file: one bit more changes nothing
pub fits-absent : (b k m : ℕ) → in_mask k b ≡ false → fits (b + 1) k m ≡ fits b k m
fits-absent b k m absent = fits-same b k m (none_le (bit_at m b) (bit_at k b) (in_mask-false k b absent))

-- a mask with the file, and users with it
pub fits-used : (b k m : ℕ) → in_mask k b ≡ true → in_mask m b ≡ true → fits (b + 1) k m ≡ fits b k m
fits-used b k m present used = fits-same b k m (λ le. both (bit_at m b) (bit_at k b) 1 (in_mask-true m b used) (in_mask-true k b present))

none_below : (x y : ℕ) → x ≡ 0 → x ≤ y
none_below x y e = omega arith

along : (x y z : ℕ) → y ≡ z → x ≤ y → x ≤ z
along x y z e le = omega arith

-- a mask with the file, and users without it
pub fits-unused : (b k m : ℕ) → k < 2 ^ 64 → b < 64 → in_mask m b ≡ false → fits (b + 1) k m ≡ fits b (without k b) m
fits-unused b k m small lt unused =
    same_test (fits (b + 1) k m) (fits b (without k b) m)
    (λ h. let bits = fits_bits (b + 1) k m h in bits_fit b (without k b) m (record {
      low = λ f below. along (bit_at m f) (bit_at k f) (bit_at (without k b) f) (sym (without_other k b f small lt (omega arith))) (bits.low f (omega arith));
      high = λ f le. elim (cases_eq f b) [
        | inl e ↦ ap (bit_at m) e ∙ (in_mask-false m b unused ∙ (sym (without_same k b lt) ∙ sym (ap (bit_at (without k b)) e)))
        | inr ne ↦ bits.high f (omega arith) ∙ sym (without_other k b f small lt ne)
      ];
    }))
    (λ h. let bits = fits_bits b (without k b) m h in bits_fit (b + 1) k m (record {
      low = λ f below. elim (cases_eq f b) [
        | inl e ↦ none_below (bit_at m f) (bit_at k f) (ap (bit_at m) e ∙ in_mask-false m b unused)
        | inr ne ↦ along (bit_at m f) (bit_at (without k b) f) (bit_at k f) (without_other k b f small lt ne) (bits.low f (omega arith))
      ];
      high = λ f le. bits.high f (omega arith) ∙ without_other k b f small lt (omega arith);
    }))

-- users without the file do not fit a mask with it
pub misfits-unused : (b k m : ℕ) → in_mask k b ≡ true → in_mask m b ≡ false → fits b k m ≡ false
misfits-unused b k m present unused = false_from_ne_true (fits b k m) (λ h.
    let e = (fits_bits b k m h).high b (omega arith) in
    let none : ◌≡◌ {A = ℕ} 0 1 = sym (in_mask-false m b unused) ∙ (e ∙ in_mask-true k b present) in
    omega (arith, none))

-- users with the file do not fit a mask without it
pub misfits-used : (b k m : ℕ) → b < 64 → in_mask m b ≡ true → fits b (without k b) m ≡ false
misfits-used b k m lt used = false_from_ne_true (fits b (without k b) m) (λ h.
    let e = (fits_bits b (without k b) m h).high b (omega arith) in
    let none : ◌≡◌ {A = ℕ} 0 1 = sym (without_same k b lt) ∙ (sym e ∙ in_mask-true m b used) in
    omega (arith, none))

-- with no bit free, a mask fits itself alone
pub fits-zero : (k m : ℕ) → fits 0 k m ≡ (m == k)
fits-zero k m = same_test (fits 0 k m) (m == k)
    (λ h. eq-eqb m k (same_from_bits m k (λ i. (fits_bits 0 k m h).high i (omega arith))))
    (λ h. bits_fit 0 k m (record { low = λ f lt. absurd (omega arith); high = λ f le. ap (λ (n : ℕ). bit_at n f) (eqb-true m k h) }))

max_one : (x y : ℕ) → x ≡ 1 → y < 2 → max x y ≡ 1
max_one x y e lt = omega arith

one_max : (x y : ℕ) → x < 2 → y ≡ 1 → max x y ≡ 1
one_max x y lt e = omega arith

max_none : (x y : ℕ) → y ≡ 0 → max x y ≡ 1 → x ≡ 1
max_none x y e h = omega arith

-- a bit that is set stays
bit_stays : (a : ℕ) (files : List ℕ) (f : ℕ) → bit_at a f ≡ 1 → bit_at (fold (λ mask file. bit_or mask (2 ^ file)) a files) f ≡ 1
bit_stays a [] f h = h
bit_stays a (u ∷ us) f h = bit_stays (bit_or a (2 ^ u)) us f (bit_at_or a (2 ^ u) f ∙ max_one (bit_at a f) (bit_at (2 ^ u) f) h (bit_at-lt (2 ^ u) f))

-- each of the files has its bit
bit_given : (a : ℕ) (files : List ℕ) (f : ℕ) → list_any (λ u. u == f) files ≡ true → bit_at (fold (λ mask file. bit_or mask (2 ^ file)) a files) f ≡ 1
bit_given a [] f h = cc h
bit_given a (u ∷ us) f h = elim (cases_Bool (u == f)) [
  | inl t ↦
      let own : bit_at (2 ^ u) f ≡ 1 = ap (bit_at (2 ^ u)) (sym (eqb-true u f t)) ∙ bit_at-pow_same u in
      bit_stays (bit_or a (2 ^ u)) us f (bit_at_or a (2 ^ u) f ∙ one_max (bit_at a f) (bit_at (2 ^ u) f) (bit_at-lt a f) own)
  | inr e ↦ bit_given (bit_or a (2 ^ u)) us f (rw e at h)
]

-- a bit comes from one of the files
bit_from : (a : ℕ) (files : List ℕ) (f : ℕ) → bit_at (fold (λ mask file. bit_or mask (2 ^ file)) a files) f ≡ 1
    → (bit_at a f ≡ 1) ⊎ (list_any (λ u. u == f) files ≡ true)
bit_from a [] f h = inl h
bit_from a (u ∷ us) f h = elim (bit_from (bit_or a (2 ^ u)) us f h) [
  | inl set ↦ elim (cases_eq f u) [
    | inl e ↦ inr (rw (eq-eqb u f (sym e)) refl)
    | inr ne ↦ inl (max_none (bit_at a f) (bit_at (2 ^ u) f) (bit_at-pow_other u f ne) (sym (bit_at_or a (2 ^ u) f) ∙ set))
  ]
  | inr later ↦ elim (cases_Bool (u == f)) [ inl t ↦ inr (rw t refl) | inr e ↦ inr (rw e later) ]
]

-- the mask of files below n is below 2 ^ n
mask_lt : (n a : ℕ) (files : List ℕ) → AllByRecursion (λ file. file < n) files → a < 2 ^ n → fold (λ mask file. bit_or mask (2 ^ file)) a files < 2 ^ n
mask_lt n a [] below lt = lt
mask_lt n a (u ∷ us) below lt = mask_lt n (bit_or a (2 ^ u)) us below.1 (or_lt n a (2 ^ u) lt (pow_below u n below.0))

pub mask_of_lt : (n : ℕ) (files : List ℕ) → AllByRecursion (λ file. file < n) files → mask_of files < 2 ^ n
mask_of_lt n files below = mask_lt n 0 files below (pow_pos n)

-- what passes at each of the files
all_pass : (p : ℕ → Bool) (files : List ℕ) → ((f : ℕ) → list_any (λ u. u == f) files ≡ true → p f ≡ true) → list_all p files ≡ true
all_pass p [] each = refl
all_pass p (u ∷ us) each =
    let here : p u ≡ true = each u (rw (eq-eqb u u refl) refl) in
    rw here (all_pass p us (λ f h. each f (elim (cases_Bool (u == f)) [ inl t ↦ rw t refl | inr e ↦ rw e h ])))

passes_at : (p : ℕ → Bool) (files : List ℕ) (f : ℕ) → list_all p files ≡ true → list_any (λ u. u == f) files ≡ true → p f ≡ true
passes_at p [] f all any = cc any
passes_at p (u ∷ us) f all any =
    let parts = and_parts (p u) (list_all p us) all in
    elim (cases_Bool (u == f)) [
      | inl t ↦ ap p (sym (eqb-true u f t)) ∙ parts.0
      | inr e ↦ passes_at p us f parts.1 (rw e at any)
    ]

one_within : (x y : ℕ) → x ≡ 1 → y < 2 → x ≤ y → y ≡ 1
one_within x y e lt le = omega arith

-- with every bit free, a mask fits where all its files are in the set
pub fits-all : (n k : ℕ) (files : List ℕ) → k < 2 ^ n → AllByRecursion (λ file. file < n) files → fits n k (mask_of files) ≡ list_all (in_mask k) files
fits-all n k files small below = same_test (fits n k (mask_of files)) (list_all (in_mask k) files)
    (λ h. let bits = fits_bits n k (mask_of files) h in all_pass (in_mask k) files (λ f any.
    let set : bit_at (mask_of files) f ≡ 1 = bit_given 0 files f any in
    in_mask-from k f (elim (cases_lt f n) [
      | inl lt ↦ one_within (bit_at (mask_of files) f) (bit_at k f) set (bit_at-lt k f) (bits.low f lt)
      | inr le ↦ sym (bits.high f le) ∙ set
    ])))
    (λ h. bits_fit n k (mask_of files) (record {
      low = λ f lt. elim (bit_cases (mask_of files) f) [
        | inl none ↦ none_below (bit_at (mask_of files) f) (bit_at k f) none
        | inr one ↦ elim (bit_from 0 files f one) [
          | inl zero ↦ absurd (let e : ◌≡◌ {A = ℕ} 0 1 = sym (bit_at-zero f) ∙ zero in omega (arith, e))
          | inr any ↦ at_most (bit_at (mask_of files) f) (bit_at k f) (both (bit_at (mask_of files) f) (bit_at k f) 1 one (in_mask-true k f (passes_at (in_mask k) files f h any)))
        ]
      ];
      high = λ f le. bit_at_above (mask_of files) n f (mask_of_lt n files below) le ∙ sym (bit_at_above k n f small le);
    }))
