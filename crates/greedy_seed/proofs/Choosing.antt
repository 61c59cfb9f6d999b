-- The best candidate of a turn and of a round, file by file.
use Rattle.std.specs.Prelude.{nat_lt, Option, Some, None, IfSome, IfNone}
use Rattle.std.proofs.Common.{◌≡◌, ℕ, ◌+◌, ◌<◌, ◌≤◌, List, Bool, true, false, subst, arith, inl, inr, ◌⊎◌}
use Rattle.std.proofs.lemmas.Bool.{cases_Bool, cases_eq}
use Rattle.std.proofs.lemmas.Bool.Decides.{nat_tests}
use Rattle.seed_model.specs.declared.node.Node.{Node}
use Rattle.seed_model.specs.declared.range.Range.{Range}
use Rattle.seed_model.specs.Tables.{TableValue}
use Rattle.greedy_seed.specs.declared.choice.Candidate.{Candidate}
use Rattle.greedy_seed.specs.Greedy.{MayAdd, AddsNext, MayFlip, FlipsNext, added, flipped, migrates, replicates}
use Rattle.greedy_seed.specs.Inside.{IsAddition, IsFlip, is_better, better, lighter}

-- the best of the files below n that may be added
pub record IsBest (table : TableValue) (range : Range) (pins : Node) (flags : List Bool) (n : ℕ) (c : Candidate) : Type 0 where
  pub below : c.file < n
  pub is : IsAddition table range pins flags c
  pub least : (j : ℕ) → j < n → MayAdd table range pins flags j → c.replicated ≤ replicates table (added flags j)
  pub most : (j : ℕ) → j < n → MayAdd table range pins flags j → replicates table (added flags j) ≡ c.replicated → migrates table (added flags j) ≤ c.migrated
  pub first : (j : ℕ) → j < n → MayAdd table range pins flags j → replicates table (added flags j) ≡ c.replicated → migrates table (added flags j) ≡ c.migrated → c.file ≤ j

-- what is kept after the files below n
abbrev pub KeepsBest : TableValue → Range → Node → List Bool → ℕ → Option Candidate → Type 0
KeepsBest table range pins flags n None = (j : ℕ) → j < n → ¬ MayAdd table range pins flags j
KeepsBest table range pins flags n (Some c) = IsBest table range pins flags n c

pub none_yet : (table : TableValue) (range : Range) (pins : Node) (flags : List Bool) → KeepsBest table range pins flags 0 None
none_yet table range pins flags j lt = absurd (omega arith)

-- a file that may not be added
pub keeps_skip : (table : TableValue) (range : Range) (pins : Node) (flags : List Bool) (n : ℕ) (best : Option Candidate) → ¬ MayAdd table range pins flags n
    → KeepsBest table range pins flags n best → KeepsBest table range pins flags (n + 1) best
keeps_skip table range pins flags n None out h = λ j lt. elim (cases_eq j n) [ inl e ↦ rw e out | inr ne ↦ h j (omega arith) ]
keeps_skip table range pins flags n (Some c) out h = record {
  below = omega (arith, h.below);
  is = h.is;
  least = λ j lt may. elim (cases_eq j n) [ inl e ↦ absurd (out (rw e at may)) | inr ne ↦ h.least j (omega arith) may ];
  most = λ j lt may same. elim (cases_eq j n) [ inl e ↦ absurd (out (rw e at may)) | inr ne ↦ h.most j (omega arith) may same ];
  first = λ j lt may same full. elim (cases_eq j n) [ inl e ↦ absurd (out (rw e at may)) | inr ne ↦ h.first j (omega arith) may same full ];
}

-- what the test says
better_says : (a b : Candidate) → is_better a b ≡ true → (a.replicated < b.replicated) ⊎ ((a.replicated ≡ b.replicated) × (b.migrated < a.migrated))
better_says a b h = grind (arith, nat_tests)

not_better_says : (a b : Candidate) → is_better a b ≡ false → (b.replicated < a.replicated) ⊎ ((b.replicated ≡ a.replicated) × (a.migrated ≤ b.migrated))
not_better_says a b h = grind (arith, nat_tests)

-- the next file is the best so far
takes_next : (table : TableValue) (range : Range) (pins : Node) (flags : List Bool) (n : ℕ) (c : Candidate) → c.file ≡ n → IsAddition table range pins flags c
    → ((j : ℕ) → j < n → MayAdd table range pins flags j
    → (c.replicated < replicates table (added flags j)) ⊎ ((c.replicated ≡ replicates table (added flags j)) × (migrates table (added flags j) < c.migrated)))
    → IsBest table range pins flags (n + 1) c
takes_next table range pins flags n c at is before =
    let P : ℕ → Type 0 = λ m. IsAddition table range pins flags (record c { file = m }) in
    let own : IsAddition table range pins flags (record c { file = n }) = subst P at is in
    record {
      below = omega (arith, at);
      is = is;
      least = λ j lt may. elim (cases_eq j n) [
        | inl e ↦ rw e (omega (arith, own.replicated))
        | inr ne ↦ elim (before j (omega arith) may) [ inl less ↦ omega (arith, less) | inr same ↦ omega (arith, same.0) ]
      ];
      most = λ j lt may same. elim (cases_eq j n) [
        | inl e ↦ rw e (omega (arith, own.migrated))
        | inr ne ↦ elim (before j (omega arith) may) [ inl less ↦ absurd (omega (arith, less, same)) | inr more ↦ omega (arith, more.1) ]
      ];
      first = λ j lt may same full. elim (cases_eq j n) [
        | inl e ↦ omega (arith, e, at)
        | inr ne ↦ elim (before j (omega arith) may) [ inl less ↦ absurd (omega (arith, less, same)) | inr more ↦ absurd (omega (arith, more.1, full)) ]
      ];
    }

-- the best so far stays so
keeps_best : (table : TableValue) (range : Range) (pins : Node) (flags : List Bool) (n : ℕ) (k c : Candidate) → c.file ≡ n → IsAddition table range pins flags c
    → (k.replicated < c.replicated) ⊎ ((k.replicated ≡ c.replicated) × (c.migrated ≤ k.migrated)) → IsBest table range pins flags n k → IsBest table range pins flags (n + 1) k
keeps_best table range pins flags n k c at is worse h =
    let P : ℕ → Type 0 = λ m. IsAddition table range pins flags (record c { file = m }) in
    let own : IsAddition table range pins flags (record c { file = n }) = subst P at is in
    record {
      below = omega (arith, h.below);
      is = h.is;
      least = λ j lt may. elim (cases_eq j n) [
        | inl e ↦ rw e (elim worse [ inl less ↦ omega (arith, less, own.replicated) | inr same ↦ omega (arith, same.0, own.replicated) ])
        | inr ne ↦ h.least j (omega arith) may
      ];
      most = λ j lt may same. elim (cases_eq j n) [
        | inl e ↦ elim worse [
          | inl less ↦ absurd (omega (arith, less, own.replicated, rw e at same))
          | inr more ↦ rw e (omega (arith, more.1, own.migrated))
        ]
        | inr ne ↦ h.most j (omega arith) may same
      ];
      first = λ j lt may same full. elim (cases_eq j n) [ inl e ↦ omega (arith, e, h.below) | inr ne ↦ h.first j (omega arith) may same full ];
    }

-- what the best so far leaves to a better one
beats : (table : TableValue) (range : Range) (pins : Node) (flags : List Bool) (n : ℕ) (k c : Candidate) → (c.replicated < k.replicated) ⊎ ((c.replicated ≡ k.replicated) × (k.migrated < c.migrated))
    → IsBest table range pins flags n k → (j : ℕ) → j < n → MayAdd table range pins flags j
    → (c.replicated < replicates table (added flags j)) ⊎ ((c.replicated ≡ replicates table (added flags j)) × (migrates table (added flags j) < c.migrated))
beats table range pins flags n k c better h j lt may =
    let least = h.least j lt may in
    elim better [
      | inl less ↦ inl (omega (arith, less, least))
      | inr more ↦ elim (cases_eq (replicates table (added flags j)) k.replicated) [
        | inl same ↦ inr (omega (arith, more.0, same), omega (arith, more.1, h.most j lt may same))
        | inr apart ↦ inl (omega (arith, more.0, least, apart))
      ]
    ]

pub keeps_next : (table : TableValue) (range : Range) (pins : Node) (flags : List Bool) (n : ℕ) (best next : Option Candidate)
    → IfSome next (λ c. (c.file ≡ n) × IsAddition table range pins flags c) → IfNone next (¬ MayAdd table range pins flags n)
    → KeepsBest table range pins flags n best → KeepsBest table range pins flags (n + 1) (better best next)
keeps_next table range pins flags n None None may none h = keeps_skip table range pins flags n None none h
keeps_next table range pins flags n (Some k) None may none h = keeps_skip table range pins flags n (Some k) none h
keeps_next table range pins flags n None (Some c) may none h = takes_next table range pins flags n c may.0 may.1 (λ j lt can. absurd (h j lt can))
keeps_next table range pins flags n (Some k) (Some c) may none h = elim (cases_Bool (is_better c k)) [
  | inl t ↦ rw t (takes_next table range pins flags n c may.0 may.1 (beats table range pins flags n k c (better_says c k t) h))
  | inr f ↦ rw f (keeps_best table range pins flags n k c may.0 may.1 (not_better_says c k f) h)
]

-- after all files
pub kept_found : (table : TableValue) (range : Range) (pins : Node) (flags : List Bool) (n : ℕ) (best : Option Candidate) (c : Candidate) → n ≡ table.files → best ≡ Some c
    → KeepsBest table range pins flags n best → AddsNext table range pins flags c.file
kept_found table range pins flags n best c all is kept =
    let P : Option Candidate → Type 0 = λ o. KeepsBest table range pins flags n o in
    let h : IsBest table range pins flags n c = subst P is kept in
    record {
      may = h.is.may;
      least = λ j may. omega (arith, h.is.replicated, h.least j (omega (arith, may.within, all)) may);
      most = λ j may same. omega (arith, h.is.migrated, h.most j (omega (arith, may.within, all)) may (omega (arith, same, h.is.replicated)));
      first = λ j may same full. h.first j (omega (arith, may.within, all)) may (omega (arith, same, h.is.replicated)) (omega (arith, full, h.is.migrated));
    }

pub kept_none : (table : TableValue) (range : Range) (pins : Node) (flags : List Bool) (n : ℕ) (best : Option Candidate) → n ≡ table.files → best ≡ None
    → KeepsBest table range pins flags n best → (file : ℕ) → ¬ MayAdd table range pins flags file
kept_none table range pins flags n best all is kept file may =
    let P : Option Candidate → Type 0 = λ o. KeepsBest table range pins flags n o in
    let h : (j : ℕ) → j < n → ¬ MayAdd table range pins flags j = subst P is kept in
    h file (omega (arith, may.within, all)) may

-- the best of the files below n that may be flipped
pub record IsLightest (table : TableValue) (range : Range) (pins : Node) (flags : List Bool) (n : ℕ) (c : Candidate) : Type 0 where
  pub below : c.file < n
  pub is : IsFlip table range pins flags c
  pub least : (j : ℕ) → j < n → MayFlip table range pins flags j → c.replicated ≤ replicates table (flipped flags j)
  pub first : (j : ℕ) → j < n → MayFlip table range pins flags j → replicates table (flipped flags j) ≡ c.replicated → c.file ≤ j

abbrev pub KeepsLightest : TableValue → Range → Node → List Bool → ℕ → Option Candidate → Type 0
KeepsLightest table range pins flags n None = (j : ℕ) → j < n → ¬ MayFlip table range pins flags j
KeepsLightest table range pins flags n (Some c) = IsLightest table range pins flags n c

pub no_flip_yet : (table : TableValue) (range : Range) (pins : Node) (flags : List Bool) → KeepsLightest table range pins flags 0 None
no_flip_yet table range pins flags j lt = absurd (omega arith)

pub flip_skip : (table : TableValue) (range : Range) (pins : Node) (flags : List Bool) (n : ℕ) (best : Option Candidate) → ¬ MayFlip table range pins flags n
    → KeepsLightest table range pins flags n best → KeepsLightest table range pins flags (n + 1) best
flip_skip table range pins flags n None out h = λ j lt. elim (cases_eq j n) [ inl e ↦ rw e out | inr ne ↦ h j (omega arith) ]
flip_skip table range pins flags n (Some c) out h = record {
  below = omega (arith, h.below);
  is = h.is;
  least = λ j lt may. elim (cases_eq j n) [ inl e ↦ absurd (out (rw e at may)) | inr ne ↦ h.least j (omega arith) may ];
  first = λ j lt may same. elim (cases_eq j n) [ inl e ↦ absurd (out (rw e at may)) | inr ne ↦ h.first j (omega arith) may same ];
}

flip_takes : (table : TableValue) (range : Range) (pins : Node) (flags : List Bool) (n : ℕ) (c : Candidate) → c.file ≡ n → IsFlip table range pins flags c
    → ((j : ℕ) → j < n → MayFlip table range pins flags j → c.replicated < replicates table (flipped flags j)) → IsLightest table range pins flags (n + 1) c
flip_takes table range pins flags n c at is before =
    let P : ℕ → Type 0 = λ m. IsFlip table range pins flags (record c { file = m }) in
    let own : IsFlip table range pins flags (record c { file = n }) = subst P at is in
    record {
      below = omega (arith, at);
      is = is;
      least = λ j lt may. elim (cases_eq j n) [ inl e ↦ rw e (omega (arith, own.replicated)) | inr ne ↦ omega (arith, before j (omega arith) may) ];
      first = λ j lt may same. elim (cases_eq j n) [ inl e ↦ omega (arith, e, at) | inr ne ↦ absurd (omega (arith, same, before j (omega arith) may)) ];
    }

flip_keeps : (table : TableValue) (range : Range) (pins : Node) (flags : List Bool) (n : ℕ) (k c : Candidate) → c.file ≡ n → IsFlip table range pins flags c
    → k.replicated ≤ c.replicated → IsLightest table range pins flags n k → IsLightest table range pins flags (n + 1) k
flip_keeps table range pins flags n k c at is le h =
    let P : ℕ → Type 0 = λ m. IsFlip table range pins flags (record c { file = m }) in
    let own : IsFlip table range pins flags (record c { file = n }) = subst P at is in
    record {
      below = omega (arith, h.below);
      is = h.is;
      least = λ j lt may. elim (cases_eq j n) [ inl e ↦ rw e (omega (arith, own.replicated, le)) | inr ne ↦ h.least j (omega arith) may ];
      first = λ j lt may same. elim (cases_eq j n) [ inl e ↦ omega (arith, e, h.below) | inr ne ↦ h.first j (omega arith) may same ];
    }

pub flip_next : (table : TableValue) (range : Range) (pins : Node) (flags : List Bool) (n : ℕ) (best next : Option Candidate)
    → IfSome next (λ c. (c.file ≡ n) × IsFlip table range pins flags c) → IfNone next (¬ MayFlip table range pins flags n)
    → KeepsLightest table range pins flags n best → KeepsLightest table range pins flags (n + 1) (lighter best next)
flip_next table range pins flags n None None may none h = flip_skip table range pins flags n None none h
flip_next table range pins flags n (Some k) None may none h = flip_skip table range pins flags n (Some k) none h
flip_next table range pins flags n None (Some c) may none h = flip_takes table range pins flags n c may.0 may.1 (λ j lt can. absurd (h j lt can))
flip_next table range pins flags n (Some k) (Some c) may none h = elim (cases_Bool (nat_lt c.replicated k.replicated)) [
  | inl t ↦
      let less : c.replicated < k.replicated = grind (arith, nat_tests, t) in
      rw t (flip_takes table range pins flags n c may.0 may.1 (λ j lt can. omega (arith, less, h.least j lt can)))
  | inr f ↦
      let le : k.replicated ≤ c.replicated = grind (arith, nat_tests, f) in
      rw f (flip_keeps table range pins flags n k c may.0 may.1 le h)
]

pub flip_found : (table : TableValue) (range : Range) (pins : Node) (flags : List Bool) (n : ℕ) (best : Option Candidate) (c : Candidate) → n ≡ table.files → best ≡ Some c
    → KeepsLightest table range pins flags n best → FlipsNext table range pins flags c.file
flip_found table range pins flags n best c all is kept =
    let P : Option Candidate → Type 0 = λ o. KeepsLightest table range pins flags n o in
    let h : IsLightest table range pins flags n c = subst P is kept in
    record {
      may = h.is.may;
      least = λ j may. omega (arith, h.is.replicated, h.least j (omega (arith, may.within, all)) may);
      first = λ j may same. h.first j (omega (arith, may.within, all)) may (omega (arith, same, h.is.replicated));
    }

pub flip_none : (table : TableValue) (range : Range) (pins : Node) (flags : List Bool) (n : ℕ) (best : Option Candidate) → n ≡ table.files → best ≡ None
    → KeepsLightest table range pins flags n best → (file : ℕ) → ¬ MayFlip table range pins flags file
flip_none table range pins flags n best all is kept file may =
    let P : Option Candidate → Type 0 = λ o. KeepsLightest table range pins flags n o in
    let h : (j : ℕ) → j < n → ¬ MayFlip table range pins flags j = subst P is kept in
    h file (omega (arith, may.within, all)) may
