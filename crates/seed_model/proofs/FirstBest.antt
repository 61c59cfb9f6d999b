-- The first best mask, mask by mask, and that it is the first best of all sets.
use Rattle.std.specs.Prelude.{nat_le, Option, Some, None}
use Rattle.std.proofs.Common.{◌≡◌, ◌+◌, ◌^◌, ◌<◌, ◌≤◌, ℕ, Bool, sym, subst, arith, inl, inr}
use Rattle.std.proofs.lemmas.Bool.{cases_Bool, cases_eq, leb-true, leb-false}
use Rattle.seed_model.specs.declared.range.Range.{Range}
use Rattle.seed_model.specs.declared.best.Candidate.{Candidate}
use Rattle.seed_model.specs.Files.{rank}
use Rattle.seed_model.specs.Tables.{TableValue, IsTable}
use Rattle.seed_model.specs.Sums.{replicated_of}
use Rattle.seed_model.specs.Ranges.{InRange}
use Rattle.seed_model.specs.Best.{NoneInRange, IsFirstBest}
use Rattle.seed_model.specs.SumLaws.{AgreesBelow}
use Rattle.seed_model.specs.Masks.{in_mask}
use Rattle.seed_model.specs.Candidates.{lighter}
use Rattle.seed_model.proofs.ClassSums.{files_alone}
use Rattle.seed_model.proofs.Ranks.{rank_lt, in_mask-rank, rank-in_mask, rank-agrees}

-- in range, the lightest of the masks below n in range, and the first of these
pub record IsFirstLightest (table : TableValue) (range : Range) (n : ℕ) (c : Candidate) : Type 0 where
  pub below : c.mask < n
  pub in_range : InRange table range (in_mask c.mask)
  pub cost : c.replicated ≡ replicated_of (in_mask c.mask) table
  pub least : (j : ℕ) → j < n → InRange table range (in_mask j) → c.replicated ≤ replicated_of (in_mask j) table
  pub first : (j : ℕ) → j < n → InRange table range (in_mask j) → replicated_of (in_mask j) table ≤ c.replicated → c.mask ≤ j

-- what is kept after the masks below n
abbrev pub KeepsFirst : TableValue → Range → ℕ → Option Candidate → Type 0
KeepsFirst table range n None = (j : ℕ) → j < n → ¬ InRange table range (in_mask j)
KeepsFirst table range n (Some c) = IsFirstLightest table range n c

pub keeps-none : (table : TableValue) (range : Range) → KeepsFirst table range 0 None
keeps-none table range j lt = absurd (omega arith)

-- a mask out of range
pub keeps-skip : (table : TableValue) (range : Range) (n : ℕ) (best : Option Candidate) → ¬ InRange table range (in_mask n) → KeepsFirst table range n best
    → KeepsFirst table range (n + 1) best
keeps-skip table range n None out h = λ j lt. elim (cases_eq j n) [
  | inl e ↦ rw e out
  | inr ne ↦ h j (omega arith)
]
keeps-skip table range n (Some c) out h = record {
  below = omega (arith, h.below);
  in_range = h.in_range;
  cost = h.cost;
  least = λ j lt inside. elim (cases_eq j n) [ inl e ↦ absurd (out (rw e at inside)) | inr ne ↦ h.least j (omega arith) inside ];
  first = λ j lt inside light. elim (cases_eq j n) [ inl e ↦ absurd (out (rw e at inside)) | inr ne ↦ h.first j (omega arith) inside light ];
}

-- a mask in range
pub keeps-next : (table : TableValue) (range : Range) (n r : ℕ) (best : Option Candidate) → InRange table range (in_mask n) → r ≡ replicated_of (in_mask n) table
    → KeepsFirst table range n best → KeepsFirst table range (n + 1) (Some (lighter best (record { mask = n; replicated = r })))
keeps-next table range n r None inside cost h = record {
  below = omega arith;
  in_range = inside;
  cost = cost;
  least = λ j lt other. elim (cases_eq j n) [ inl e ↦ rw e (omega (arith, cost)) | inr ne ↦ absurd (h j (omega arith) other) ];
  first = λ j lt other light. elim (cases_eq j n) [ inl e ↦ omega (arith, e) | inr ne ↦ absurd (h j (omega arith) other) ];
}
keeps-next table range n r (Some k) inside cost h = elim (cases_Bool (nat_le k.replicated r)) [
  | inl t ↦
      let le : k.replicated ≤ r = leb-true k.replicated r t in
      rw t (record {
        below = omega (arith, h.below);
        in_range = h.in_range;
        cost = h.cost;
        least = λ j lt other. elim (cases_eq j n) [ inl e ↦ rw e (omega (arith, cost, le)) | inr ne ↦ h.least j (omega arith) other ];
        first = λ j lt other light. elim (cases_eq j n) [ inl e ↦ omega (arith, e, h.below) | inr ne ↦ h.first j (omega arith) other light ];
      })
  | inr f ↦
      let lt_kept : r < k.replicated = leb-false k.replicated r f in
      rw f (record {
        below = omega arith;
        in_range = inside;
        cost = cost;
        least = λ j lt other. elim (cases_eq j n) [ inl e ↦ rw e (omega (arith, cost)) | inr ne ↦ omega (arith, lt_kept, h.least j (omega arith) other) ];
        first = λ j lt other light. elim (cases_eq j n) [ inl e ↦ omega (arith, e) | inr ne ↦ absurd (omega (arith, lt_kept, light, h.least j (omega arith) other)) ];
      })
]

in_range-agrees : (table : TableValue) (range : Range) (one other : ℕ → Bool) → IsTable table → AgreesBelow table.files one other → InRange table range one → InRange table range other
in_range-agrees table range one other t agrees h =
    let same = (files_alone table one other t agrees).0 in
    record { enough = rw same at h.enough; no_more = rw same at h.no_more }

-- no mask in range, so no set
pub none-in_range : (table : TableValue) (range : Range) → IsTable table → KeepsFirst table range (2 ^ table.files) None → NoneInRange table range
none-in_range table range t h = λ set inside.
    let back : AgreesBelow table.files set (in_mask (rank table.files set)) = λ f lt. sym (in_mask-rank table.files set f lt) in
    h (rank table.files set) (rank_lt table.files set) (in_range-agrees table range set (in_mask (rank table.files set)) t back inside)

-- the first of the lightest masks is the first best of all sets
pub first_best-mask : (table : TableValue) (range : Range) (c : Candidate) → IsTable table → KeepsFirst table range (2 ^ table.files) (Some c)
    → IsFirstBest table range (in_mask c.mask)
first_best-mask table range c t h = record {
  best = record {
    in_range = h.in_range;
    least = λ other inside.
        let back : AgreesBelow table.files other (in_mask (rank table.files other)) = λ f lt. sym (in_mask-rank table.files other f lt) in
        let same = (files_alone table other (in_mask (rank table.files other)) t back).2 in
        let least = h.least (rank table.files other) (rank_lt table.files other) (in_range-agrees table range other (in_mask (rank table.files other)) t back inside) in
        omega (arith, h.cost, least, same);
  };
  first = λ other best.
      let back : AgreesBelow table.files other (in_mask (rank table.files other)) = λ f lt. sym (in_mask-rank table.files other f lt) in
      let same = (files_alone table other (in_mask (rank table.files other)) t back).2 in
      let less = best.least (in_mask c.mask) h.in_range in
      let own = rank-in_mask table.files c.mask h.below in
      let first = h.first (rank table.files other) (rank_lt table.files other) (in_range-agrees table range other (in_mask (rank table.files other)) t back best.in_range)
      (omega (arith, h.cost, less, same)) in
      omega (arith, own, first);
}

-- a set with the files of a first best one is one
pub first_best-agrees : (table : TableValue) (range : Range) (one other : ℕ → Bool) → IsTable table → AgreesBelow table.files one other → IsFirstBest table range one → IsFirstBest table range other
first_best-agrees table range one other t agrees h =
    let same = (files_alone table one other t agrees).2 in
    let ranks = rank-agrees table.files one other agrees in
    record {
      best = record {
        in_range = in_range-agrees table range one other t agrees h.best.in_range;
        least = λ third inside. omega (arith, same, h.best.least third inside);
      };
      first = λ third best. omega (arith, ranks, h.first third best);
    }

-- what is kept after all masks
pub kept-found : (table : TableValue) (range : Range) (n : ℕ) (best : Option Candidate) (c : Candidate) → IsTable table → n ≡ 2 ^ table.files → best ≡ Some c
    → KeepsFirst table range n best → IsFirstBest table range (in_mask c.mask)
kept-found table range n best c t end e h =
    let P : Option Candidate → Type 0 = λ o. KeepsFirst table range (2 ^ table.files) o in
    first_best-mask table range c t (subst P e (rw end at h))

pub kept-none : (table : TableValue) (range : Range) (n : ℕ) (best : Option Candidate) → IsTable table → n ≡ 2 ^ table.files → best ≡ None
    → KeepsFirst table range n best → NoneInRange table range
kept-none table range n best t end e h =
    let P : Option Candidate → Type 0 = λ o. KeepsFirst table range (2 ^ table.files) o in
    none-in_range table range t (subst P e (rw end at h))
