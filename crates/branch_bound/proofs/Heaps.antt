-- The candidates for what waits, once one of them is branched.
use Rattle.std.proofs.Common.{◌≡◌, ◌≢◌, ℕ, ◌+◌, ◌*◌, ◌<◌, ◌≤◌, Bool, true, false, Option, Some, None, List, [], ◌∷◌, length, refl, sym, ◌∙◌, ap, subst, arith, eqb, ltb}
use Rattle.std.specs.Prelude.{All}
use Rattle.std.specs.List.Sorted.{IsPermutation}
use Rattle.std.proofs.lemmas.List.{get_or_past}
use Rattle.std.proofs.lemmas.List.Elements.{All-nil, All-cons, All-head, All-tail}
use Rattle.std.proofs.lemmas.List.Sums.{sum_by-cons}
use Rattle.std.proofs.lemmas.List.Sorted.{sum_by-IsPermutation, All-permutation}
use Rattle.seed_model.specs.Nodes.{weight_of}
use Rattle.branch_bound.specs.declared.candidate.Candidate.{Candidate}
use Rattle.branch_bound.specs.declared.entry.Entry.{Entry}
use Rattle.branch_bound.specs.declared.entry.Relaxation.{Relaxation}
use Rattle.branch_bound.specs.declared.entry.Finding.{Finding}
use Rattle.branch_bound.specs.declared.entry.Finding.TheVariants.{Low, High, Valued}
use Rattle.branch_bound.specs.Entries.{no_entry, entry_at, branched}
use Rattle.branch_bound.specs.SearchTrees.{is_at}
use Rattle.branch_bound.specs.States.{waits, times_in, IsCandidateOf, HoldsWaiting, HaveValues}
use Rattle.branch_bound.proofs.Trees.{at_same, at_other}
use Rattle.branch_bound.proofs.Stores.{entry_at-branched, entry_at-branched_other, entry_at-branched_out, entry_at-branched_in, entry_at-branched_past}

pub times_in-cons : (k : ℕ) (c : Candidate) (cs : List Candidate) → times_in k (c ∷ cs) ≡ is_at k c.number + times_in k cs
times_in-cons k c cs = sum_by-cons (λ (d : Candidate). is_at k d.number) c cs

pub times_in-permuted : (k : ℕ) (one other : List Candidate) → IsPermutation one other → times_in k other ≡ times_in k one
times_in-permuted k one other p = sum_by-IsPermutation (λ (d : Candidate). is_at k d.number) one other p

-- in another order the same nodes wait
pub waiting_permuted : (es : List Entry) (one other : List Candidate) → IsPermutation one other → HoldsWaiting es one → HoldsWaiting es other
waiting_permuted es one other p h k = times_in-permuted k one other p ∙ h k

pub values_permuted : (es : List Entry) (one other : List Candidate) → IsPermutation one other → HaveValues es one → HaveValues es other
values_permuted es one other p h = All-permutation (λ (c : Candidate). IsCandidateOf c (entry_at es c.number).file (entry_at es c.number).finding) one other p h

-- a node that is branched does not wait
branched_waits : (file : Option ℕ) (chosen : ℕ) (finding : Finding) → file ≡ Some chosen → waits file finding ≡ 0
branched_waits None chosen finding e = cc
branched_waits (Some f) chosen finding e = refl

-- a node for which a candidate stands waits
candidate_waits : (c : Candidate) (file : Option ℕ) (finding : Finding) → IsCandidateOf c file finding → waits file finding ≡ 1
candidate_waits c None (Valued r) h = refl
candidate_waits c None Low h = absurd h
candidate_waits c None High h = absurd h
candidate_waits c (Some f) finding h = absurd h

-- and is without children
pub candidate_bare : (c : Candidate) (file : Option ℕ) (finding : Finding) → IsCandidateOf c file finding → file ≡ None
candidate_bare c None finding h = refl
candidate_bare c (Some f) finding h = absurd h

-- the node for which a candidate stands
pub record IsPriced (c : Candidate) (file : Option ℕ) (finding : Finding) : Type 0 where
  pub relaxation : Relaxation
  pub is : finding ≡ Valued relaxation
  pub bare : file ≡ None
  pub worth : c.worth ≡ relaxation.worth
  pub weight : c.weight ≡ weight_of relaxation.mix

pub priced : (c : Candidate) (file : Option ℕ) (finding : Finding) → IsCandidateOf c file finding → IsPriced c file finding
priced c None (Valued r) h = record { relaxation = r; is = refl; bare = refl; worth = h.0; weight = h.1 }
priced c None Low h = absurd h
priced c None High h = absurd h
priced c (Some f) finding h = absurd h

-- is one of the entries
pub candidate_inside : (es : List Entry) (c : Candidate) (rest : List Candidate) → HoldsWaiting es (c ∷ rest) → c.number < length es
candidate_inside es c rest holds = step (ltb c.number (length es)) refl
  where
    step : (b : Bool) → b ≡ ltb c.number (length es) → c.number < length es
    step true e = grind (arith, e)
    step false e =
        let none : waits (entry_at es c.number).file (entry_at es c.number).finding ≡ 0 = ap (λ (z : Entry). waits z.file z.finding) (get_or_past es c.number no_entry (grind (arith, e))) in
        absurd (omega (arith, none, holds c.number, times_in-cons c.number c rest, at_same c.number c.number refl))

all_items : (P Q : Candidate → Type 0) (xs : List Candidate) → ((c : Candidate) → 0 < times_in c.number xs → P c → Q c) → All P xs → All Q xs
all_items P Q [] h a = All-nil Q
all_items P Q (x ∷ xs) h a =
    All-cons Q x xs (h x (omega (arith, times_in-cons x.number x xs, at_same x.number x.number refl)) (All-head P x xs a))
    (all_items P Q xs (λ c p. h c (omega (arith, times_in-cons c.number x xs, p))) (All-tail P x xs a))

module _ (es : List Entry) (k file : ℕ) (out inn : Finding) (inside : k < length es) where
  after : List Entry
  after = branched es k file out inn

  -- how often the new candidates hold a number
  abbrev pub Pushed : List Candidate → List Candidate → Type 0
  Pushed rest new = (j : ℕ) → times_in j new ≡ waits None inn * is_at j (length es + 1) + (waits None out * is_at j (length es) + times_in j rest)

  abbrev waits_at : ℕ → ℕ
  waits_at i = waits (entry_at (branched es k file out inn) i).file (entry_at (branched es k file out inn) i).finding

  -- past the end nothing is found, before and after
  past_end : (j : ℕ) → length es ≤ j → entry_at es j ≡ no_entry
  past_end j l = get_or_past es j no_entry l

  other_entry : (j : ℕ) → j ≢ k → j ≢ length es → j ≢ length es + 1 → entry_at (branched es k file out inn) j ≡ entry_at es j
  other_entry j x y z = step (ltb j (length es)) refl
    where
      step : (b : Bool) → b ≡ ltb j (length es) → entry_at (branched es k file out inn) j ≡ entry_at es j
      step true e = entry_at-branched_other es k file out inn inside j (grind (arith, e)) x
      step false e = entry_at-branched_past es k file out inn inside j (grind (arith, e, y, z)) ∙ sym (past_end j (grind (arith, e)))

  module _ (c : Candidate) (rest : List Candidate) (number : c.number ≡ k) (holds : HoldsWaiting es (c ∷ rest)) (stands : IsCandidateOf c (entry_at es k).file (entry_at es k).finding) where
    rest_times : (j : ℕ) → is_at j k + times_in j rest ≡ waits (entry_at es j).file (entry_at es j).finding
    rest_times j = ap (λ z. is_at j z + times_in j rest) (sym number) ∙ sym (times_in-cons j c rest) ∙ holds j

    pub rest_lacks : times_in k rest ≡ 0
    rest_lacks = omega (arith, rest_times k, at_same k k refl, candidate_waits c (entry_at es k).file (entry_at es k).finding stands)

    rest_past : (j : ℕ) → length es ≤ j → times_in j rest ≡ 0
    rest_past j l =
        let none : waits (entry_at es j).file (entry_at es j).finding ≡ 0 = ap (λ (z : Entry). waits z.file z.finding) (past_end j l) in
        omega (arith, rest_times j, none)

    -- so the candidates stand for what waits
    pub waiting-branched : (new : List Candidate) → Pushed rest new → HoldsWaiting (branched es k file out inn) new
    waiting-branched new pushed j = step (eqb j k) (eqb j (length es)) (eqb j (length es + 1)) refl refl refl
      where
        step : (a b d : Bool) → a ≡ eqb j k → b ≡ eqb j (length es) → d ≡ eqb j (length es + 1)
            → times_in j new ≡ waits (entry_at (branched es k file out inn) j).file (entry_at (branched es k file out inn) j).finding
        step true b d ea eb ed =
            let is : j ≡ k = grind (arith, ea) in
            let gone : waits_at j ≡ 0 = ap waits_at is ∙ ap (λ (z : Entry). waits z.file z.finding) (entry_at-branched es k file out inn inside) in
            let none : times_in j rest ≡ 0 = ap (λ z. times_in z rest) is ∙ rest_lacks in
            let p = at_other j (length es) (λ q. omega (arith, q, is, inside)) in
            let q = at_other j (length es + 1) (λ q. omega (arith, q, is, inside)) in
            (rw p at (rw q at (pushed j))) ∙ omega (arith, none) ∙ sym gone
        step false true d ea eb ed =
            let is : j ≡ length es = grind (arith, eb) in
            let none = rest_past j (omega (arith, is)) in
            let p = at_same j (length es) (sym is) in
            let q = at_other j (length es + 1) (λ q. omega (arith, q, is)) in
            let new_is : waits_at j ≡ waits None out = ap waits_at is ∙ ap (λ (z : Entry). waits z.file z.finding) (entry_at-branched_out es k file out inn inside) in
            (rw p at (rw q at (pushed j))) ∙ omega (arith, none) ∙ sym new_is
        step false false true ea eb ed =
            let is : j ≡ length es + 1 = grind (arith, ed) in
            let none = rest_past j (omega (arith, is)) in
            let p = at_other j (length es) (λ q. omega (arith, q, is)) in
            let q = at_same j (length es + 1) (sym is) in
            let new_is : waits_at j ≡ waits None inn = ap waits_at is ∙ ap (λ (z : Entry). waits z.file z.finding) (entry_at-branched_in es k file out inn inside) in
            (rw p at (rw q at (pushed j))) ∙ omega (arith, none) ∙ sym new_is
        step false false false ea eb ed =
            let apart : j ≢ k = λ q. grind (arith, ea, q) in
            let p = at_other j (length es) (λ q. grind (arith, eb, q)) in
            let q = at_other j (length es + 1) (λ q. grind (arith, ed, q)) in
            let off = at_other j k (λ q. apart (sym q)) in
            let same = other_entry j apart (λ q. grind (arith, eb, q)) (λ q. grind (arith, ed, q)) in
            let kept : times_in j rest ≡ waits (entry_at es j).file (entry_at es j).finding = omega (arith, rest_times j, off) in
            (rw p at (rw q at (pushed j))) ∙ omega arith ∙ kept ∙ ap (λ (z : Entry). waits z.file z.finding) (sym same)

    -- those that were left have the values of nodes that did not change
    pub rest_values : HaveValues es rest → HaveValues (branched es k file out inn) rest
    rest_values values =
        all_items (λ (d : Candidate). IsCandidateOf d (entry_at es d.number).file (entry_at es d.number).finding)
        (λ (d : Candidate). IsCandidateOf d (entry_at (branched es k file out inn) d.number).file (entry_at (branched es k file out inn) d.number).finding) rest
        (λ d p v.
        let apart : d.number ≢ k = λ e. let same = ap (λ z. times_in z rest) e in omega (arith, same, rest_lacks, p) in
        let under : d.number < length es = below d.number p in
        subst (λ (z : Entry). IsCandidateOf d z.file z.finding) (sym (entry_at-branched_other es k file out inn inside d.number under apart)) v)
        values
      where
        below : (j : ℕ) → 0 < times_in j rest → j < length es
        below j p = step (ltb j (length es)) refl
          where
            step : (b : Bool) → b ≡ ltb j (length es) → j < length es
            step true e = grind (arith, e)
            step false e = absurd (let none = rest_past j (grind (arith, e)) in omega (arith, none, p))
