-- What a search ended with is a certificate of its own.
use Rattle.std.proofs.Common.{◌≡◌, ℕ, ◌+◌, ◌*◌, ◌<◌, ◌≤◌, Bool, true, false, Option, Some, None, List, get_or, inl, inr, refl, sym, ◌∙◌, ap, subst, arith, ltb}
use Rattle.std.specs.Prelude.{All, option_map}
use Rattle.std.proofs.Math.Nat.{lt_of_mul-lt-mul_right, mul-lt-mul_of_pos_right}
use Rattle.seed_model.specs.declared.node.Node.{Node}
use Rattle.seed_model.specs.declared.range.Range.{Range}
use Rattle.seed_model.specs.Files.{holds}
use Rattle.seed_model.specs.Tables.{TableValue}
use Rattle.seed_model.specs.Nodes.{weight_of}
use Rattle.seed_ratio.specs.Fractions.{IsCeiling}
use Rattle.branch_bound.specs.declared.candidate.Candidate.{Candidate}
use Rattle.branch_bound.specs.declared.entry.Entry.{Entry}
use Rattle.branch_bound.specs.declared.entry.Kept.{Kept}
use Rattle.branch_bound.specs.declared.entry.Finding.{Finding}
use Rattle.branch_bound.specs.declared.entry.Finding.TheVariants.{Low, High, Valued}
use Rattle.branch_bound.specs.Cuts.{reaches, is_cut}
use Rattle.branch_bound.specs.Ended.{NoneBetter}
use Rattle.branch_bound.specs.Entries.{entry_at}
use Rattle.branch_bound.specs.Fractions.{Fraction, AtMost}
use Rattle.branch_bound.specs.Orders.{GoesFirst}
use Rattle.branch_bound.specs.States.{IsFound, waits, IsCandidateOf, times_in, HoldsWaiting, HaveValues}
use Rattle.branch_bound.proofs.Endings.{Suits}
use Rattle.branch_bound.proofs.Steps.{found_in}
use Rattle.branch_bound.proofs.Trees.{less_true, less_false}
use Rattle.branch_bound.proofs.Values.{at_most_trans}

-- a greater value rounded up reaches as much
pub reaches_more : (z a b c d : ℕ) → 0 < b → 0 < d → a * d ≤ c * b → z * b < a + b → z * d < c + d
reaches_more z a b c d p q h k =
    let x = mul-lt-mul_of_pos_right k q in
    let y : z * d * b < (c + d) * b = omega (arith, x, h) in
    lt_of_mul-lt-mul_right b y

-- a candidate that goes first has a value that is no greater
pub first_least : (c d : Candidate) → GoesFirst c d → c.worth * d.weight ≤ d.worth * c.weight
first_least c d (inl less) = omega (arith, less)
first_least c d (inr equal) = omega (arith, equal.0)

module _ (table : TableValue) (range : Range) (kept : Option Kept) (level : Fraction) where
  -- a waiting node's value rounded up is no less than the plan's bytes
  abbrev pub ShortOf : Option Kept → Option ℕ → Finding → Type 0
  ShortOf plan (Some file) finding = Unit {0}
  ShortOf plan None Low = Unit {0}
  ShortOf plan None High = Unit {0}
  ShortOf None None (Valued r) = ⊥
  ShortOf (Some k) None (Valued r) = k.replicated * weight_of r.mix < r.worth + weight_of r.mix

  short_by : (k : Kept) (c : Candidate) (file : Option ℕ) (finding : Finding) → k.replicated * c.weight < c.worth + c.weight → IsCandidateOf c file finding → ShortOf (Some k) file finding
  short_by k c None (Valued r) h v = subst (λ z. k.replicated * z < r.worth + z) v.1 (subst (λ z. k.replicated * c.weight < z + c.weight) v.0 h)
  short_by k c None Low h v = absurd v
  short_by k c None High h v = absurd v
  short_by k c (Some f) finding h v = tt

  not_waiting : (file : Option ℕ) (finding : Finding) → waits file finding ≡ 0 → ShortOf None file finding
  not_waiting None (Valued r) e = absurd (omega (arith, e))
  not_waiting None Low e = tt
  not_waiting None High e = tt
  not_waiting (Some f) finding e = tt

  -- what waits, among candidates of which none may hold a better plan
  pub waits_short : (plan : Option Kept) (es : List Entry) (cs : List Candidate) (j : ℕ) → HoldsWaiting es cs → HaveValues es cs → NoneBetter plan cs → ShortOf plan (entry_at es j).file (entry_at es j).finding
  waits_short None es cs j holds values none =
      let empty : times_in j cs ≡ 0 = ap (times_in j) none in
      not_waiting (entry_at es j).file (entry_at es j).finding (sym (holds j) ∙ empty)
  waits_short (Some k) es cs j holds values none = by_waits (ltb 0 (waits (entry_at es j).file (entry_at es j).finding)) refl
    where
      idle : (file : Option ℕ) (finding : Finding) → waits file finding ≡ 0 → ShortOf (Some k) file finding
      idle None (Valued r) e = absurd (omega (arith, e))
      idle None Low e = tt
      idle None High e = tt
      idle (Some f) finding e = tt

      by_waits : (b : Bool) → b ≡ ltb 0 (waits (entry_at es j).file (entry_at es j).finding) → ShortOf (Some k) (entry_at es j).file (entry_at es j).finding
      by_waits true e =
          found_in (λ i. ShortOf (Some k) (entry_at es i).file (entry_at es i).finding) cs j (let w = less_true 0 (waits (entry_at es j).file (entry_at es j).finding) e in omega (arith, holds j, w))
          (λ i d l. short_by k (get_or cs i d) (entry_at es (get_or cs i d).number).file (entry_at es (get_or cs i d).number).finding (none i d l) (values i d l))
      by_waits false e = idle (entry_at es j).file (entry_at es j).finding (let w = less_false 0 (waits (entry_at es j).file (entry_at es j).finding) e in omega (arith, w))

  -- where a search is closed, what is written suits the bound
  pub closed_suits : (plan : Option Kept) (file : Option ℕ) (finding : Finding) → ShortOf plan file finding
      → Suits table range kept level (option_map (λ (k : Kept). k.replicated) plan) (option_map (λ (k : Kept). k.replicated) plan) (is_cut (option_map (λ (k : Kept). k.replicated) plan) finding) file finding
  closed_suits plan file Low s = tt
  closed_suits plan file High s = tt
  closed_suits None None (Valued r) s = absurd s
  closed_suits None (Some f) (Valued r) s = tt
  closed_suits (Some k) None (Valued r) s = s
  closed_suits (Some k) (Some f) (Valued r) s = by_cut (reaches k.replicated r) refl
    where
      by_cut : (b : Bool) → b ≡ reaches k.replicated r → Suits table range kept level (Some k.replicated) (Some k.replicated) b (Some f) (Valued r)
      by_cut true e = grind (arith, e)
      by_cut false e = let low : r.worth + weight_of r.mix ≤ k.replicated * weight_of r.mix = grind (arith, e) in omega (arith, low)

  -- and where the budget is spent
  abbrev pub AboveOf : Candidate → Option ℕ → Finding → Type 0
  AboveOf c (Some file) finding = Unit {0}
  AboveOf c None Low = Unit {0}
  AboveOf c None High = Unit {0}
  AboveOf c None (Valued r) = c.worth * weight_of r.mix ≤ r.worth * c.weight

  above_by : (c d : Candidate) (file : Option ℕ) (finding : Finding) → GoesFirst c d → IsCandidateOf d file finding → AboveOf c file finding
  above_by c d None (Valued r) g v = subst (λ z. c.worth * z ≤ r.worth * c.weight) v.1 (subst (λ z. c.worth * d.weight ≤ z * c.weight) v.0 (first_least c d g))
  above_by c d None Low g v = absurd v
  above_by c d None High g v = absurd v
  above_by c d (Some f) finding g v = tt

  pub waits_above : (es : List Entry) (c : Candidate) (cs : List Candidate) (j : ℕ) → HoldsWaiting es cs → HaveValues es cs → All (GoesFirst c) cs → AboveOf c (entry_at es j).file (entry_at es j).finding
  waits_above es c cs j holds values first = by_waits (ltb 0 (waits (entry_at es j).file (entry_at es j).finding)) refl
    where
      idle : (file : Option ℕ) (finding : Finding) → waits file finding ≡ 0 → AboveOf c file finding
      idle None (Valued r) e = absurd (omega (arith, e))
      idle None Low e = tt
      idle None High e = tt
      idle (Some f) finding e = tt

      by_waits : (b : Bool) → b ≡ ltb 0 (waits (entry_at es j).file (entry_at es j).finding) → AboveOf c (entry_at es j).file (entry_at es j).finding
      by_waits true e =
          found_in (λ i. AboveOf c (entry_at es i).file (entry_at es i).finding) cs j (let w = less_true 0 (waits (entry_at es j).file (entry_at es j).finding) e in omega (arith, holds j, w))
          (λ i d l. above_by c (get_or cs i d) (entry_at es (get_or cs i d).number).file (entry_at es (get_or cs i d).number).finding (first i d l) (values i d l))
      by_waits false e = idle (entry_at es j).file (entry_at es j).finding (let w = less_false 0 (waits (entry_at es j).file (entry_at es j).finding) e in omega (arith, w))

  abbrev pub HasWeightIn : Finding → Type 0
  HasWeightIn Low = Unit {0}
  HasWeightIn High = Unit {0}
  HasWeightIn (Valued r) = 0 < weight_of r.mix

  pub spent_suits : (c : Candidate) (whole : ℕ) (node : Node) (file : Option ℕ) (finding : Finding) → 0 < c.weight → 0 < level.under → IsCeiling c.worth c.weight whole → level.over * c.weight ≤ c.worth * level.under
      → IsFound table range kept level node file finding → HasWeightIn finding → AboveOf c file finding → Suits table range kept level (Some whole) None false file finding
  spent_suits c whole node file Low p q h a f w s = tt
  spent_suits c whole node file High p q h a f w s = tt
  spent_suits c whole node None (Valued r) p q h a f w s = reaches_more whole c.worth c.weight r.worth (weight_of r.mix) p w s h.near
  spent_suits c whole node (Some x) (Valued r) p q h a f w s =
      let value : Fraction = record { over = r.worth; under = weight_of r.mix } in
      let here : Fraction = record { over = c.worth; under = c.weight } in
      let bytes : Fraction = record { over = whole; under = 1 } in
      let below : AtMost value level = subst (λ z. z * level.under ≤ level.over * weight_of r.mix) (sym f.0.worth) f.1.0 in
      let ceiling : AtMost here bytes = omega (arith, h.above) in
      let both : AtMost value bytes = at_most_trans value here bytes p (at_most_trans value level here q below a) ceiling in
      omega (arith, both)
