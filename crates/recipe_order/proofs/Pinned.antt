-- The files outside a set, one after the other, and the members of the node that pins it.
use Rattle.std.specs.Prelude.{not, replicate, IsTrue}
use Rattle.std.proofs.Common.{◌≡◌, ◌≢◌, ◌∙◌, ◌+◌, ◌<◌, ◌≤◌, ℕ, List, Bool, true, false, refl, sym, ap, subst, length, arith, inl, inr}
use Rattle.std.proofs.Math.ListN.{set as set_at}
use Rattle.std.proofs.lemmas.Bool.{cases_Bool, cases_eq}
use Rattle.std.proofs.lemmas.List.{get_or-set_other, get_or-set_same, length-replicate, length-set}
use Rattle.seed_model.specs.declared.node.Node.{Node}
use Rattle.seed_model.specs.Files.{holds}
use Rattle.recipe_order.specs.Pins.{HasOneMember, PinsExactly}
use Rattle.recipe_order.proofs.Matched.{none_held}

-- the files so far
pub record IsOutsideSoFar (set outside : List Bool) (file : ℕ) : Type 0 where
  pub files : length outside ≡ length set
  pub same : (k : ℕ) → k < file → holds outside k ≡ not (holds set k)
  pub rest : (k : ℕ) → file ≤ k → holds outside k ≡ false

pub none_outside : (set outside : List Bool) (files : ℕ) → files ≡ length set → outside ≡ replicate files false → IsOutsideSoFar set outside 0
none_outside set outside files count is = record {
  files = ap length is ∙ (length-replicate files false ∙ count);
  same = λ k lt. absurd (omega arith);
  rest = λ k le. ap (λ (t : List Bool). holds t k) is ∙ none_held files k;
}

pub outside_more : (set outside after : List Bool) (file : ℕ) → IsOutsideSoFar set outside file → file < length set → holds set file ≡ false → after ≡ set_at outside file true
    → IsOutsideSoFar set after (file + 1)
outside_more set outside after file c lt own put =
    let Outside : List Bool → Type 0 = λ t. IsOutsideSoFar set t (file + 1) in
    let inside : file < length outside = omega (arith, c.files) in
    subst Outside (sym put) record {
      files = length-set outside file true ∙ c.files;
      same = λ k below. elim (cases_eq k file) [
        | inl at ↦ ap (holds (set_at outside file true)) at ∙ (get_or-set_same outside file true false inside ∙ (sym (ap not own) ∙ ap (λ (n : ℕ). not (holds set n)) (sym at)))
        | inr apart ↦ get_or-set_other outside file k true false apart ∙ c.same k (omega arith)
      ];
      rest = λ k above. let apart : k ≢ file = omega arith in get_or-set_other outside file k true false apart ∙ c.rest k (omega arith);
    }

pub outside_same : (set outside : List Bool) (file : ℕ) → IsOutsideSoFar set outside file → holds set file ≡ true → IsOutsideSoFar set outside (file + 1)
outside_same set outside file c own = record {
  files = c.files;
  same = λ k below. elim (cases_eq k file) [
    | inl at ↦ ap (holds outside) at ∙ (c.rest file (omega arith) ∙ (sym (ap not own) ∙ ap (λ (n : ℕ). not (holds set n)) (sym at)))
    | inr apart ↦ c.same k (omega arith)
  ];
  rest = λ k above. c.rest k (omega arith);
}

not_true : (b : Bool) → not b ≡ true → b ≡ false
not_true true e = cc e
not_true false e = refl

pub has_one_member : HasOneMember
has_one_member set node p = (
  record {
    inside = ap length p.inside;
    outside = p.files;
    apart = λ file lt there. p.outside file lt ∙ ap not (ap (λ (t : List Bool). holds t file) (sym p.inside) ∙ there);
  },
  λ other. (
    λ m file lt. elim (cases_Bool (holds set file)) [
      | inl t ↦ m.has file lt (ap (λ (t : List Bool). holds t file) p.inside ∙ t) ∙ sym t
      | inr f ↦ m.lacks file lt (p.outside file lt ∙ ap not f) ∙ sym f
    ],
    λ agrees. record {
      has = λ file lt there. agrees file lt ∙ (ap (λ (t : List Bool). holds t file) (sym p.inside) ∙ there);
      lacks = λ file lt there. agrees file lt ∙ not_true (holds set file) (sym (p.outside file lt) ∙ there);
    },
  ),
)
