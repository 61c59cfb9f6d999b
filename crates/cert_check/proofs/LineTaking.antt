-- A line judged behind those that are kept.
use Rattle.std.proofs.Common.{◌≡◌, ◌≢◌, ℕ, zero, suc, ◌+◌, ◌-◌, ◌≤◌, ◌++◌, List, [], ◌∷◌, length, Bool, true, false, cond, eqb, Option, Some, None, refl, sym, ◌∙◌, ap, subst, arith, inl, inr}
use Rattle.std.specs.Prelude.{IsSome, option_map}
use Rattle.std.proofs.lemmas.Bool.{cases_Bool}
use Rattle.seed_model.specs.Tables.{TableValue}
use Rattle.seed_io.specs.Lines.{LineText, Whole}
use Rattle.bound_cert.specs.declared.place.Place.{Place}
use Rattle.bound_cert.specs.declared.place.Place.TheVariants.{AtTitle, AtSpan, AtPins, AtAnswer, AtPlan, AtBound, AtNode, AtGive, Past}
use Rattle.bound_cert.specs.Grammar.{after, after_node, after_give, after_end, after_bound, after_plan, nodes_at, at_gives, is_above, behind_span}
use Rattle.bound_cert.specs.Judgements.{Told, told_by, told_next, line_of}
use Rattle.bound_cert.specs.Lines.{Entry, Title, Span, Pinned, Answered, Planned, NoPlan, Bounded, NoBound, Branch, Low, High, Leaf, Give, End, IsLine, line_text}
use Rattle.bound_cert.proofs.LineTexts.{line_apart}
use Rattle.bound_cert.proofs.Places.{title_is, span_is, pins_is, answer_is}
use Rattle.bound_cert.proofs.Placing.{some_same, at_node, at_give_line}
use Rattle.cert_check.specs.declared.judged.Judged.{Judged}
use Rattle.cert_check.specs.declared.judged.Judged.TheVariants.{More, Failed}
use Rattle.cert_check.specs.declared.kept.Broken.{Broken}
use Rattle.cert_check.specs.declared.kept.Kept.{Kept}
use Rattle.cert_check.specs.Histories.{whole_line, AllFail}
use Rattle.cert_check.specs.Judging.{TakesLine, said_of}
use Rattle.cert_check.specs.Keeping.{Takes}
use Rattle.cert_check.proofs.Taking.{bad_line, broken_line, told_more}

-- a line that is none of those that may stand there
pub takes_none : (table : TableValue) (number : ℕ) (old new : Kept) (line : LineText) → ((e : Entry) → IsLine e → IsSome (after old.place e) → line ≢ whole_line e) → TakesLine table number old new line (Failed number 1)
takes_none table number old new line bad = record {
  judged = λ lines told ended count t keeps.
      subst (λ (n : ℕ). AllFail table ended (lines ++ line ∷ []) n 1) (sym count)
      (bad_line table lines told line ended t (λ e l may. bad e l (subst (λ (p : Place). IsSome (after p e)) (sym keeps.place) may)));
  fits = λ e. absurd cc;
  grows = λ e. absurd cc;
  not_valid = λ e. cc;
}

-- the text is no line
pub no_text : (line : List ℕ) (place : Place) → ((e : Entry) → IsLine e → line ≢ line_text e) → (e : Entry) → IsLine e → IsSome (after place e) → Whole line ≢ whole_line e
no_text line place none e l may is = none e l (let f : Whole line ≡ Whole (line_text e) = is in cc)

no_some : {X : Type 0} (o : Option X) → o ≡ None → IsSome o → ⊥
no_some None e h = let x : false ≡ true = h in cc
no_some (Some x) e h = let x : Some x ≡ None = e in cc

-- the text is a line that may not stand there
pub no_place : (line : List ℕ) (place : Place) (read : Entry) → IsLine read → line ≡ line_text read → after place read ≡ None → (e : Entry) → IsLine e → IsSome (after place e) → Whole line ≢ whole_line e
no_place line place read lawful text none e l may is =
    let same : line ≡ line_text e = (let f : Whole line ≡ Whole (line_text e) = is in cc) in
    let apart : read ≡ e = line_apart read e lawful l (sym text ∙ same) in
    no_some (after place e) (ap (λ (x : Entry). after place x) (sym apart) ∙ none) may

-- behind a line, one node more is to be read at most
gives_nodes : (m k : ℕ) (last : Option (ℕ × ℕ)) (b : Bool) → nodes_at (cond b (AtNode m) (AtGive m k last)) ≡ m
gives_nodes m k last true = refl
gives_nodes m k last false = refl

node_grows : (n : ℕ) (e : Entry) (next : Place) → after_node n e ≡ Some next → nodes_at next ≤ suc n + 1
node_grows n (Branch f x y a b) next h = subst (λ (p : Place). nodes_at p ≤ suc n + 1) (some_same h) (omega arith)
node_grows n Low next h = subst (λ (p : Place). nodes_at p ≤ suc n + 1) (some_same h) (omega arith)
node_grows n High next h = subst (λ (p : Place). nodes_at p ≤ suc n + 1) (some_same h) (omega arith)
node_grows n (Leaf p q k) next h = subst (λ (x : Place). nodes_at x ≤ suc n + 1) (some_same h) (let g = gives_nodes n k None (eqb k 0) in omega (arith, g))
node_grows n e next h = absurd cc

give_grows : (m k : ℕ) (last : Option (ℕ × ℕ)) (e : Entry) (next : Place) → after_give m k last e ≡ Some next → nodes_at next ≤ m + 1
give_grows m k last (Give c f a b) next h = elim (cases_Bool (is_above c f last)) [
  | inl t ↦
      let g : Some (at_gives m k (Some (c, f))) ≡ Some next = sym (ap (λ (x : Bool). cond x (Some (at_gives m k (Some (c, f)))) None) t) ∙ h in
      subst (λ (x : Place). nodes_at x ≤ m + 1) (some_same g) (let n = gives_nodes m k (Some (c, f)) (eqb k 0) in omega (arith, n))
  | inr t ↦ absurd (let g : None ≡ Some next = sym (ap (λ (x : Bool). cond x (Some (at_gives m k (Some (c, f)))) None) t) ∙ h in cc)
]
give_grows m k last e next h = absurd cc

end_grows : (e : Entry) (next : Place) → after_end e ≡ Some next → nodes_at next ≤ 1
end_grows End next h = subst (λ (p : Place). nodes_at p ≤ 1) (some_same h) (omega arith)
end_grows e next h = absurd cc

bound_grows : (e : Entry) (next : Place) → after_bound e ≡ Some next → nodes_at next ≤ 1
bound_grows (Bounded z) next h = subst (λ (p : Place). nodes_at p ≤ 1) (some_same h) (omega arith)
bound_grows NoBound next h = subst (λ (p : Place). nodes_at p ≤ 1) (some_same h) (omega arith)
bound_grows e next h = absurd cc

plan_grows : (e : Entry) (next : Place) → after_plan e ≡ Some next → nodes_at next ≤ 1
plan_grows (Planned x m r) next h = subst (λ (p : Place). nodes_at p ≤ 1) (some_same h) (omega arith)
plan_grows NoPlan next h = subst (λ (p : Place). nodes_at p ≤ 1) (some_same h) (omega arith)
plan_grows e next h = absurd cc

span_none : (v : ℕ) → nodes_at (behind_span v) ≡ 0
span_none v = elim (cases_Bool (eqb v 1)) [
  | inl t ↦ ap (λ (b : Bool). nodes_at (cond b AtAnswer AtPins)) t
  | inr t ↦ ap (λ (b : Bool). nodes_at (cond b AtAnswer AtPins)) t
]

nodes_grow : (place : Place) (e : Entry) (next : Place) → after place e ≡ Some next → nodes_at next ≤ nodes_at place + 1
nodes_grow AtTitle e next h = let x = title_is e next h in subst (λ (p : Place). nodes_at p ≤ 1) (sym x.2) (omega arith)
nodes_grow (AtSpan v) e next h = let x = span_is v e next h in subst (λ (p : Place). nodes_at p ≤ 1) (sym x.3) (let z = span_none v in omega (arith, z))
nodes_grow AtPins e next h = let x = pins_is e next h in subst (λ (p : Place). nodes_at p ≤ 1) (sym x.3) (omega arith)
nodes_grow AtAnswer e next h = let x = answer_is e next h in subst (λ (p : Place). nodes_at p ≤ 1) (sym x.2) (omega arith)
nodes_grow AtPlan e next h = plan_grows e next h
nodes_grow AtBound e next h = bound_grows e next h
nodes_grow (AtNode zero) e next h = end_grows e next h
nodes_grow (AtNode (suc n)) e next h = node_grows n e next (sym (at_node n e) ∙ h)
nodes_grow (AtGive m zero last) e next h = absurd (let g : None ≡ Some next = h in cc)
nodes_grow (AtGive m (suc k) last) e next h = give_grows m k last e next (sym (at_give_line m k last e) ∙ h)
nodes_grow Past e next h = absurd cc

-- a line that is kept
told_places : (files : ℕ) (told : Told) (place : Place) (e : Entry) → ((told_by files told place e).place ≡ place) × ((told_by files told place e).branchings ≤ told.branchings + 1)
told_places files told place (Title v) = (refl, omega arith)
told_places files told place (Span a b) = (refl, omega arith)
told_places files told place (Pinned g s) = (refl, omega arith)
told_places files told place (Answered a) = (refl, omega arith)
told_places files told place (Planned x m r) = (refl, omega arith)
told_places files told place NoPlan = (refl, omega arith)
told_places files told place (Bounded z) = (refl, omega arith)
told_places files told place NoBound = (refl, omega arith)
told_places files told place (Branch f x y a b) = (refl, omega arith)
told_places files told place Low = (refl, omega arith)
told_places files told place High = (refl, omega arith)
told_places files told place (Leaf x y k) = (refl, omega arith)
told_places files told place (Give c f a b) = (refl, omega arith)
told_places files told place End = (refl, omega arith)

pub takes_line : (table : TableValue) (number : ℕ) (old new : Kept) (e : Entry) (next : Place) → IsLine e → after old.place e ≡ Some next → Takes table old new e next None → TakesLine table number old new (whole_line e) More
takes_line table number old new e next l placed takes = record {
  judged = λ lines told ended count t keeps.
      let after_told : told_next table.files told e ≡ Some (told_by table.files told next e) = ap (λ (o : Option Place). option_map (λ (p : Place). told_by table.files told p e) o) (ap (λ (p : Place). after p e) (sym keeps.place) ∙ placed) in
      (told_by table.files told next e, told_more table lines told (told_by table.files told next e) e t l (takes.judged told keeps) after_told, takes.told told keeps);
  fits = λ _. takes.fits;
  grows = λ _ told keeps.
      let at = told_places table.files told next e in
      let grown : nodes_at next ≤ nodes_at told.place + 1 = nodes_grow told.place e next (ap (λ (p : Place). after p e) (sym keeps.place) ∙ placed) in
      record {
        next = told_by table.files told next e;
        keeps = takes.told told keeps;
        nodes = subst (λ (p : Place). nodes_at p ≤ nodes_at told.place + 1) (sym at.0) grown;
        branchings = at.1;
      };
  not_valid = λ e. cc;
}

pub takes_broken : (table : TableValue) (number : ℕ) (old new : Kept) (e : Entry) (next : Place) (broken : Broken) → IsLine e → after old.place e ≡ Some next → Takes table old new e next (Some broken)
    → TakesLine table number old new (whole_line e) (Failed (number - broken.back) broken.rule)
takes_broken table number old new e next broken l placed takes = record {
  judged = λ lines told ended count t keeps.
      let j = takes.judged told keeps in
      let may : IsSome (after told.place e) = subst (λ (p : Place). IsSome (after p e)) keeps.place (subst (λ (o : Option Place). IsSome o) (sym placed) refl) in
      let at : number - broken.back ≡ line_of told e j.0 (length lines + 1) = sym (ap (λ (n : ℕ). line_of told e j.0 n) (sym count) ∙ j.3 number) in
      broken_line table lines told e j.0 (number - broken.back) broken.rule ended t l may j.2 at (sym j.1);
  fits = λ x. absurd cc;
  grows = λ x. absurd cc;
  not_valid = λ x. cc;
}

pub takes_said : (table : TableValue) (number : ℕ) (old new : Kept) (e : Entry) (next : Place) (broken : Option Broken) → IsLine e → after old.place e ≡ Some next → Takes table old new e next broken
    → TakesLine table number old new (whole_line e) (said_of number broken)
takes_said table number old new e next None l placed takes = takes_line table number old new e next l placed takes
takes_said table number old new e next (Some b) l placed takes = takes_broken table number old new e next b l placed takes

pub as_line : (table : TableValue) (number : ℕ) (old new : Kept) (line : LineText) (said result : Judged) → result ≡ said → TakesLine table number old new line said → TakesLine table number old new line result
as_line table number old new line said result is t = subst (λ (j : Judged). TakesLine table number old new line j) (sym is) t
