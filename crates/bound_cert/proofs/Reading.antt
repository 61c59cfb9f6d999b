-- The lines of a text, read one by one.
use Rattle.std.proofs.Common.{◌≡◌, ◌≢◌, ℕ, ◌+◌, ◌-◌, ◌<◌, ◌≤◌, List, [], ◌∷◌, ◌++◌, Option, Some, None, length, refl, sym, ◌∙◌, ap, arith, inl, inr, eqb, append_assoc}
use Rattle.std.specs.Prelude.{option_and_then, IsSome, if◌then◌else◌}
use Rattle.std.specs.List.{AllByRecursion}
use Rattle.std.proofs.lemmas.Bool.{cases_Bool, eqb-false}
use Rattle.std.proofs.lemmas.List.{append-nil}
use Rattle.bound_cert.specs.declared.place.Place.{Place}
use Rattle.bound_cert.specs.declared.place.Place.TheVariants.{AtTitle, AtSpan, AtPins, AtAnswer, AtPlan, AtBound, AtNode, AtGive, Past}
use Rattle.bound_cert.specs.Lines.{Entry, Planned, NoPlan, Bounded, NoBound, Branch, Low, High, Leaf, Give, End, IsLine, line_text}
use Rattle.bound_cert.specs.Grammar.{after, after_all, after_plan, after_bound, after_end, after_node, after_give, at_gives, is_above, nodes_at, text_of, IsNextBad, IsFirstBadLine}
use Rattle.bound_cert.proofs.Places.{two_steps, title_is, span_is, pins_is, answer_is}
use Rattle.bound_cert.proofs.FirstLines.{next_bad, one_first}
use Rattle.bound_cert.proofs.Writing.{text_of-append}

-- fewer nodes are still to be read than lines were read
abbrev pub HasRoom : Place → ℕ → Type 0
HasRoom AtTitle lines = Unit {0}
HasRoom (AtSpan version) lines = 0 < lines
HasRoom AtPins lines = 0 < lines
HasRoom AtAnswer lines = 0 < lines
HasRoom AtPlan lines = 0 < lines
HasRoom AtBound lines = 0 < lines
HasRoom (AtNode nodes) lines = nodes < lines
HasRoom (AtGive nodes gives last) lines = nodes < lines
HasRoom Past lines = 0 < lines

pub room_fits : (place : Place) (lines most : ℕ) → lines < most → 0 < most → HasRoom place lines → nodes_at place ≤ lines
room_fits AtTitle lines most l m h = omega arith
room_fits (AtSpan v) lines most l m h = omega arith
room_fits AtPins lines most l m h = omega arith
room_fits AtAnswer lines most l m h = omega arith
room_fits AtPlan lines most l m h = omega arith
room_fits AtBound lines most l m h = omega arith
room_fits (AtNode n) lines most l m h = omega arith
room_fits (AtGive n g x) lines most l m h = omega arith
room_fits Past lines most l m h = omega arith

gives_room : (n g : ℕ) (last : Option (ℕ × ℕ)) (lines : ℕ) → n < lines → HasRoom (at_gives n g last) lines
gives_room n g last lines h = elim (cases_Bool (eqb g 0)) as (λ _. HasRoom (at_gives n g last) lines) [ inl t ↦ rw t h | inr e ↦ rw e h ]

span_room : (v lines : ℕ) → HasRoom (if eqb v 1 then AtAnswer else AtPins) (lines + 1)
span_room v lines = elim (cases_Bool (eqb v 1)) as (λ _. HasRoom (if eqb v 1 then AtAnswer else AtPins) (lines + 1)) [ inl t ↦ rw t (omega arith) | inr e ↦ rw e (omega arith) ]

same : {X : Type 0} {x y : X} → Some x ≡ Some y → x ≡ y
same e = cc

-- lines of a front and one more
pub after_more : (place middle next : Place) (es : List Entry) (e : Entry) → after_all place es ≡ Some middle → after middle e ≡ Some next → after_all place (es ++ e ∷ []) ≡ Some next
after_more place middle next [] e p q = let s : place ≡ middle = same p in ap (λ (x : Place). option_and_then (λ n. Some n) (after x e)) s ∙ ap (λ (o : Option Place). option_and_then (λ n. Some n) o) q
after_more place middle next (d ∷ es) e p q =
    let t = two_steps (λ n. after_all n es) (after place d) middle p in
    ap (λ (o : Option Place). option_and_then (λ n. after_all n (es ++ e ∷ [])) o) t.1 ∙ after_more t.0 middle next es e t.2 q

pub lawful_more : (es : List Entry) (e : Entry) → AllByRecursion IsLine es → IsLine e → AllByRecursion IsLine (es ++ e ∷ [])
lawful_more [] e h l = (l, tt)
lawful_more (d ∷ es) e h l = (h.0, lawful_more es e h.1 l)

pub split_more : (text rest more : List ℕ) (es : List Entry) (e : Entry) → text ≡ text_of es ++ rest → rest ≡ line_text e ++ 10 ∷ more → text ≡ text_of (es ++ e ∷ []) ++ more
split_more text rest more es e p q =
    p ∙ (ap (λ r. text_of es ++ r) q ∙ (sym (append_assoc (text_of es) (line_text e) (10 ∷ more))
    ∙ (simp (append_assoc, append-nil, text_of-append))))

-- where one line more leads
plan_next : (e : Entry) (next : Place) → after_plan e ≡ Some next → next ≡ AtBound
plan_next (Planned s m r) next h = sym (same h)
plan_next NoPlan next h = sym (same h)
plan_next e next h = absurd cc

bound_next : (e : Entry) (next : Place) → after_bound e ≡ Some next → next ≡ AtNode 1
bound_next (Bounded z) next h = sym (same h)
bound_next NoBound next h = sym (same h)
bound_next e next h = absurd cc

end_next : (e : Entry) (next : Place) → after_end e ≡ Some next → next ≡ Past
end_next End next h = sym (same h)
end_next e next h = absurd cc

node_next : (n lines : ℕ) (e : Entry) (next : Place) → n + 1 < lines → after_node n e ≡ Some next → HasRoom next (lines + 1)
node_next n lines (Branch f p q a b) next r h = rw (← same h) (omega (arith, r))
node_next n lines Low next r h = rw (← same h) (omega (arith, r))
node_next n lines High next r h = rw (← same h) (omega (arith, r))
node_next n lines (Leaf p q k) next r h = rw (← same h) (gives_room n k None (lines + 1) (omega (arith, r)))
node_next n lines e next r h = absurd cc

give_next : (n g lines : ℕ) (last : Option (ℕ × ℕ)) (e : Entry) (next : Place) → n < lines → after_give n g last e ≡ Some next → HasRoom next (lines + 1)
give_next n g lines last (Give c f a b) next r h = elim (cases_Bool (is_above c f last)) [
  | inl t ↦ let k = same (rw t at h) in rw (← k) (gives_room n g (Some (c, f)) (lines + 1) (omega (arith, r)))
  | inr e ↦ absurd (cc (rw e at h))
]
give_next n g lines last e next r h = absurd cc

pub room_next : (place next : Place) (e : Entry) (lines : ℕ) → HasRoom place lines → after place e ≡ Some next → HasRoom next (lines + 1)
room_next AtTitle next e lines r h = rw (title_is e next h).2 (omega arith)
room_next (AtSpan v) next e lines r h = rw (span_is v e next h).3 (span_room v lines)
room_next AtPins next e lines r h = rw (pins_is e next h).3 (omega arith)
room_next AtAnswer next e lines r h = rw (answer_is e next h).2 (omega arith)
room_next AtPlan next e lines r h = rw (plan_next e next h) (omega arith)
room_next AtBound next e lines r h = rw (bound_next e next h) (omega (arith, r))
room_next (AtNode n) next e lines r h = elim (cases_Bool (eqb n 0)) [
  | inl t ↦ rw (end_next e next (rw t at h)) (omega arith)
  | inr f ↦ node_next (n - 1) lines e next (omega (arith, r, eqb-false n 0 f)) (rw f at h)
]
room_next (AtGive n g last) next e lines r h = elim (cases_Bool (eqb g 0)) [
  | inl t ↦ absurd (cc (rw t at h))
  | inr f ↦ give_next n (g - 1) lines last e next r (rw f at h)
]
room_next Past next e lines r h = absurd cc

-- the next line breaks the form
pub bad_here : (text rest : List ℕ) (es : List Entry) (place : Place) → text ≡ text_of es ++ rest → AllByRecursion IsLine es → after_all AtTitle es ≡ Some place → IsNextBad place rest → IsFirstBadLine text (length es + 1)
bad_here text rest es place split lawful placed breaks = record { front = es; rest = rest; place = place; lines = refl; split = split; lawful = lawful; placed = placed; breaks = breaks }

-- a line that was read may not stand there, so none may
pub not_placed : (place : Place) (rest more : List ℕ) (d : Entry) → place ≢ Past → IsLine d → rest ≡ line_text d ++ 10 ∷ more → after place d ≡ None → IsNextBad place rest
not_placed place rest more d n h is none = next_bad place rest n (λ e xs k some eq.
    let one = one_first rest d e more xs h k is eq in
    let gone : after place e ≡ None = ap (after place) (sym one) ∙ none in
    absurd (none_some (after place e) gone some))
  where
    none_some : {X : Type 0} (o : Option X) → o ≡ None → IsSome o → ⊥
    none_some None e s = absurd cc
    none_some (Some x) e s = cc
