-- Which lines stand where.
use Rattle.std.proofs.Common.{◌≡◌, ◌≢◌, ℕ, List, [], ◌∷◌, Option, Some, None, refl}
use Rattle.std.specs.Prelude.{option_and_then}
use Rattle.bound_cert.specs.declared.heading.Answer.{Answer}
use Rattle.bound_cert.specs.declared.place.Place.{Place}
use Rattle.bound_cert.specs.declared.place.Place.TheVariants.{AtSpan, AtAnswer, AtPlan, Past}
use Rattle.bound_cert.specs.Lines.{Entry, Title, Span, Pinned, Answered, IsLine}
use Rattle.bound_cert.specs.Grammar.{LeadsOn, after, after_all, after_title, after_span, after_pins, after_answer, behind_span}

-- what made a value by two steps
pub two_steps : {X Y : Type 0} (f : X → Option Y) (o : Option X) (y : Y) → option_and_then f o ≡ Some y → (x : X) × (o ≡ Some x) × (f x ≡ Some y)
two_steps f None y e = absurd cc
two_steps f (Some x) y e = (x, refl, e)

-- lines lead on by their first one
pub record First (place : Place) (es : List Entry) : Type 0 where
  pub line : Entry
  pub rest : List Entry
  pub next : Place
  pub is : es ≡ line ∷ rest
  pub lawful : IsLine line
  pub placed : after place line ≡ Some next
  pub leads : LeadsOn next rest

pub first_of : (place : Place) (es : List Entry) → place ≢ Past → LeadsOn place es → First place es
first_of place [] n h = absurd (n (some_same h.placed))
  where
    some_same : {X : Type 0} {x y : X} → Some x ≡ Some y → x ≡ y
    some_same e = cc
first_of place (e ∷ es) n h =
    let s = two_steps (λ next. after_all next es) (after place e) Past h.placed in
    record { line = e; rest = es; next = s.0; is = refl; lawful = h.lawful.0; placed = s.1; leads = record { lawful = h.lawful.1; placed = s.2 } }

-- the one kind of line at each place of a heading
pub title_is : (e : Entry) (next : Place) → after_title e ≡ Some next → (v : ℕ) × (e ≡ Title v) × (next ≡ AtSpan v)
title_is (Title v) next h = (v, refl, cc)
title_is e next h = absurd cc

pub span_is : (v : ℕ) (e : Entry) (next : Place) → after_span v e ≡ Some next → (a : ℕ) × (b : ℕ) × (e ≡ Span a b) × (next ≡ behind_span v)
span_is v (Span a b) next h = (a, b, refl, cc)
span_is v e next h = absurd cc

pub pins_is : (e : Entry) (next : Place) → after_pins e ≡ Some next → (g : List ℕ) × (s : List ℕ) × (e ≡ Pinned g s) × (next ≡ AtAnswer)
pins_is (Pinned g s) next h = (g, s, refl, cc)
pins_is e next h = absurd cc

pub answer_is : (e : Entry) (next : Place) → after_answer e ≡ Some next → (a : Answer) × (e ≡ Answered a) × (next ≡ AtPlan)
answer_is (Answered a) next h = (a, refl, cc)
answer_is e next h = absurd cc
