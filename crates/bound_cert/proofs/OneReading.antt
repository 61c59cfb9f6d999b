-- A text has one reading: as lines, and as a document.
use Rattle.std.proofs.Common.{◌≡◌, ℕ, suc, ◌+◌, List, [], ◌∷◌, ◌++◌, Option, Some, None, length, map, refl, sym, ◌∙◌, ap, subst, arith, append_assoc}
use Rattle.std.specs.Prelude.{IsSome}
use Rattle.std.specs.List.{AllByRecursion, flat_map}
use Rattle.std.proofs.lemmas.List.{length-append}
use Rattle.seed_model.specs.declared.range.Range.{Range}
use Rattle.bound_cert.specs.declared.place.Place.{Place}
use Rattle.bound_cert.specs.declared.place.Place.TheVariants.{AtTitle, AtSpan, AtPins, AtAnswer, AtPlan, AtBound, AtNode, AtGive, Past}
use Rattle.bound_cert.specs.declared.heading.Answer.{Answer}
use Rattle.bound_cert.specs.declared.heading.Pins.{Pins}
use Rattle.bound_cert.specs.declared.heading.Claimed.{Claimed}
use Rattle.bound_cert.specs.declared.heading.Heading.{Heading}
use Rattle.bound_cert.specs.declared.multipliers.Give.{Give as GiveValue}
use Rattle.bound_cert.specs.declared.multipliers.Multipliers.{Multipliers}
use Rattle.bound_cert.specs.declared.node_line.NodeLine.{NodeLine}
use Rattle.bound_cert.specs.declared.node_line.NodeLine.TheVariants as node
use Rattle.bound_cert.specs.Lines.{Entry, Span, Pinned, Answered, Branch, Leaf, End, IsLine, line_text}
use Rattle.bound_cert.specs.Grammar.{LeadsOn, after, after_all, text_of, IsNextBad}
use Rattle.bound_cert.specs.Documents.{document_entries, heading_entries, plan_entry, bound_entry, node_entries, give_entry}
use Rattle.bound_cert.specs.Laws.{OneDocument, BadIsNoDocument, OneBadLine}
use Rattle.bound_cert.proofs.LineTexts.{line_some, line_free, line_apart, head_same, tail_same}
use Rattle.bound_cert.proofs.Splitting.{ended_apart}
use Rattle.bound_cert.proofs.FirstLines.{one_first, one_rest_text}
use Rattle.bound_cert.proofs.Places.{two_steps}
use Rattle.bound_cert.proofs.Placing.{some_same, leads_next}

-- two readings of a text begin with one line, and go on with one text
pub one_front : (d e : Entry) (front es : List Entry) (rest : List ℕ) → IsLine d → IsLine e → text_of (d ∷ front) ++ rest ≡ text_of (e ∷ es) → (d ≡ e) × (text_of front ++ rest ≡ text_of es)
one_front d e front es rest lawful lawful2 is =
    let left : ((line_text d ++ 10 ∷ []) ++ text_of front) ++ rest ≡ line_text d ++ 10 ∷ (text_of front ++ rest) =
    append_assoc (line_text d ++ 10 ∷ []) (text_of front) rest ∙ append_assoc (line_text d) (10 ∷ []) (text_of front ++ rest) in
    let right : (line_text e ++ 10 ∷ []) ++ text_of es ≡ line_text e ++ 10 ∷ text_of es = append_assoc (line_text e) (10 ∷ []) (text_of es) in
    let same : d ≡ e = one_first (((line_text d ++ 10 ∷ []) ++ text_of front) ++ rest) d e (text_of front ++ rest) (text_of es) lawful lawful2 left (is ∙ right) in
    (same, one_rest_text d (text_of front ++ rest) (text_of es) (sym left ∙ is ∙ right ∙ ap (λ (x : Entry). line_text x ++ 10 ∷ text_of es) (sym same)))

-- a line is not nothing
pub no_front : (d : Entry) (front : List Entry) (rest : List ℕ) → text_of (d ∷ front) ++ rest ≡ [] → ⊥
no_front d front rest is =
    let a = line_some d in
    omega (arith, a, ap length is, length-append (line_text d ++ 10 ∷ []) (text_of front), length-append ((line_text d ++ 10 ∷ []) ++ text_of front) rest, length-append (line_text d) (10 ∷ []))

-- a line that may stand there is not missing
pub not_bad : (place : Place) (rest more : List ℕ) (e : Entry) → IsNextBad place rest → IsLine e → IsSome (after place e) → rest ≡ line_text e ++ 10 ∷ more → ⊥
not_bad AtTitle rest more e n h s is = n e more h s is
not_bad (AtSpan v) rest more e n h s is = n e more h s is
not_bad AtPins rest more e n h s is = n e more h s is
not_bad AtAnswer rest more e n h s is = n e more h s is
not_bad AtPlan rest more e n h s is = n e more h s is
not_bad AtBound rest more e n h s is = n e more h s is
not_bad (AtNode k) rest more e n h s is = n e more h s is
not_bad (AtGive k g l) rest more e n h s is = n e more h s is
not_bad Past rest more e n h s is = absurd (cc s)

pub some_at : {X : Type 0} (o : Option X) (x : X) → o ≡ Some x → IsSome o
some_at None x e = absurd cc
some_at (Some y) x e = refl

pub past_bad : (place : Place) (rest : List ℕ) → place ≡ Past → rest ≡ [] → IsNextBad place rest → ⊥
past_bad place rest at none n = (subst (λ (p : Place). IsNextBad p rest) at n) none

-- so a text with a first bad line has no reading
bad_start : (place : Place) (es : List Entry) (rest : List ℕ) → IsNextBad place rest → LeadsOn place es → rest ≡ text_of es → ⊥
bad_start place [] rest bad leads is = past_bad place rest (some_same leads.placed) is bad
bad_start place (e ∷ es) rest bad leads is =
    let s = two_steps (λ n. after_all n es) (after place e) Past leads.placed in
    not_bad place rest (text_of es) e bad leads.lawful.0 (some_at (after place e) s.0 s.1) (is ∙ append_assoc (line_text e) (10 ∷ []) (text_of es))

no_reading : (place middle : Place) (front es : List Entry) (rest : List ℕ) → AllByRecursion IsLine front → after_all place front ≡ Some middle → IsNextBad middle rest → LeadsOn place es → text_of front ++ rest ≡ text_of es → ⊥
no_reading place middle [] es rest lawful placed bad leads is = bad_start middle es rest bad (subst (λ (p : Place). LeadsOn p es) (some_same placed) leads) is
no_reading place middle (d ∷ front) [] rest lawful placed bad leads is = no_front d front rest is
no_reading place middle (d ∷ front) (e ∷ es) rest lawful placed bad leads is =
    let one = one_front d e front es rest lawful.0 leads.lawful.0 is in
    let s = two_steps (λ n. after_all n front) (after place d) middle placed in
    let n = leads_next place s.0 e es (ap (after place) (sym one.0) ∙ s.1) leads in
    no_reading s.0 middle front es rest lawful.1 s.2 bad n.1 one.1

-- and no two
pub front_line : (d : Entry) (front : List Entry) (rest : List ℕ) → text_of (d ∷ front) ++ rest ≡ line_text d ++ 10 ∷ (text_of front ++ rest)
front_line d front rest = append_assoc (line_text d ++ 10 ∷ []) (text_of front) rest ∙ append_assoc (line_text d) (10 ∷ []) (text_of front ++ rest)

-- two readings begin with one line, and go on with one text
pub one_line : (d e : Entry) (xs ys : List Entry) (r s : List ℕ) → IsLine d → IsLine e → text_of (d ∷ xs) ++ r ≡ text_of (e ∷ ys) ++ s → (d ≡ e) × (text_of xs ++ r ≡ text_of ys ++ s)
one_line d e xs ys r s lawful lawful2 is =
    let same : d ≡ e = one_first (text_of (d ∷ xs) ++ r) d e (text_of xs ++ r) (text_of ys ++ s) lawful lawful2 (front_line d xs r) (is ∙ front_line e ys s) in
    (same, one_rest_text d (text_of xs ++ r) (text_of ys ++ s) (sym (front_line d xs r) ∙ is ∙ front_line e ys s ∙ ap (λ (x : Entry). line_text x ++ 10 ∷ (text_of ys ++ s)) (sym same)))

bad_front : (place : Place) (e : Entry) (es : List Entry) (p : Place) (r s : List ℕ) → IsNextBad place r → IsLine e → after_all place (e ∷ es) ≡ Some p → r ≡ text_of (e ∷ es) ++ s → ⊥
bad_front place e es p r s bad lawful placed is =
    let t = two_steps (λ n. after_all n es) (after place e) p placed in
    not_bad place r (text_of es ++ s) e bad lawful (some_at (after place e) t.0 t.1) (is ∙ front_line e es s)

one_bad : (place p q : Place) (xs ys : List Entry) (r s : List ℕ) → AllByRecursion IsLine xs → AllByRecursion IsLine ys → after_all place xs ≡ Some p → after_all place ys ≡ Some q
    → IsNextBad p r → IsNextBad q s → text_of xs ++ r ≡ text_of ys ++ s → length xs ≡ length ys
one_bad place p q [] [] r s hx hy px qy bp bq is = refl
one_bad place p q [] (e ∷ ys) r s hx hy px qy bp bq is = absurd (bad_front place e ys q r s (subst (λ (x : Place). IsNextBad x r) (sym (some_same px)) bp) hy.0 qy is)
one_bad place p q (d ∷ xs) [] r s hx hy px qy bp bq is = absurd (bad_front place d xs p s r (subst (λ (x : Place). IsNextBad x s) (sym (some_same qy)) bq) hx.0 px (sym is))
one_bad place p q (d ∷ xs) (e ∷ ys) r s hx hy px qy bp bq is =
    let one = one_line d e xs ys r s hx.0 hy.0 is in
    let t = two_steps (λ n. after_all n xs) (after place d) p px in
    let u = two_steps (λ n. after_all n ys) (after place e) q qy in
    let next : u.0 ≡ t.0 = some_same (sym u.1 ∙ ap (after place) (sym one.0) ∙ t.1) in
    ap suc (one_bad t.0 p q xs ys r s hx.1 hy.1 t.2 (ap (λ (x : Place). after_all x ys) (sym next) ∙ u.2) bp bq one.1)

pub one_bad_line : OneBadLine
one_bad_line text a b x y =
    x.lines ∙ ap (λ n. n + 1) (one_bad AtTitle x.place y.place x.front y.front x.rest y.rest x.lawful y.lawful x.placed y.placed x.breaks y.breaks (sym x.split ∙ y.split)) ∙ sym y.lines

pub bad_is_no_document : BadIsNoDocument
bad_is_no_document text line b g = no_reading AtTitle b.place b.front g.0 b.rest b.lawful b.placed b.breaks g.1 (sym b.split ∙ g.2)

-- lines with one text are one list
pub lines_apart : (xs ys : List Entry) → AllByRecursion IsLine xs → AllByRecursion IsLine ys → text_of xs ≡ text_of ys → xs ≡ ys
lines_apart xs ys h k e = ended_apart 10 line_text IsLine line_free line_apart xs ys h k e

-- values with the same parts
same2 : {A B X : Type 0} {a c : A} {b d : B} (f : A → B → X) → a ≡ c → b ≡ d → f a b ≡ f c d
same2 f p q = cc

same5 : {A B C D E X : Type 0} {a g : A} {b h : B} {c k : C} {d l : D} {e m : E} (f : A → B → C → D → E → X) → a ≡ g → b ≡ h → c ≡ k → d ≡ l → e ≡ m → f a b c d e ≡ f g h k l m
same5 f p q r s t = cc

same3 : {A B C X : Type 0} {a d : A} {b e : B} {c g : C} (f : A → B → C → X) → a ≡ d → b ≡ e → c ≡ g → f a b c ≡ f d e g
same3 f p q r = cc

same4 : {A B C D X : Type 0} {a e : A} {b g : B} {c h : C} {d k : D} (f : A → B → C → D → X) → a ≡ e → b ≡ g → c ≡ h → d ≡ k → f a b c d ≡ f e g h k
same4 f p q r s = cc

abbrev range_of : ℕ → ℕ → Range
range_of low high = record { low = low; high = high }

abbrev pins_of : List ℕ → List ℕ → Pins
pins_of go stay = record { go = go; stay = stay }

abbrev heading : Range → Option Pins → Answer → Option Claimed → Option ℕ → Heading
heading range pins answer plan bound = record { range = range; pins = pins; answer = answer; plan = plan; bound = bound }

abbrev mult : ℕ → ℕ → List GiveValue → Multipliers
mult p q gives = record { p = p; q = q; gives = gives }

abbrev give_of : ℕ → ℕ → ℕ → ℕ → GiveValue
give_of class file charge reward = record { class = class; file = file; charge = charge; reward = reward }

abbrev claim : List ℕ → ℕ → ℕ → Claimed
claim set migrated replicated = record { set = set; migrated = migrated; replicated = replicated }

-- gives with one list of lines are one list
give_same : (g h : GiveValue) → give_entry g ≡ give_entry h → g ≡ h
give_same g h e = let c : g.class ≡ h.class = cc in let f : g.file ≡ h.file = cc in let x : g.charge ≡ h.charge = cc in let y : g.reward ≡ h.reward = cc in same4 give_of c f x y

gives_apart : (gs hs : List GiveValue) (xs ys : List Entry) → length gs ≡ length hs → map give_entry gs ++ xs ≡ map give_entry hs ++ ys → (gs ≡ hs) × (xs ≡ ys)
gives_apart [] [] xs ys n e = (refl, e)
gives_apart [] (h ∷ hs) xs ys n e = absurd (omega arith)
gives_apart (g ∷ gs) [] xs ys n e = absurd (omega arith)
gives_apart (g ∷ gs) (h ∷ hs) xs ys n e =
    let same : g ≡ h = give_same g h (head_same e) in
    let more = gives_apart gs hs xs ys (omega arith) (tail_same e) in
    let tail : gs ≡ hs = more.0 in
    (cc, more.1)

-- and so are nodes
node_apart : (n m : NodeLine) (xs ys : List Entry) → node_entries n ++ xs ≡ node_entries m ++ ys → (n ≡ m) × (xs ≡ ys)
node_apart (node.Branch f x y a b) (node.Branch g z w c d) xs ys e = let h : Branch f x y a b ≡ Branch g z w c d = head_same e in (cc, tail_same e)
node_apart node.Low node.Low xs ys e = (refl, tail_same e)
node_apart node.High node.High xs ys e = (refl, tail_same e)
node_apart (node.Leaf m) (node.Leaf k) xs ys e =
    let h : Leaf m.p m.q (length m.gives) ≡ Leaf k.p k.q (length k.gives) = head_same e in
    let p : m.p ≡ k.p = cc in
    let q : m.q ≡ k.q = cc in
    let n : length m.gives ≡ length k.gives = cc in
    let g = gives_apart m.gives k.gives xs ys n (tail_same e) in
    (ap node.Leaf (same3 mult p q g.0), g.1)
node_apart n m xs ys e = absurd (cc (head_same e))

not_end : (n : NodeLine) (xs : List Entry) → node_entries n ++ xs ≡ End ∷ [] → ⊥
not_end (node.Branch f x y a b) xs e = absurd (cc (head_same e))
not_end node.Low xs e = absurd (cc (head_same e))
not_end node.High xs e = absurd (cc (head_same e))
not_end (node.Leaf m) xs e = absurd (cc (head_same e))

nodes_apart : (ns ms : List NodeLine) → flat_map node_entries ns ++ End ∷ [] ≡ flat_map node_entries ms ++ End ∷ [] → ns ≡ ms
nodes_apart [] [] e = refl
nodes_apart [] (m ∷ ms) e = absurd (not_end m (flat_map node_entries ms ++ End ∷ []) (sym (e ∙ append_assoc (node_entries m) (flat_map node_entries ms) (End ∷ []))))
nodes_apart (n ∷ ns) [] e = absurd (not_end n (flat_map node_entries ns ++ End ∷ []) (sym (append_assoc (node_entries n) (flat_map node_entries ns) (End ∷ [])) ∙ e))
nodes_apart (n ∷ ns) (m ∷ ms) e =
    let x = node_apart n m (flat_map node_entries ns ++ End ∷ []) (flat_map node_entries ms ++ End ∷ [])
    (sym (append_assoc (node_entries n) (flat_map node_entries ns) (End ∷ [])) ∙ e ∙ append_assoc (node_entries m) (flat_map node_entries ms) (End ∷ [])) in
    let head : n ≡ m = x.0 in
    let tail : ns ≡ ms = nodes_apart ns ms x.1 in
    cc

-- and headings
plan_same : (c d : Option Claimed) → plan_entry c ≡ plan_entry d → c ≡ d
plan_same None None e = refl
plan_same None (Some d) e = absurd cc
plan_same (Some c) None e = absurd cc
plan_same (Some c) (Some d) e = let s : c.set ≡ d.set = cc in let m : c.migrated ≡ d.migrated = cc in let r : c.replicated ≡ d.replicated = cc in ap Some (same3 claim s m r)

bound_same : (z w : Option ℕ) → bound_entry z ≡ bound_entry w → z ≡ w
bound_same None None e = refl
bound_same None (Some w) e = absurd cc
bound_same (Some z) None e = absurd cc
bound_same (Some z) (Some w) e = let s : z ≡ w = cc in ap Some s

-- a range, with or without pins, an answer, a plan and a bound
record SameHeading (r s : Range) (p q : Option Pins) (a b : Answer) (c d : Option Claimed) (z w : Option ℕ) (xs ys : List Entry) : Type 0 where
  range : r ≡ s
  pins : p ≡ q
  answer : a ≡ b
  plan : c ≡ d
  bound : z ≡ w
  rest : xs ≡ ys

same_heading : (r s : Range) (p q : Option Pins) (a b : Answer) (c d : Option Claimed) (z w : Option ℕ) (xs ys : List Entry)
    → heading_entries (heading r p a c z) ++ xs ≡ heading_entries (heading s q b d w) ++ ys → SameHeading r s p q a b c d z w xs ys
same_heading r s None None a b c d z w xs ys e =
    let span : Span r.low r.high ≡ Span s.low s.high = cc in
    let low : r.low ≡ s.low = cc in
    let high : r.high ≡ s.high = cc in
    let answer : Answered a ≡ Answered b = cc in
    let plan : plan_entry c ≡ plan_entry d = cc in
    let bound : bound_entry z ≡ bound_entry w = cc in
    record { range = same2 range_of low high; pins = refl; answer = cc; plan = plan_same c d plan; bound = bound_same z w bound; rest = cc }
same_heading r s (Some p) (Some q) a b c d z w xs ys e =
    let span : Span r.low r.high ≡ Span s.low s.high = cc in
    let low : r.low ≡ s.low = cc in
    let high : r.high ≡ s.high = cc in
    let pins : Pinned p.go p.stay ≡ Pinned q.go q.stay = cc in
    let go : p.go ≡ q.go = cc in
    let stay : p.stay ≡ q.stay = cc in
    let answer : Answered a ≡ Answered b = cc in
    let plan : plan_entry c ≡ plan_entry d = cc in
    let bound : bound_entry z ≡ bound_entry w = cc in
    record { range = same2 range_of low high; pins = ap Some (same2 pins_of go stay); answer = cc; plan = plan_same c d plan; bound = bound_same z w bound; rest = cc }
same_heading r s p q a b c d z w xs ys e = absurd cc

pub one_document : OneDocument
one_document h k ns ms hn km e =
    let entries = lines_apart (document_entries h ns) (document_entries k ms) hn.lawful km.lawful e in
    let same = same_heading h.range k.range h.pins k.pins h.answer k.answer h.plan k.plan h.bound k.bound (flat_map node_entries ns ++ End ∷ []) (flat_map node_entries ms ++ End ∷ []) entries in
    let range : h.range ≡ k.range = same.range in
    let pins : h.pins ≡ k.pins = same.pins in
    let answer : h.answer ≡ k.answer = same.answer in
    let plan : h.plan ≡ k.plan = same.plan in
    let bound : h.bound ≡ k.bound = same.bound in
    (same5 heading range pins answer plan bound, nodes_apart ns ms same.rest)
