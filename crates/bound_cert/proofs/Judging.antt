-- Valid documents pass every judgement.
use Rattle.std.proofs.Common.{◌≡◌, ℕ, suc, ◌+◌, List, [], ◌∷◌, ◌++◌, Bool, true, false, cond, Option, Some, None, length, map, refl, sym, ◌∙◌, ap, subst, arith, eqb, append_assoc}
use Rattle.std.specs.Prelude.{option_map, IfSome, IsSomeAnd}
use Rattle.std.specs.List.{AllByRecursion, flat_map}
use Rattle.std.proofs.lemmas.Bool.{ne_eqb}
use Rattle.seed_model.specs.declared.node.Node.{Node}
use Rattle.seed_model.specs.declared.range.Range.{Range}
use Rattle.seed_model.specs.Tables.{TableValue}
use Rattle.seed_model.specs.Nodes.{IsLow, IsHigh, put_inside, put_outside}
use Rattle.bound_cert.specs.declared.place.Place.{Place}
use Rattle.bound_cert.specs.declared.place.Place.TheVariants.{AtTitle, AtSpan, AtPins, AtAnswer, AtPlan, AtNode, AtGive, Past}
use Rattle.bound_cert.specs.declared.heading.Pins.{Pins}
use Rattle.bound_cert.specs.declared.heading.Claimed.{Claimed}
use Rattle.bound_cert.specs.declared.heading.Heading.{Heading}
use Rattle.bound_cert.specs.declared.multipliers.Give.{Give as GiveValue}
use Rattle.bound_cert.specs.declared.multipliers.Multipliers.{Multipliers}
use Rattle.bound_cert.specs.declared.node_line.NodeLine.{NodeLine}
use Rattle.bound_cert.specs.declared.node_line.NodeLine.TheVariants as node
use Rattle.bound_cert.specs.Lines.{Entry, Title, Span, Pinned, Answered, Bounded, NoBound, Branch, Low, High, Leaf, End, IsLine}
use Rattle.bound_cert.specs.Grammar.{LeadsOn, after}
use Rattle.bound_cert.specs.Multipliers.{IsGive, AreCharged, AreRewarded, ReachesBound}
use Rattle.bound_cert.specs.declared.heading.Answer.{Answer}
use Rattle.bound_cert.specs.declared.place.Place.TheVariants.{AtBound}
use Rattle.bound_cert.specs.Sets.{root_of}
use Rattle.bound_cert.specs.Valid.{Agrees, ArePins, IsClaim, IsValid}
use Rattle.bound_cert.specs.Documents.{IsDocument, document_entries, give_entry, node_entries, plan_entry, bound_entry}
use Rattle.bound_cert.specs.Trees.{IsDeserved, ClosesByBound, Reads}
use Rattle.bound_cert.specs.Judgements.{Told, Tells, Keeps, Rule, Width, Answering, Sums, InReach, Difference, Mixing, Closing, Using, Charging, Rewarding, Reaching, Apart, Pinning, told_by, node_of, is_last, nothing_told}
use Rattle.bound_cert.proofs.LineTexts.{head_same}
use Rattle.bound_cert.proofs.Places.{first_of}
use Rattle.bound_cert.proofs.TreeReading.{lines_are_trees}
use Rattle.bound_cert.proofs.Placing.{some_same, leads_next, not_zero, at_node, at_branch, at_give, give_after}

-- the lines tell to the end
pub record Passes (table : TableValue) (told : Told) (es : List Entry) : Type 0 where
  pub end : Told
  pub tells : Tells table told es end
  pub past : end.place ≡ Past

-- one line more
pub step : (table : TableValue) (told next : Told) (e : Entry) (es : List Entry) (place : Place) → IsLine e → after told.place e ≡ Some place
    → ((rule : Rule) → Keeps table told e rule) → told_by table.files told place e ≡ next → Passes table next es → Passes table told (e ∷ es)
step table told next e es place lawful a keeps same p = record { end = p.end; tells = (lawful, keeps, behind (after told.place e) a); past = p.past }
  where
    behind : (o : Option Place) → o ≡ Some place → IsSomeAnd (option_map (λ x. told_by table.files told x e) o) (λ n. Tells table n es p.end)
    behind None h = absurd cc
    behind (Some x) h =
        let there : told_by table.files told x e ≡ next = ap (λ (y : Place). told_by table.files told y e) (some_same h) ∙ same in
        subst (λ (n : Told). Tells table n es p.end) (sym there) p.tells

-- the rules on each kind of line
keeps_branch : (table : TableValue) (told : Told) (f : ℕ) (p q : List ℕ) (a b : ℕ) → IsDeserved table told.range told.bound (node_of table.files told) f p q a b
    → (rule : Rule) → Keeps table told (Branch f p q a b) rule
keeps_branch table told f p q a b d Width = (d.first_set, d.second_set)
keeps_branch table told f p q a b d Difference = (d.free, d.differs)
keeps_branch table told f p q a b d Mixing = (d.mix, d.within)
keeps_branch table told f p q a b d rule = tt

keeps_low : (table : TableValue) (told : Told) → IsLow table told.range (node_of table.files told) → (rule : Rule) → Keeps table told Low rule
keeps_low table told l Closing = l
keeps_low table told l rule = tt

keeps_high : (table : TableValue) (told : Told) → IsHigh table told.range (node_of table.files told) → (rule : Rule) → Keeps table told High rule
keeps_high table told l Closing = l
keeps_high table told l rule = tt

keeps_end : (table : TableValue) (told : Told) (rule : Rule) → Keeps table told End rule
keeps_end table told Width = tt
keeps_end table told rule = tt

-- what a bound leaf keeps
pub record IsReached (table : TableValue) (range : Range) (bound : Option ℕ) (n : Node) (m : Multipliers) : Type 0 where
  pub users : AllByRecursion (IsGive table) m.gives
  pub charges : AreCharged table m.q m.gives
  pub rewards : AreRewarded table m.p m.gives
  pub bound_reached : IsSomeAnd bound (λ z. ReachesBound table range n z m)

reached : (table : TableValue) (range : Range) (bound : Option ℕ) (n : Node) (m : Multipliers) → ClosesByBound table range bound n m → IsReached table range bound n m
reached table range None n m c = absurd c
reached table range (Some z) n m c = record { users = c.0.each; charges = c.0.charges; rewards = c.0.rewards; bound_reached = c.1 }

abbrev pub mult : ℕ → ℕ → List GiveValue → Multipliers
mult p q gs = record { p = p; q = q; gives = gs }

-- what the lines have told inside a tree: the heading's part stays
abbrev pub in_tree : Told → List Node → Place → ℕ → ℕ → ℕ → List GiveValue → Told
in_tree base waiting place b p q gs = record { place = place; range = base.range; pins = base.pins; answer = base.answer; plan = base.plan; bound = base.bound; waiting = waiting; branchings = b; p = p; q = q; gives = gs }

-- a leaf's first line: the last one where it has no gives
keeps_bare : (table : TableValue) (told : Told) (n : Node) (p q : ℕ) → node_of table.files told ≡ n → IsReached table told.range told.bound n (mult p q []) → (rule : Rule) → Keeps table told (Leaf p q 0) rule
keeps_bare table told n p q at r Charging = r.charges
keeps_bare table told n p q at r Rewarding = r.rewards
keeps_bare table told n p q at r Reaching = subst (λ (x : Node). IsSomeAnd told.bound (λ z. ReachesBound table told.range x z (mult p q []))) (sym at) r.bound_reached
keeps_bare table told n p q at r rule = tt

keeps_leaf : (table : TableValue) (told : Told) (p q k : ℕ) → (rule : Rule) → Keeps table told (Leaf p q (suc k)) rule
keeps_leaf table told p q k Charging = rw (not_zero k) tt
keeps_leaf table told p q k Rewarding = rw (not_zero k) tt
keeps_leaf table told p q k Reaching = rw (not_zero k) tt
keeps_leaf table told p q k rule = tt

-- a give, the last of its leaf or not
keeps_last : (table : TableValue) (told : Told) (n : Node) (g : GiveValue) → node_of table.files told ≡ n → is_last told.place ≡ true → IsGive table g
    → IsReached table told.range told.bound n (mult told.p told.q (told.gives ++ g ∷ [])) → (rule : Rule) → Keeps table told (give_entry g) rule
keeps_last table told n g at last user r Using = user
keeps_last table told n g at last user r Charging = rw last r.charges
keeps_last table told n g at last user r Rewarding = rw last r.rewards
keeps_last table told n g at last user r Reaching = rw last (subst (λ (x : Node). IsSomeAnd told.bound (λ z. ReachesBound table told.range x z (mult told.p told.q (told.gives ++ g ∷ [])))) (sym at) r.bound_reached)
keeps_last table told n g at last user r rule = tt

keeps_give : (table : TableValue) (told : Told) (g : GiveValue) → is_last told.place ≡ false → IsGive table g → (rule : Rule) → Keeps table told (give_entry g) rule
keeps_give table told g more user Using = user
keeps_give table told g more user Charging = rw more tt
keeps_give table told g more user Rewarding = rw more tt
keeps_give table told g more user Reaching = rw more tt
keeps_give table told g more user rule = tt

pub not_one : (n : ℕ) → eqb (suc (suc n)) 1 ≡ false
not_one n = ne_eqb (suc (suc n)) 1 (λ e. omega (arith, e))

-- the gives of a leaf, with those before them
gives_pass : (table : TableValue) (base : Told) (n : Node) (st : List Node) (b p q : ℕ) (done : List GiveValue) (g : GiveValue) (todo : List GiveValue) (last : Option (ℕ × ℕ)) (es : List Entry)
    → AllByRecursion (IsGive table) (g ∷ todo) → IsReached table base.range base.bound n (mult p q (done ++ g ∷ todo))
    → LeadsOn (AtGive (length st) (suc (length todo)) last) (map give_entry (g ∷ todo) ++ es)
    → (LeadsOn (AtNode (length st)) es → Passes table (in_tree base st (AtNode (length st)) b p q (done ++ g ∷ todo)) es)
    → Passes table (in_tree base (n ∷ st) (AtGive (length st) (suc (length todo)) last) b p q done) (map give_entry (g ∷ todo) ++ es)
gives_pass table base n st b p q done g [] last es users r leads k =
    let f = first_of (AtGive (length st) 1 last) (give_entry g ∷ es) (λ e. absurd cc) leads in
    let at = at_give (length st) 0 last g.class g.file g.charge g.reward f.next (ap (after (AtGive (length st) 1 last)) (head_same f.is) ∙ f.placed) in
    let there : after (AtGive (length st) 1 last) (give_entry g) ≡ Some (AtNode (length st)) = give_after (length st) 0 last g.class g.file g.charge g.reward at.0 in
    let n2 = leads_next (AtGive (length st) 1 last) (AtNode (length st)) (give_entry g) es there leads in
    step table (in_tree base (n ∷ st) (AtGive (length st) 1 last) b p q done) (in_tree base st (AtNode (length st)) b p q (done ++ g ∷ [])) (give_entry g) es (AtNode (length st)) n2.0 there
    (keeps_last table (in_tree base (n ∷ st) (AtGive (length st) 1 last) b p q done) n g refl refl users.0 r) refl (k n2.1)
gives_pass table base n st b p q done g (h ∷ todo) last es users r leads k =
    let here : Told = in_tree base (n ∷ st) (AtGive (length st) (suc (suc (length todo))) last) b p q done in
    let rest : List Entry = map give_entry (h ∷ todo) ++ es in
    let f = first_of (AtGive (length st) (suc (suc (length todo))) last) (give_entry g ∷ rest) (λ e. absurd cc) leads in
    let at = at_give (length st) (suc (length todo)) last g.class g.file g.charge g.reward f.next (ap (after (AtGive (length st) (suc (suc (length todo))) last)) (head_same f.is) ∙ f.placed) in
    let next : Place = AtGive (length st) (suc (length todo)) (Some (g.class, g.file)) in
    let there : after (AtGive (length st) (suc (suc (length todo))) last) (give_entry g) ≡ Some next =
    give_after (length st) (suc (length todo)) last g.class g.file g.charge g.reward at.0 ∙ ap (λ (c : Bool). Some (cond c (AtNode (length st)) next)) (not_zero (length todo)) in
    let n2 = leads_next (AtGive (length st) (suc (suc (length todo))) last) next (give_entry g) rest there leads in
    let whole : done ++ g ∷ h ∷ todo ≡ (done ++ g ∷ []) ++ h ∷ todo = sym (append_assoc done (g ∷ []) (h ∷ todo)) in
    step table here (in_tree base (n ∷ st) next b p q (done ++ g ∷ [])) (give_entry g) rest next n2.0 there
    (keeps_give table here g (not_one (length todo)) users.0)
    (ap (λ (c : Bool). in_tree base (cond c st (n ∷ st)) next b p q (done ++ g ∷ [])) (not_one (length todo)))
    (gives_pass table base n st b p q (done ++ g ∷ []) h todo (Some (g.class, g.file)) es users.1
    (subst (λ (gs : List GiveValue). IsReached table base.range base.bound n (mult p q gs)) whole r) n2.1
    (λ l. subst (λ (gs : List GiveValue). Passes table (in_tree base st (AtNode (length st)) b p q gs) es) whole (k l)))

-- a leaf with its gives
leaf_pass : (table : TableValue) (base : Told) (n : Node) (st : List Node) (b p0 q0 : ℕ) (gs0 : List GiveValue) (p q : ℕ) (gs : List GiveValue) (es : List Entry)
    → IsReached table base.range base.bound n (mult p q gs)
    → LeadsOn (AtNode (suc (length st))) (Leaf p q (length gs) ∷ (map give_entry gs ++ es))
    → (LeadsOn (AtNode (length st)) es → Passes table (in_tree base st (AtNode (length st)) b p q gs) es)
    → Passes table (in_tree base (n ∷ st) (AtNode (suc (length st))) b p0 q0 gs0) (Leaf p q (length gs) ∷ (map give_entry gs ++ es))
leaf_pass table base n st b p0 q0 gs0 p q [] es r leads k =
    let here : Told = in_tree base (n ∷ st) (AtNode (suc (length st))) b p0 q0 gs0 in
    let there : after (AtNode (suc (length st))) (Leaf p q 0) ≡ Some (AtNode (length st)) = at_node (length st) (Leaf p q 0) in
    let n2 = leads_next (AtNode (suc (length st))) (AtNode (length st)) (Leaf p q 0) es there leads in
    step table here (in_tree base st (AtNode (length st)) b p q []) (Leaf p q 0) es (AtNode (length st)) n2.0 there (keeps_bare table here n p q refl r) refl (k n2.1)
leaf_pass table base n st b p0 q0 gs0 p q (g ∷ todo) es r leads k =
    let here : Told = in_tree base (n ∷ st) (AtNode (suc (length st))) b p0 q0 gs0 in
    let line : Entry = Leaf p q (suc (length todo)) in
    let rest : List Entry = map give_entry (g ∷ todo) ++ es in
    let next : Place = AtGive (length st) (suc (length todo)) None in
    let there : after (AtNode (suc (length st))) line ≡ Some next = at_node (length st) line ∙ ap (λ (c : Bool). Some (cond c (AtNode (length st)) next)) (not_zero (length todo)) in
    let n2 = leads_next (AtNode (suc (length st))) next line rest there leads in
    step table here (in_tree base (n ∷ st) next b p q []) line rest next n2.0 there (keeps_leaf table here p q (length todo))
    (ap (λ (c : Bool). in_tree base (cond c st (n ∷ st)) next b p q []) (not_zero (length todo)))
    (gives_pass table base n st b p q [] g todo None es r.users r n2.1 k)

-- the nodes of a tree, and `end`
nodes_pass : (table : TableValue) (base : Told) (nodes : List NodeLine) (st : List Node) (b p q : ℕ) (gs : List GiveValue) → Reads table base.range base.bound st nodes []
    → LeadsOn (AtNode (length st)) (flat_map node_entries nodes ++ End ∷ []) → Passes table (in_tree base st (AtNode (length st)) b p q gs) (flat_map node_entries nodes ++ End ∷ [])
nodes_pass table base [] [] b p q gs r leads =
    step table (in_tree base [] (AtNode 0) b p q gs) (in_tree base [] Past b p q gs) End [] Past tt refl (keeps_end table (in_tree base [] (AtNode 0) b p q gs)) refl
    (record { end = in_tree base [] Past b p q gs; tells = refl; past = refl })
nodes_pass table base [] (n ∷ st) b p q gs r leads = let e : (n ∷ st) ≡ [] = r in absurd cc
nodes_pass table base (line ∷ nodes) [] b p q gs r leads = absurd r
nodes_pass table base (node.Branch f x y a c ∷ nodes) (n ∷ st) b p q gs r leads =
    let here : Told = in_tree base (n ∷ st) (AtNode (suc (length st))) b p q gs in
    let rest : List Entry = flat_map node_entries nodes ++ End ∷ [] in
    let there = at_branch (length st) f x y a c in
    let n2 = leads_next (AtNode (suc (length st))) (AtNode (suc (suc (length st)))) (Branch f x y a c) rest there leads in
    step table here (in_tree base (put_outside f n ∷ put_inside f n ∷ st) (AtNode (suc (suc (length st)))) (b + 1) p q gs) (Branch f x y a c) rest (AtNode (suc (suc (length st)))) n2.0 there
    (keeps_branch table here f x y a c r.0) refl (nodes_pass table base nodes (put_outside f n ∷ put_inside f n ∷ st) (b + 1) p q gs r.1 n2.1)
nodes_pass table base (node.Low ∷ nodes) (n ∷ st) b p q gs r leads =
    let here : Told = in_tree base (n ∷ st) (AtNode (suc (length st))) b p q gs in
    let rest : List Entry = flat_map node_entries nodes ++ End ∷ [] in
    let there = at_node (length st) Low in
    let n2 = leads_next (AtNode (suc (length st))) (AtNode (length st)) Low rest there leads in
    step table here (in_tree base st (AtNode (length st)) b p q gs) Low rest (AtNode (length st)) n2.0 there (keeps_low table here r.0) refl (nodes_pass table base nodes st b p q gs r.1 n2.1)
nodes_pass table base (node.High ∷ nodes) (n ∷ st) b p q gs r leads =
    let here : Told = in_tree base (n ∷ st) (AtNode (suc (length st))) b p q gs in
    let rest : List Entry = flat_map node_entries nodes ++ End ∷ [] in
    let there = at_node (length st) High in
    let n2 = leads_next (AtNode (suc (length st))) (AtNode (length st)) High rest there leads in
    step table here (in_tree base st (AtNode (length st)) b p q gs) High rest (AtNode (length st)) n2.0 there (keeps_high table here r.0) refl (nodes_pass table base nodes st b p q gs r.1 n2.1)
nodes_pass table base (node.Leaf m ∷ nodes) (n ∷ st) b p q gs r leads =
    let rest : List Entry = flat_map node_entries nodes ++ End ∷ [] in
    let line : Entry = Leaf m.p m.q (length m.gives) in
    let whole : (map give_entry m.gives ++ flat_map node_entries nodes) ++ End ∷ [] ≡ map give_entry m.gives ++ rest = append_assoc (map give_entry m.gives) (flat_map node_entries nodes) (End ∷ []) in
    subst (λ (es : List Entry). Passes table (in_tree base (n ∷ st) (AtNode (suc (length st))) b p q gs) (line ∷ es)) (sym whole)
    (leaf_pass table base n st b p q gs m.p m.q m.gives rest (reached table base.range base.bound n m r.0)
    (subst (λ (es : List Entry). LeadsOn (AtNode (suc (length st))) (line ∷ es)) whole leads)
    (λ l. nodes_pass table base nodes st b m.p m.q m.gives r.1 l))

-- the rules on the lines of a heading
keeps_title : (table : TableValue) (told : Told) (v : ℕ) (rule : Rule) → Keeps table told (Title v) rule
keeps_title table told v Width = tt
keeps_title table told v rule = tt

keeps_span : (table : TableValue) (told : Told) (a b : ℕ) (rule : Rule) → Keeps table told (Span a b) rule
keeps_span table told a b Width = tt
keeps_span table told a b rule = tt

keeps_answer : (table : TableValue) (told : Told) (a : Answer) (rule : Rule) → Keeps table told (Answered a) rule
keeps_answer table told a Width = tt
keeps_answer table told a rule = tt

keeps_pins : (table : TableValue) (told : Told) (pins : Pins) → ArePins table.files (Some pins) → (rule : Rule) → Keeps table told (Pinned pins.go pins.stay) rule
keeps_pins table told pins h Width = (h.0, h.1)
keeps_pins table told pins h Apart = h.2.apart
keeps_pins table told pins h rule = tt

keeps_plan : (table : TableValue) (told : Told) (plan : Option Claimed) → IfSome plan (IsClaim table told.range (root_of table.files told.pins)) → (rule : Rule) → Keeps table told (plan_entry plan) rule
keeps_plan table told None h Width = tt
keeps_plan table told None h rule = tt
keeps_plan table told (Some c) h Width = h.set
keeps_plan table told (Some c) h Sums = (h.migrated, h.replicated)
keeps_plan table told (Some c) h InReach = h.admitted.in_range
keeps_plan table told (Some c) h Pinning = h.admitted.member
keeps_plan table told (Some c) h rule = tt

keeps_bound : (table : TableValue) (told : Told) (bound : Option ℕ) → Agrees told.answer told.plan bound → (rule : Rule) → Keeps table told (bound_entry bound) rule
keeps_bound table told None h Answering = h
keeps_bound table told None h rule = tt
keeps_bound table told (Some z) h Answering = h
keeps_bound table told (Some z) h rule = tt

-- the bound, and the tree
bound_pass : (table : TableValue) (told : Told) (bound : Option ℕ) (nodes : List NodeLine) → told.place ≡ AtBound → Agrees told.answer told.plan bound
    → Reads table told.range bound (root_of table.files told.pins ∷ []) nodes [] → LeadsOn AtBound (bound_entry bound ∷ (flat_map node_entries nodes ++ End ∷ []))
    → Passes table told (bound_entry bound ∷ (flat_map node_entries nodes ++ End ∷ []))
bound_pass table told None nodes at agrees reads leads =
    let next : Told = record told { place = AtNode 1; bound = None; waiting = root_of table.files told.pins ∷ [] } in
    let rest : List Entry = flat_map node_entries nodes ++ End ∷ [] in
    let n2 = leads_next AtBound (AtNode 1) NoBound rest refl leads in
    step table told next NoBound rest (AtNode 1) n2.0 (ap (λ (x : Place). after x NoBound) at) (keeps_bound table told None agrees) refl
    (nodes_pass table next nodes (root_of table.files told.pins ∷ []) told.branchings told.p told.q told.gives reads n2.1)
bound_pass table told (Some z) nodes at agrees reads leads =
    let next : Told = record told { place = AtNode 1; bound = Some z; waiting = root_of table.files told.pins ∷ [] } in
    let rest : List Entry = flat_map node_entries nodes ++ End ∷ [] in
    let n2 = leads_next AtBound (AtNode 1) (Bounded z) rest refl leads in
    step table told next (Bounded z) rest (AtNode 1) n2.0 (ap (λ (x : Place). after x (Bounded z)) at) (keeps_bound table told (Some z) agrees) refl
    (nodes_pass table next nodes (root_of table.files told.pins ∷ []) told.branchings told.p told.q told.gives reads n2.1)

-- the plan, and what is behind it
plan_after : (plan : Option Claimed) → after AtPlan (plan_entry plan) ≡ Some AtBound
plan_after None = refl
plan_after (Some c) = refl

plan_told : (files : ℕ) (told : Told) (plan : Option Claimed) → told_by files told AtBound (plan_entry plan) ≡ record told { place = AtBound; plan = plan }
plan_told files told None = refl
plan_told files told (Some c) = refl

plan_pass : (table : TableValue) (told : Told) (plan : Option Claimed) (bound : Option ℕ) (nodes : List NodeLine) → told.place ≡ AtPlan → IfSome plan (IsClaim table told.range (root_of table.files told.pins))
    → Agrees told.answer plan bound → Reads table told.range bound (root_of table.files told.pins ∷ []) nodes []
    → LeadsOn AtPlan (plan_entry plan ∷ bound_entry bound ∷ (flat_map node_entries nodes ++ End ∷ []))
    → Passes table told (plan_entry plan ∷ bound_entry bound ∷ (flat_map node_entries nodes ++ End ∷ []))
plan_pass table told plan bound nodes at claim agrees reads leads =
    let next : Told = record told { place = AtBound; plan = plan } in
    let rest : List Entry = bound_entry bound ∷ (flat_map node_entries nodes ++ End ∷ []) in
    let n2 = leads_next AtPlan AtBound (plan_entry plan) rest (plan_after plan) leads in
    step table told next (plan_entry plan) rest AtBound n2.0 (ap (λ (x : Place). after x (plan_entry plan)) at ∙ plan_after plan) (keeps_plan table told plan claim) (plan_told table.files told plan)
    (bound_pass table next bound nodes refl agrees reads n2.1)

answer_pass : (table : TableValue) (told : Told) (answer : Answer) (plan : Option Claimed) (bound : Option ℕ) (nodes : List NodeLine) → told.place ≡ AtAnswer
    → IfSome plan (IsClaim table told.range (root_of table.files told.pins)) → Agrees answer plan bound → Reads table told.range bound (root_of table.files told.pins ∷ []) nodes []
    → LeadsOn AtAnswer (Answered answer ∷ plan_entry plan ∷ bound_entry bound ∷ (flat_map node_entries nodes ++ End ∷ []))
    → Passes table told (Answered answer ∷ plan_entry plan ∷ bound_entry bound ∷ (flat_map node_entries nodes ++ End ∷ []))
answer_pass table told answer plan bound nodes at claim agrees reads leads =
    let next : Told = record told { place = AtPlan; answer = answer } in
    let rest : List Entry = plan_entry plan ∷ bound_entry bound ∷ (flat_map node_entries nodes ++ End ∷ []) in
    let n2 = leads_next AtAnswer AtPlan (Answered answer) rest refl leads in
    step table told next (Answered answer) rest AtPlan n2.0 (ap (λ (x : Place). after x (Answered answer)) at) (keeps_answer table told answer) refl
    (plan_pass table next plan bound nodes refl claim agrees reads n2.1)

-- a heading with or without pins
heading_pass : (table : TableValue) (range : Range) (pins : Option Pins) (answer : Answer) (plan : Option Claimed) (bound : Option ℕ) (nodes : List NodeLine)
    → ArePins table.files pins → IfSome plan (IsClaim table range (root_of table.files pins)) → Agrees answer plan bound → Reads table range bound (root_of table.files pins ∷ []) nodes []
    → IsDocument (record { range = range; pins = pins; answer = answer; plan = plan; bound = bound }) nodes
    → Passes table nothing_told (document_entries (record { range = range; pins = pins; answer = answer; plan = plan; bound = bound }) nodes)
heading_pass table range None answer plan bound nodes pinned claim agrees reads leads =
    let rest : List Entry = Answered answer ∷ plan_entry plan ∷ bound_entry bound ∷ (flat_map node_entries nodes ++ End ∷ []) in
    let t1 : Told = record nothing_told { place = AtSpan 1 } in
    let t2 : Told = record nothing_told { place = AtAnswer; range = range } in
    let n1 = leads_next AtTitle (AtSpan 1) (Title 1) (Span range.low range.high ∷ rest) refl leads in
    let n2 = leads_next (AtSpan 1) AtAnswer (Span range.low range.high) rest refl n1.1 in
    step table nothing_told t1 (Title 1) (Span range.low range.high ∷ rest) (AtSpan 1) n1.0 refl (keeps_title table nothing_told 1) refl
    (step table t1 t2 (Span range.low range.high) rest AtAnswer n2.0 refl (keeps_span table t1 range.low range.high) refl
    (answer_pass table t2 answer plan bound nodes refl claim agrees reads n2.1))
heading_pass table range (Some pins) answer plan bound nodes pinned claim agrees reads leads =
    let rest : List Entry = Answered answer ∷ plan_entry plan ∷ bound_entry bound ∷ (flat_map node_entries nodes ++ End ∷ []) in
    let t1 : Told = record nothing_told { place = AtSpan 2 } in
    let t2 : Told = record nothing_told { place = AtPins; range = range } in
    let t3 : Told = record nothing_told { place = AtAnswer; range = range; pins = Some pins } in
    let n1 = leads_next AtTitle (AtSpan 2) (Title 2) (Span range.low range.high ∷ Pinned pins.go pins.stay ∷ rest) refl leads in
    let n2 = leads_next (AtSpan 2) AtPins (Span range.low range.high) (Pinned pins.go pins.stay ∷ rest) refl n1.1 in
    let n3 = leads_next AtPins AtAnswer (Pinned pins.go pins.stay) rest refl n2.1 in
    step table nothing_told t1 (Title 2) (Span range.low range.high ∷ Pinned pins.go pins.stay ∷ rest) (AtSpan 2) n1.0 refl (keeps_title table nothing_told 2) refl
    (step table t1 t2 (Span range.low range.high) (Pinned pins.go pins.stay ∷ rest) AtPins n2.0 refl (keeps_span table t1 range.low range.high) refl
    (step table t2 t3 (Pinned pins.go pins.stay) rest AtAnswer n3.0 refl (keeps_pins table t2 pins pinned) refl
    (answer_pass table t3 answer plan bound nodes refl claim agrees reads n3.1)))

pub valid_passes : (table : TableValue) (h : Heading) (nodes : List NodeLine) → IsDocument h nodes → IsValid table h nodes → Passes table nothing_told (document_entries h nodes)
valid_passes table h nodes document v =
    heading_pass table h.range h.pins h.answer h.plan h.bound nodes v.pins v.plan v.agrees
    ((lines_are_trees table h.range h.bound (root_of table.files h.pins) nodes).1 (v.tree, v.lines, v.stands)) document
