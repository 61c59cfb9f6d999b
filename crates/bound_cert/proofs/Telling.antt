-- What passes every judgement is a valid document.
use Rattle.std.proofs.Common.{◌≡◌, ℕ, zero, suc, ◌+◌, ◌≤◌, List, [], ◌∷◌, ◌++◌, Bool, cond, Option, Some, None, length, map, refl, sym, ◌∙◌, ap, subst, arith, append_assoc, inl, inr}
use Rattle.std.specs.Prelude.{option_map, option_and_then, IfSome, IsSomeAnd}
use Rattle.std.specs.List.{AllByRecursion, flat_map}
use Rattle.std.specs.Result.{result_unwrap_or}
use Rattle.std.proofs.lemmas.Bool.{ne_eqb, eq-eqb, cases_eq}
use Rattle.std.proofs.lemmas.List.FromFn.{length-map-range_with_len}
use Rattle.hex.specs.Hex.{decode_of}
use Rattle.seed_text.specs.SetTexts.{has_file}
use Rattle.seed_model.specs.declared.node.Node.{Node}
use Rattle.seed_model.specs.declared.range.Range.{Range}
use Rattle.seed_model.specs.Tables.{TableValue}
use Rattle.seed_model.specs.Nodes.{put_inside, put_outside}
use Rattle.bound_cert.specs.declared.place.Place.{Place}
use Rattle.bound_cert.specs.declared.place.Place.TheVariants.{AtTitle, AtSpan, AtPins, AtAnswer, AtPlan, AtBound, AtNode, AtGive, Past}
use Rattle.bound_cert.specs.declared.heading.Answer.{Answer}
use Rattle.bound_cert.specs.declared.heading.Pins.{Pins}
use Rattle.bound_cert.specs.declared.heading.Claimed.{Claimed}
use Rattle.bound_cert.specs.declared.heading.Heading.{Heading}
use Rattle.bound_cert.specs.declared.multipliers.Give.{Give as GiveValue}
use Rattle.bound_cert.specs.declared.multipliers.Multipliers.{Multipliers}
use Rattle.bound_cert.specs.declared.node_line.NodeLine.{NodeLine}
use Rattle.bound_cert.specs.declared.node_line.NodeLine.TheVariants as node
use Rattle.bound_cert.specs.Lines.{Entry, Title, Span, Pinned, Answered, Planned, NoPlan, Bounded, NoBound, Branch, Low, High, Leaf, Give, End}
use Rattle.bound_cert.specs.Grammar.{LeadsOn, after, after_all}
use Rattle.bound_cert.specs.Multipliers.{IsGive, AreCharged, AreRewarded, ReachesBound}
use Rattle.bound_cert.specs.Sets.{root_of, set_named}
use Rattle.bound_cert.specs.Valid.{Agrees, ArePins, IsClaim, IsValid}
use Rattle.bound_cert.specs.Documents.{document_entries, give_entry, node_entries, plan_entry, bound_entry}
use Rattle.bound_cert.specs.Trees.{IsDeserved, ClosesByBound, Reads}
use Rattle.bound_cert.specs.Judgements.{Told, Tells, Width, Answering, Sums, InReach, Difference, Mixing, Closing, Using, Charging, Rewarding, Reaching, Apart, Pinning, told_by, nothing_told}
use Rattle.bound_cert.proofs.TreeReading.{lines_are_trees}
use Rattle.bound_cert.proofs.Placing.{some_same, not_zero, at_node, at_branch, at_give, at_give_line}
use Rattle.bound_cert.proofs.Judging.{in_tree, mult, IsReached, not_one}

-- where a line leads
pub record Led (table : TableValue) (told : Told) (e : Entry) (es : List Entry) (end : Told) : Type 0 where
  pub place : Place
  pub placed : after told.place e ≡ Some place
  pub tells : Tells table (told_by table.files told place e) es end

pub led : (table : TableValue) (told : Told) (e : Entry) (es : List Entry) (end : Told) → Tells table told (e ∷ es) end → Led table told e es end
led table told e es end t = by (after told.place e) refl t.2
  where
    by : (o : Option Place) → after told.place e ≡ o → IsSomeAnd (option_map (λ x. told_by table.files told x e) o) (λ n. Tells table n es end) → Led table told e es end
    by None h s = absurd s
    by (Some x) h s = record { place = x; placed = h; tells = s }

-- lines that tell to the end lead there
pub tells_lead : (table : TableValue) (told end : Told) (es : List Entry) → Tells table told es end → end.place ≡ Past → LeadsOn told.place es
tells_lead table told end [] t past = record { lawful = tt; placed = ap (λ (x : Told). Some x.place) t ∙ ap (λ (p : Place). Some p) past }
tells_lead table told end (e ∷ es) t past =
    let l = led table told e es end t in
    let more = tells_lead table (told_by table.files told l.place e) end es l.tells past in
    let same = place_of table.files told l.place e in
    record {
      lawful = (t.0, more.lawful);
      placed = ap (λ (o : Option Place). option_and_then (λ n. after_all n es) o) l.placed ∙ ap (λ (p : Place). after_all p es) (sym same) ∙ more.placed;
    }
  where
    place_of : (files : ℕ) (s : Told) (p : Place) (d : Entry) → (told_by files s p d).place ≡ p
    place_of files s p (Title v) = refl
    place_of files s p (Span a b) = refl
    place_of files s p (Pinned g t) = refl
    place_of files s p (Answered a) = refl
    place_of files s p (Planned x m r) = refl
    place_of files s p NoPlan = refl
    place_of files s p (Bounded z) = refl
    place_of files s p NoBound = refl
    place_of files s p (Branch f x y a b) = refl
    place_of files s p Low = refl
    place_of files s p High = refl
    place_of files s p (Leaf x y k) = refl
    place_of files s p (Give c f a b) = refl
    place_of files s p End = refl

-- nothing is told behind the last line
past_stops : (table : TableValue) (told end : Told) (es : List Entry) → Tells table told es end → told.place ≡ Past → es ≡ []
past_stops table told end [] t at = refl
past_stops table told end (e ∷ es) t at = let l = led table told e es end t in let none : None ≡ Some l.place = sym (ap (λ (p : Place). after p e) at) ∙ l.placed in absurd cc

-- a leaf whose rules are kept closes its node
closes : (table : TableValue) (range : Range) (bound : Option ℕ) (n : Node) (m : Multipliers) → 1 ≤ m.q → AllByRecursion (IsGive table) m.gives → AreCharged table m.q m.gives → AreRewarded table m.p m.gives
    → IsSomeAnd bound (λ z. ReachesBound table range n z m) → ClosesByBound table range bound n m
closes table range None n m q users charges rewards r = absurd r
closes table range (Some z) n m q users charges rewards r = (record { positive = q; each = users; charges = charges; rewards = rewards }, r)

-- the gives of a leaf that lines tell, with those before them
record GivesTold (table : TableValue) (base : Told) (n : Node) (st : List Node) (b p q : ℕ) (done : List GiveValue) (k fuel : ℕ) (es : List Entry) (end : Told) : Type 0 where
  gives : List GiveValue
  rest : List Entry
  is : es ≡ map give_entry gives ++ rest
  many : length gives ≡ suc k
  shorter : length rest ≤ fuel
  reached : IsReached table base.range base.bound n (mult p q (done ++ gives))
  tells : Tells table (in_tree base st (AtNode (length st)) b p q (done ++ gives)) rest end

users_more : (table : TableValue) (xs : List GiveValue) (g : GiveValue) → AllByRecursion (IsGive table) xs → IsGive table g → AllByRecursion (IsGive table) (xs ++ g ∷ [])
users_more table [] g all h = (h, tt)
users_more table (x ∷ xs) g all h = (all.0, users_more table xs g all.1 h)

gives_told : (table : TableValue) (base : Told) (n : Node) (st : List Node) (b p q : ℕ) (done : List GiveValue) (k fuel : ℕ) (last : Option (ℕ × ℕ)) (es : List Entry) (end : Told)
    → length es ≤ fuel → AllByRecursion (IsGive table) done → Tells table (in_tree base (n ∷ st) (AtGive (length st) (suc k) last) b p q done) es end → end.place ≡ Past
    → GivesTold table base n st b p q done k fuel es end
gives_told table base n st b p q done k fuel last [] end le users t past = let e : AtGive (length st) (suc k) last ≡ end.place = ap (λ (x : Told). x.place) t in absurd cc
gives_told table base n st b p q done zero fuel last (Give c f x y ∷ es) end le users t past =
    let here : Told = in_tree base (n ∷ st) (AtGive (length st) 1 last) b p q done in
    let l = led table here (Give c f x y) es end t in
    let at = at_give (length st) 0 last c f x y l.place l.placed in
    let g : GiveValue = record { class = c; file = f; charge = x; reward = y } in
    record {
      gives = g ∷ [];
      rest = es;
      is = refl;
      many = refl;
      shorter = omega (arith, le);
      reached = record { users = users_more table done g users (t.1 Using); charges = t.1 Charging; rewards = t.1 Rewarding; bound_reached = t.1 Reaching };
      tells = subst (λ (pl : Place). Tells table (told_by table.files here pl (Give c f x y)) es end) at.1 l.tells;
    }
gives_told table base n st b p q done (suc k) fuel last (Give c f x y ∷ es) end le users t past =
    let here : Told = in_tree base (n ∷ st) (AtGive (length st) (suc (suc k)) last) b p q done in
    let l = led table here (Give c f x y) es end t in
    let at = at_give (length st) (suc k) last c f x y l.place l.placed in
    let g : GiveValue = record { class = c; file = f; charge = x; reward = y } in
    let next : Place = AtGive (length st) (suc k) (Some (c, f)) in
    let there : l.place ≡ next = at.1 ∙ ap (λ (d : Bool). cond d (AtNode (length st)) next) (not_zero k) in
    let moved : Tells table (told_by table.files here next (Give c f x y)) es end = subst (λ (pl : Place). Tells table (told_by table.files here pl (Give c f x y)) es end) there l.tells in
    let stays : Tells table (in_tree base (n ∷ st) next b p q (done ++ g ∷ [])) es end = subst (λ (d : Bool). Tells table (in_tree base (cond d st (n ∷ st)) next b p q (done ++ g ∷ [])) es end) (not_one k) moved in
    let more = gives_told table base n st b p q (done ++ g ∷ []) k fuel (Some (c, f)) es end (omega (arith, le)) (users_more table done g users (t.1 Using)) stays past in
    let whole : (done ++ g ∷ []) ++ more.gives ≡ done ++ g ∷ more.gives = append_assoc done (g ∷ []) more.gives in
    record {
      gives = g ∷ more.gives;
      rest = more.rest;
      is = ap (λ r. Give c f x y ∷ r) more.is;
      many = ap suc more.many;
      shorter = more.shorter;
      reached = subst (λ (gs : List GiveValue). IsReached table base.range base.bound n (mult p q gs)) whole more.reached;
      tells = subst (λ (gs : List GiveValue). Tells table (in_tree base st (AtNode (length st)) b p q gs) more.rest end) whole more.tells;
    }
gives_told table base n st b p q done k fuel last (e ∷ es) end le users t past =
    let l = led table (in_tree base (n ∷ st) (AtGive (length st) (suc k) last) b p q done) e es end t in absurd (cc (sym (at_give_line (length st) k last e) ∙ l.placed))

-- the nodes that lines tell
record NodesTold (table : TableValue) (base : Told) (st : List Node) (es : List Entry) : Type 0 where
  nodes : List NodeLine
  is : es ≡ flat_map node_entries nodes ++ End ∷ []
  reads : Reads table base.range base.bound st nodes []

nodes_told : (table : TableValue) (base : Told) (fuel : ℕ) (es : List Entry) (st : List Node) (b p q : ℕ) (gs : List GiveValue) (end : Told)
    → length es ≤ fuel → Tells table (in_tree base st (AtNode (length st)) b p q gs) es end → end.place ≡ Past → NodesTold table base st es
nodes_told table base fuel [] st b p q gs end le t past = let e : AtNode (length st) ≡ end.place = ap (λ (x : Told). x.place) t in absurd cc
nodes_told table base zero (e ∷ es) st b p q gs end le t past = absurd (omega arith)
nodes_told table base (suc fuel) (End ∷ es) [] b p q gs end le t past =
    let l = led table (in_tree base [] (AtNode 0) b p q gs) End es end t in
    let stop = past_stops table (in_tree base [] l.place b p q gs) end es l.tells (sym (some_same l.placed)) in
    record { nodes = []; is = ap (λ r. End ∷ r) stop; reads = refl }
nodes_told table base (suc fuel) (e ∷ es) [] b p q gs end le t past =
    let l = led table (in_tree base [] (AtNode 0) b p q gs) e es end t in absurd (cc (l.placed))
nodes_told table base (suc fuel) (Branch f x y a c ∷ es) (n ∷ st) b p q gs end le t past =
    let here : Told = in_tree base (n ∷ st) (AtNode (suc (length st))) b p q gs in
    let l = led table here (Branch f x y a c) es end t in
    let there : l.place ≡ AtNode (suc (suc (length st))) = some_same (sym l.placed ∙ at_branch (length st) f x y a c) in
    let more = nodes_told table base fuel es (put_outside f n ∷ put_inside f n ∷ st) (b + 1) p q gs end (omega (arith, le))
    (subst (λ (pl : Place). Tells table (told_by table.files here pl (Branch f x y a c)) es end) there l.tells) past in
    let right : IsDeserved table base.range base.bound n f x y a c = record { first_set = (t.1 Width).0; second_set = (t.1 Width).1; free = (t.1 Difference).0; differs = (t.1 Difference).1; mix = (t.1 Mixing).0; within = (t.1 Mixing).1 } in
    record { nodes = node.Branch f x y a c ∷ more.nodes; is = ap (λ r. Branch f x y a c ∷ r) more.is; reads = (right, more.reads) }
nodes_told table base (suc fuel) (Low ∷ es) (n ∷ st) b p q gs end le t past =
    let here : Told = in_tree base (n ∷ st) (AtNode (suc (length st))) b p q gs in
    let l = led table here Low es end t in
    let there : l.place ≡ AtNode (length st) = some_same (sym l.placed ∙ at_node (length st) Low) in
    let more = nodes_told table base fuel es st b p q gs end (omega (arith, le)) (subst (λ (pl : Place). Tells table (told_by table.files here pl Low) es end) there l.tells) past in
    record { nodes = node.Low ∷ more.nodes; is = ap (λ r. Low ∷ r) more.is; reads = (t.1 Closing, more.reads) }
nodes_told table base (suc fuel) (High ∷ es) (n ∷ st) b p q gs end le t past =
    let here : Told = in_tree base (n ∷ st) (AtNode (suc (length st))) b p q gs in
    let l = led table here High es end t in
    let there : l.place ≡ AtNode (length st) = some_same (sym l.placed ∙ at_node (length st) High) in
    let more = nodes_told table base fuel es st b p q gs end (omega (arith, le)) (subst (λ (pl : Place). Tells table (told_by table.files here pl High) es end) there l.tells) past in
    record { nodes = node.High ∷ more.nodes; is = ap (λ r. High ∷ r) more.is; reads = (t.1 Closing, more.reads) }
nodes_told table base (suc fuel) (Leaf x y zero ∷ es) (n ∷ st) b p q gs end le t past =
    let here : Told = in_tree base (n ∷ st) (AtNode (suc (length st))) b p q gs in
    let l = led table here (Leaf x y 0) es end t in
    let there : l.place ≡ AtNode (length st) = some_same (sym l.placed ∙ at_node (length st) (Leaf x y 0)) in
    let more = nodes_told table base fuel es st b x y [] end (omega (arith, le)) (subst (λ (pl : Place). Tells table (told_by table.files here pl (Leaf x y 0)) es end) there l.tells) past in
    let right : ClosesByBound table base.range base.bound n (mult x y []) = closes table base.range base.bound n (mult x y []) t.0.1 tt (t.1 Charging) (t.1 Rewarding) (t.1 Reaching) in
    record { nodes = node.Leaf (mult x y []) ∷ more.nodes; is = ap (λ r. Leaf x y 0 ∷ r) more.is; reads = (right, more.reads) }
nodes_told table base (suc fuel) (Leaf x y (suc k) ∷ es) (n ∷ st) b p q gs end le t past =
    let here : Told = in_tree base (n ∷ st) (AtNode (suc (length st))) b p q gs in
    let line : Entry = Leaf x y (suc k) in
    let l = led table here line es end t in
    let next : Place = AtGive (length st) (suc k) None in
    let there : l.place ≡ next = some_same (sym l.placed ∙ at_node (length st) line ∙ ap (λ (d : Bool). Some (cond d (AtNode (length st)) next)) (not_zero k)) in
    let moved : Tells table (told_by table.files here next line) es end = subst (λ (pl : Place). Tells table (told_by table.files here pl line) es end) there l.tells in
    let stays : Tells table (in_tree base (n ∷ st) next b x y []) es end = subst (λ (d : Bool). Tells table (in_tree base (cond d st (n ∷ st)) next b x y []) es end) (not_zero k) moved in
    let g = gives_told table base n st b x y [] k fuel None es end (omega (arith, le)) tt stays past in
    let more = nodes_told table base fuel g.rest st b x y g.gives end g.shorter g.tells past in
    let right : ClosesByBound table base.range base.bound n (mult x y g.gives) = closes table base.range base.bound n (mult x y g.gives) t.0.1 g.reached.users g.reached.charges g.reached.rewards g.reached.bound_reached in
    record {
      nodes = node.Leaf (mult x y g.gives) ∷ more.nodes;
      is = ap (λ (m : ℕ). Leaf x y m ∷ es) (sym g.many) ∙ ap (λ r. Leaf x y (length g.gives) ∷ r) (g.is ∙ ap (λ r. map give_entry g.gives ++ r) more.is ∙ sym (append_assoc (map give_entry g.gives) (flat_map node_entries more.nodes) (End ∷ [])));
      reads = (right, more.reads);
    }
nodes_told table base (suc fuel) (e ∷ es) (n ∷ st) b p q gs end le t past =
    let l = led table (in_tree base (n ∷ st) (AtNode (suc (length st))) b p q gs) e es end t in
    let none = sym l.placed ∙ at_node (length st) e in absurd (cc (none))

-- what the lines from the bound on tell
record BoundTold (table : TableValue) (told : Told) (es : List Entry) : Type 0 where
  bound : Option ℕ
  nodes : List NodeLine
  is : es ≡ bound_entry bound ∷ (flat_map node_entries nodes ++ End ∷ [])
  agrees : Agrees told.answer told.plan bound
  reads : Reads table told.range bound (root_of table.files told.pins ∷ []) nodes []

bound_told : (table : TableValue) (told : Told) (es : List Entry) (end : Told) → told.place ≡ AtBound → Tells table told es end → end.place ≡ Past → BoundTold table told es
bound_told table told [] end at t past = let e : told.place ≡ end.place = ap (λ (x : Told). x.place) t in absurd cc
bound_told table told (Bounded z ∷ es) end at t past =
    let l = led table told (Bounded z) es end t in
    let next : Told = record told { place = AtNode 1; bound = Some z; waiting = root_of table.files told.pins ∷ [] } in
    let there : l.place ≡ AtNode 1 = some_same (sym l.placed ∙ ap (λ (p : Place). after p (Bounded z)) at) in
    let moved : Tells table next es end = subst (λ (pl : Place). Tells table (told_by table.files told pl (Bounded z)) es end) there l.tells in
    let more = nodes_told table next (length es) es (root_of table.files told.pins ∷ []) told.branchings told.p told.q told.gives end (omega arith) moved past in
    record { bound = Some z; nodes = more.nodes; is = ap (λ r. Bounded z ∷ r) more.is; agrees = t.1 Answering; reads = more.reads }
bound_told table told (NoBound ∷ es) end at t past =
    let l = led table told NoBound es end t in
    let next : Told = record told { place = AtNode 1; bound = None; waiting = root_of table.files told.pins ∷ [] } in
    let there : l.place ≡ AtNode 1 = some_same (sym l.placed ∙ ap (λ (p : Place). after p NoBound) at) in
    let moved : Tells table next es end = subst (λ (pl : Place). Tells table (told_by table.files told pl NoBound) es end) there l.tells in
    let more = nodes_told table next (length es) es (root_of table.files told.pins ∷ []) told.branchings told.p told.q told.gives end (omega arith) moved past in
    record { bound = None; nodes = more.nodes; is = ap (λ r. NoBound ∷ r) more.is; agrees = t.1 Answering; reads = more.reads }
bound_told table told (e ∷ es) end at t past =
    let l = led table told e es end t in
    let none = sym l.placed ∙ ap (λ (p : Place). after p e) at in absurd (cc (none))

-- from the plan on
record PlanTold (table : TableValue) (told : Told) (es : List Entry) : Type 0 where
  plan : Option Claimed
  bound : Option ℕ
  nodes : List NodeLine
  is : es ≡ plan_entry plan ∷ bound_entry bound ∷ (flat_map node_entries nodes ++ End ∷ [])
  claim : IfSome plan (IsClaim table told.range (root_of table.files told.pins))
  agrees : Agrees told.answer plan bound
  reads : Reads table told.range bound (root_of table.files told.pins ∷ []) nodes []

plan_told : (table : TableValue) (told : Told) (es : List Entry) (end : Told) → told.place ≡ AtPlan → Tells table told es end → end.place ≡ Past → PlanTold table told es
plan_told table told [] end at t past = let e : told.place ≡ end.place = ap (λ (x : Told). x.place) t in absurd cc
plan_told table told (Planned s m r ∷ es) end at t past =
    let l = led table told (Planned s m r) es end t in
    let claimed : Claimed = record { set = s; migrated = m; replicated = r } in
    let next : Told = record told { place = AtBound; plan = Some claimed } in
    let there : l.place ≡ AtBound = some_same (sym l.placed ∙ ap (λ (p : Place). after p (Planned s m r)) at) in
    let moved : Tells table next es end = subst (λ (pl : Place). Tells table (told_by table.files told pl (Planned s m r)) es end) there l.tells in
    let more = bound_told table next es end refl moved past in
    let claim : IsClaim table told.range (root_of table.files told.pins) claimed =
    record { set = t.1 Width; migrated = (t.1 Sums).0; replicated = (t.1 Sums).1; admitted = record { member = t.1 Pinning; in_range = t.1 InReach } } in
    record { plan = Some claimed; bound = more.bound; nodes = more.nodes; is = ap (λ (rest : List Entry). Planned s m r ∷ rest) more.is; claim = claim; agrees = more.agrees; reads = more.reads }
plan_told table told (NoPlan ∷ es) end at t past =
    let l = led table told NoPlan es end t in
    let next : Told = record told { place = AtBound; plan = None } in
    let there : l.place ≡ AtBound = some_same (sym l.placed ∙ ap (λ (p : Place). after p NoPlan) at) in
    let moved : Tells table next es end = subst (λ (pl : Place). Tells table (told_by table.files told pl NoPlan) es end) there l.tells in
    let more = bound_told table next es end refl moved past in
    record { plan = None; bound = more.bound; nodes = more.nodes; is = ap (λ r. NoPlan ∷ r) more.is; claim = tt; agrees = more.agrees; reads = more.reads }
plan_told table told (e ∷ es) end at t past =
    let l = led table told e es end t in
    let none = sym l.placed ∙ ap (λ (p : Place). after p e) at in absurd (cc (none))

-- from the answer on
record AnswerTold (table : TableValue) (told : Told) (es : List Entry) : Type 0 where
  answer : Answer
  plan : Option Claimed
  bound : Option ℕ
  nodes : List NodeLine
  is : es ≡ Answered answer ∷ plan_entry plan ∷ bound_entry bound ∷ (flat_map node_entries nodes ++ End ∷ [])
  claim : IfSome plan (IsClaim table told.range (root_of table.files told.pins))
  agrees : Agrees answer plan bound
  reads : Reads table told.range bound (root_of table.files told.pins ∷ []) nodes []

answer_told : (table : TableValue) (told : Told) (es : List Entry) (end : Told) → told.place ≡ AtAnswer → Tells table told es end → end.place ≡ Past → AnswerTold table told es
answer_told table told [] end at t past = let e : told.place ≡ end.place = ap (λ (x : Told). x.place) t in absurd cc
answer_told table told (Answered a ∷ es) end at t past =
    let l = led table told (Answered a) es end t in
    let next : Told = record told { place = AtPlan; answer = a } in
    let there : l.place ≡ AtPlan = some_same (sym l.placed ∙ ap (λ (p : Place). after p (Answered a)) at) in
    let moved : Tells table next es end = subst (λ (pl : Place). Tells table (told_by table.files told pl (Answered a)) es end) there l.tells in
    let more = plan_told table next es end refl moved past in
    record { answer = a; plan = more.plan; bound = more.bound; nodes = more.nodes; is = ap (λ r. Answered a ∷ r) more.is; claim = more.claim; agrees = more.agrees; reads = more.reads }
answer_told table told (e ∷ es) end at t past =
    let l = led table told e es end t in
    let none = sym l.placed ∙ ap (λ (p : Place). after p e) at in absurd (cc (none))

-- the whole
pub record DocumentTold (table : TableValue) (es : List Entry) : Type 0 where
  pub heading : Heading
  pub nodes : List NodeLine
  pub is : es ≡ document_entries heading nodes
  pub valid : IsValid table heading nodes

valid_of : (table : TableValue) (range : Range) (pins : Option Pins) (answer : Answer) (plan : Option Claimed) (bound : Option ℕ) (nodes : List NodeLine) → ArePins table.files pins
    → IfSome plan (IsClaim table range (root_of table.files pins)) → Agrees answer plan bound → Reads table range bound (root_of table.files pins ∷ []) nodes []
    → IsValid table (record { range = range; pins = pins; answer = answer; plan = plan; bound = bound }) nodes
valid_of table range pins answer plan bound nodes pinned claim agrees reads =
    let tree = (lines_are_trees table range bound (root_of table.files pins) nodes).0 reads in
    record { pins = pinned; plan = claim; agrees = agrees; tree = tree.0; lines = tree.1; stands = tree.2 }

named_length : (files : ℕ) (word : List ℕ) → length (set_named files word) ≡ files
named_length files word = length-map-range_with_len (has_file (result_unwrap_or (decode_of word) [])) 0 files

-- the lines from the pins on
record PinsTold (table : TableValue) (told : Told) (es : List Entry) : Type 0 where
  pins : Pins
  answer : Answer
  plan : Option Claimed
  bound : Option ℕ
  nodes : List NodeLine
  is : es ≡ Pinned pins.go pins.stay ∷ Answered answer ∷ plan_entry plan ∷ bound_entry bound ∷ (flat_map node_entries nodes ++ End ∷ [])
  valid : IsValid table (record { range = told.range; pins = Some pins; answer = answer; plan = plan; bound = bound }) nodes

pins_told : (table : TableValue) (told : Told) (es : List Entry) (end : Told) → told.place ≡ AtPins → Tells table told es end → end.place ≡ Past → PinsTold table told es
pins_told table told [] end at t past = let e : told.place ≡ end.place = ap (λ (x : Told). x.place) t in absurd cc
pins_told table told (Pinned g s ∷ es) end at t past =
    let l = led table told (Pinned g s) es end t in
    let pins : Pins = record { go = g; stay = s } in
    let next : Told = record told { place = AtAnswer; pins = Some pins } in
    let there : l.place ≡ AtAnswer = some_same (sym l.placed ∙ ap (λ (p : Place). after p (Pinned g s)) at) in
    let moved : Tells table next es end = subst (λ (pl : Place). Tells table (told_by table.files told pl (Pinned g s)) es end) there l.tells in
    let more = answer_told table next es end refl moved past in
    let pinned : ArePins table.files (Some pins) = ((t.1 Width).0, (t.1 Width).1, record { inside = named_length table.files g; outside = named_length table.files s; apart = t.1 Apart }) in
    record {
      pins = pins;
      answer = more.answer;
      plan = more.plan;
      bound = more.bound;
      nodes = more.nodes;
      is = ap (λ r. Pinned g s ∷ r) more.is;
      valid = valid_of table told.range (Some pins) more.answer more.plan more.bound more.nodes pinned more.claim more.agrees more.reads;
    }
pins_told table told (e ∷ es) end at t past =
    let l = led table told e es end t in
    let none = sym l.placed ∙ ap (λ (p : Place). after p e) at in absurd (cc (none))

-- the lines behind the title
span_told : (table : TableValue) (v : ℕ) (es : List Entry) (end : Told) → 1 ≤ v → v ≤ 2 → Tells table (record nothing_told { place = AtSpan v }) es end → end.place ≡ Past → DocumentTold table (Title v ∷ es)
span_told table v [] end low high t past = let e : AtSpan v ≡ end.place = ap (λ (x : Told). x.place) t in absurd cc
span_told table v (Span a b ∷ es) end low high t past =
    let here : Told = record nothing_told { place = AtSpan v } in
    let range : Range = record { low = a; high = b } in
    let l = led table here (Span a b) es end t in
    elim (cases_eq v 1) [
      | inl one ↦
          let next : Told = record nothing_told { place = AtAnswer; range = range } in
          let there : l.place ≡ AtAnswer = some_same (sym l.placed ∙ ap (λ (c : Bool). Some (cond c AtAnswer AtPins)) (eq-eqb v 1 one)) in
          let moved : Tells table next es end = subst (λ (pl : Place). Tells table (told_by table.files here pl (Span a b)) es end) there l.tells in
          let more = answer_told table next es end refl moved past in
          record {
            heading = record { range = range; pins = None; answer = more.answer; plan = more.plan; bound = more.bound };
            nodes = more.nodes;
            is = ap (λ (w : ℕ). Title w ∷ Span a b ∷ es) one ∙ ap (λ r. Title 1 ∷ Span a b ∷ r) more.is;
            valid = valid_of table range None more.answer more.plan more.bound more.nodes tt more.claim more.agrees more.reads;
          }
      | inr other ↦
          let next : Told = record nothing_told { place = AtPins; range = range } in
          let two : v ≡ 2 = omega (arith, other) in
          let there : l.place ≡ AtPins = some_same (sym l.placed ∙ ap (λ (c : Bool). Some (cond c AtAnswer AtPins)) (ne_eqb v 1 other)) in
          let moved : Tells table next es end = subst (λ (pl : Place). Tells table (told_by table.files here pl (Span a b)) es end) there l.tells in
          let more = pins_told table next es end refl moved past in
          record {
            heading = record { range = range; pins = Some more.pins; answer = more.answer; plan = more.plan; bound = more.bound };
            nodes = more.nodes;
            is = ap (λ (w : ℕ). Title w ∷ Span a b ∷ es) two ∙ ap (λ r. Title 2 ∷ Span a b ∷ r) more.is;
            valid = more.valid;
          }
    ]
span_told table v (e ∷ es) end low high t past =
    let l = led table (record nothing_told { place = AtSpan v }) e es end t in absurd (cc (l.placed))

pub all_told : (table : TableValue) (es : List Entry) (end : Told) → Tells table nothing_told es end → end.place ≡ Past → DocumentTold table es
all_told table [] end t past = let e : AtTitle ≡ end.place = ap (λ (x : Told). x.place) t in absurd cc
all_told table (Title v ∷ es) end t past =
    let l = led table nothing_told (Title v) es end t in
    let there : l.place ≡ AtSpan v = some_same (sym l.placed) in
    span_told table v es end t.0.0 t.0.1 (subst (λ (pl : Place). Tells table (told_by table.files nothing_told pl (Title v)) es end) there l.tells) past
all_told table (e ∷ es) end t past = let l = led table nothing_told e es end t in absurd (cc (l.placed))
