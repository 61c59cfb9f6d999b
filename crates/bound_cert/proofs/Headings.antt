-- What the lines of a document have told.
use Rattle.std.proofs.Common.{◌≡◌, ℕ, ◌+◌, List, [], ◌∷◌, ◌++◌, Bool, Option, Some, None, length, map, refl, sym, ◌∙◌, ap, subst, arith, append_assoc}
use Rattle.std.specs.Prelude.{count_by}
use Rattle.std.specs.List.{flat_map}
use Rattle.std.proofs.lemmas.List.Sums.{sum_by-cons}
use Rattle.seed_model.specs.declared.node.Node.{Node}
use Rattle.seed_model.specs.declared.range.Range.{Range}
use Rattle.seed_model.specs.Tables.{TableValue}
use Rattle.bound_cert.specs.declared.heading.Answer.{Answer}
use Rattle.bound_cert.specs.declared.heading.Claimed.{Claimed}
use Rattle.bound_cert.specs.declared.heading.Heading.{Heading}
use Rattle.bound_cert.specs.declared.heading.Pins.{Pins}
use Rattle.bound_cert.specs.declared.multipliers.Give.{Give as GiveValue}
use Rattle.bound_cert.specs.declared.node_line.NodeLine.{NodeLine}
use Rattle.bound_cert.specs.declared.node_line.NodeLine.TheVariants as node
use Rattle.bound_cert.specs.declared.place.Place.{Place}
use Rattle.bound_cert.specs.declared.place.Place.TheVariants.{Past}
use Rattle.bound_cert.specs.Documents.{document_entries, give_entry, node_entries, plan_entry, bound_entry, version_of}
use Rattle.bound_cert.specs.Grammar.{AreLines}
use Rattle.bound_cert.specs.Judgements.{Told, Tells, told_by, nothing_told}
use Rattle.bound_cert.specs.Laws.{IsToldBy, TellDocument, LinesTellDocuments}
use Rattle.bound_cert.specs.Lines.{Entry, Title, Span, Pinned, Answered, Branch, Low, High, Leaf, End}
use Rattle.bound_cert.specs.Sets.{root_of}
use Rattle.bound_cert.specs.Trees.{is_branch}
use Rattle.bound_cert.proofs.Telling.{led, tells_lead, all_told}

-- lines of a tree leave the heading as it is, and add branchings
record Stays (old new : Told) (more : ℕ) : Type 0 where
  range : new.range ≡ old.range
  pins : new.pins ≡ old.pins
  answer : new.answer ≡ old.answer
  plan : new.plan ≡ old.plan
  bound : new.bound ≡ old.bound
  branchings : new.branchings ≡ old.branchings + more

stays_on : (a b c : Told) (n m k : ℕ) → n + m ≡ k → Stays a b n → Stays b c m → Stays a c k
stays_on a b c n m k e s t = record {
  range = t.range ∙ s.range;
  pins = t.pins ∙ s.pins;
  answer = t.answer ∙ s.answer;
  plan = t.plan ∙ s.plan;
  bound = t.bound ∙ s.bound;
  branchings = omega (arith, t.branchings, s.branchings, e);
}

-- one line of a tree
moved : (told : Told) (place : Place) (waiting : List Node) (p q : ℕ) (gives : List GiveValue) → Stays told (record told { place = place; waiting = waiting; p = p; q = q; gives = gives }) 0
moved told place waiting p q gives = record { range = refl; pins = refl; answer = refl; plan = refl; bound = refl; branchings = omega arith }

-- the gives of a leaf
record PastGives (table : TableValue) (told end : Told) (rest : List Entry) : Type 0 where
  mid : Told
  stays : Stays told mid 0
  tells : Tells table mid rest end

past_gives : (table : TableValue) (gives : List GiveValue) (rest : List Entry) (told end : Told) → Tells table told (map give_entry gives ++ rest) end → PastGives table told end rest
past_gives table [] rest told end t = record { mid = told; stays = moved told told.place told.waiting told.p told.q told.gives; tells = t }
past_gives table (g ∷ gives) rest told end t =
    let l = led table told (give_entry g) (map give_entry gives ++ rest) end t in
    let next : Told = told_by table.files told l.place (give_entry g) in
    let more = past_gives table gives rest next end l.tells in
    record { mid = more.mid; stays = stays_on told next more.mid 0 0 0 refl (moved told next.place next.waiting next.p next.q next.gives) more.stays; tells = more.tells }

-- the nodes, and the last line
nodes_stay : (table : TableValue) (nodes : List NodeLine) (told end : Told) → Tells table told (flat_map node_entries nodes ++ End ∷ []) end → Stays told end (count_by is_branch nodes)
nodes_stay table [] told end t =
    let l = led table told End [] end t in
    subst (λ (x : Told). Stays told x 0) l.tells (moved told l.place told.waiting told.p told.q told.gives)
nodes_stay table (node.Branch f x y a b ∷ nodes) told end t =
    let rest : List Entry = flat_map node_entries nodes ++ End ∷ [] in
    let l = led table told (Branch f x y a b) rest end t in
    let next : Told = told_by table.files told l.place (Branch f x y a b) in
    let here : Stays told next 1 = record { range = refl; pins = refl; answer = refl; plan = refl; bound = refl; branchings = refl } in
    stays_on told next end 1 (count_by is_branch nodes) (count_by is_branch (node.Branch f x y a b ∷ nodes)) (sym (sum_by-cons _ (node.Branch f x y a b) nodes)) here (nodes_stay table nodes next end l.tells)
nodes_stay table (node.Low ∷ nodes) told end t =
    let l = led table told Low (flat_map node_entries nodes ++ End ∷ []) end t in
    let next : Told = told_by table.files told l.place Low in
    stays_on told next end 0 (count_by is_branch nodes) (count_by is_branch (node.Low ∷ nodes)) (sym (sum_by-cons _ node.Low nodes)) (moved told next.place next.waiting next.p next.q next.gives) (nodes_stay table nodes next end l.tells)
nodes_stay table (node.High ∷ nodes) told end t =
    let l = led table told High (flat_map node_entries nodes ++ End ∷ []) end t in
    let next : Told = told_by table.files told l.place High in
    stays_on told next end 0 (count_by is_branch nodes) (count_by is_branch (node.High ∷ nodes)) (sym (sum_by-cons _ node.High nodes)) (moved told next.place next.waiting next.p next.q next.gives) (nodes_stay table nodes next end l.tells)
nodes_stay table (node.Leaf m ∷ nodes) told end t =
    let line : Entry = Leaf m.p m.q (length m.gives) in
    let rest : List Entry = flat_map node_entries nodes ++ End ∷ [] in
    let l = led table told line ((map give_entry m.gives ++ flat_map node_entries nodes) ++ End ∷ []) end t in
    let next : Told = told_by table.files told l.place line in
    let g = past_gives table m.gives rest next end (subst (λ (es : List Entry). Tells table next es end) (append_assoc (map give_entry m.gives) (flat_map node_entries nodes) (End ∷ [])) l.tells) in
    let all : Stays told g.mid 0 = stays_on told next g.mid 0 0 0 refl (moved told next.place next.waiting next.p next.q next.gives) g.stays in
    stays_on told g.mid end 0 (count_by is_branch nodes) (count_by is_branch (node.Leaf m ∷ nodes)) (sym (sum_by-cons _ (node.Leaf m) nodes)) all (nodes_stay table nodes g.mid end g.tells)

-- from the plan on
plan_told : (files : ℕ) (told : Told) (place : Place) (plan : Option Claimed) → told_by files told place (plan_entry plan) ≡ record told { place = place; plan = plan }
plan_told files told place None = refl
plan_told files told place (Some claimed) = refl

bound_told : (files : ℕ) (told : Told) (place : Place) (bound : Option ℕ) → told_by files told place (bound_entry bound) ≡ record told { place = place; bound = bound; waiting = root_of files told.pins ∷ [] }
bound_told files told place None = refl
bound_told files told place (Some z) = refl

answer_told : (table : TableValue) (range : Range) (pins : Option Pins) (answer : Answer) (plan : Option Claimed) (bound : Option ℕ) (nodes : List NodeLine) (told end : Told) → told.range ≡ range → told.pins ≡ pins → told.branchings ≡ 0
    → Tells table told (Answered answer ∷ plan_entry plan ∷ bound_entry bound ∷ (flat_map node_entries nodes ++ End ∷ [])) end
    → IsToldBy (record { range = range; pins = pins; answer = answer; plan = plan; bound = bound }) nodes end
answer_told table range pins answer plan bound nodes told end of_range of_pins none t =
    let tree : List Entry = flat_map node_entries nodes ++ End ∷ [] in
    let l1 = led table told (Answered answer) (plan_entry plan ∷ bound_entry bound ∷ tree) end t in
    let t1 : Told = record told { place = l1.place; answer = answer } in
    let l2 = led table t1 (plan_entry plan) (bound_entry bound ∷ tree) end l1.tells in
    let t2 : Told = record t1 { place = l2.place; plan = plan } in
    let l3 = led table t2 (bound_entry bound) tree end (subst (λ (x : Told). Tells table x (bound_entry bound ∷ tree) end) (plan_told table.files t1 l2.place plan) l2.tells) in
    let t3 : Told = record t2 { place = l3.place; bound = bound; waiting = root_of table.files told.pins ∷ [] } in
    let s = nodes_stay table nodes t3 end (subst (λ (x : Told). Tells table x tree end) (bound_told table.files t2 l3.place bound) l3.tells) in
    record { range = s.range ∙ of_range; pins = s.pins ∙ of_pins; answer = s.answer; plan = s.plan; bound = s.bound; branchings = omega (arith, s.branchings, none) }

-- the whole
heading_told : (table : TableValue) (range : Range) (pins : Option Pins) (answer : Answer) (plan : Option Claimed) (bound : Option ℕ) (nodes : List NodeLine) (end : Told)
    → Tells table nothing_told (document_entries (record { range = range; pins = pins; answer = answer; plan = plan; bound = bound }) nodes) end
    → IsToldBy (record { range = range; pins = pins; answer = answer; plan = plan; bound = bound }) nodes end
heading_told table range None answer plan bound nodes end t =
    let tail : List Entry = Answered answer ∷ plan_entry plan ∷ bound_entry bound ∷ (flat_map node_entries nodes ++ End ∷ []) in
    let l1 = led table nothing_told (Title 1) (Span range.low range.high ∷ tail) end t in
    let t1 : Told = record nothing_told { place = l1.place } in
    let l2 = led table t1 (Span range.low range.high) tail end l1.tells in
    answer_told table range None answer plan bound nodes (record t1 { place = l2.place; range = range }) end refl refl refl l2.tells
heading_told table range (Some pins) answer plan bound nodes end t =
    let tail : List Entry = Answered answer ∷ plan_entry plan ∷ bound_entry bound ∷ (flat_map node_entries nodes ++ End ∷ []) in
    let l1 = led table nothing_told (Title 2) (Span range.low range.high ∷ Pinned pins.go pins.stay ∷ tail) end t in
    let t1 : Told = record nothing_told { place = l1.place } in
    let l2 = led table t1 (Span range.low range.high) (Pinned pins.go pins.stay ∷ tail) end l1.tells in
    let t2 : Told = record t1 { place = l2.place; range = range } in
    let l3 = led table t2 (Pinned pins.go pins.stay) tail end l2.tells in
    answer_told table range (Some pins) answer plan bound nodes (record t2 { place = l3.place; pins = Some pins }) end refl refl refl l3.tells

pub lines_tell_documents : LinesTellDocuments
lines_tell_documents table lines told t past =
    let d = all_told table lines told t past in
    let h : Heading = d.heading in
    record {
      heading = h;
      nodes = d.nodes;
      lines_are = d.is;
      document = subst (λ (es : List Entry). AreLines es) d.is (tells_lead table nothing_told told lines t past);
      valid = d.valid;
      told_by = heading_told table h.range h.pins h.answer h.plan h.bound d.nodes told (subst (λ (es : List Entry). Tells table nothing_told es told) d.is t);
    }
