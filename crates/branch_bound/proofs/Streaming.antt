-- The certificate of a search on its way to a shelf.
use Rattle.std.proofs.Common.{◌≡◌, ◌⊎◌, inl, inr, ℕ, zero, suc, ◌+◌, ◌<◌, ◌≤◌, Bool, true, cond, Option, Some, List, [], ◌∷◌, ◌++◌, length, take, drop, get_or, refl, sym, ◌∙◌, ap, subst, append_assoc, arith}
use Rattle.std.specs.Prelude.{unwrap_or, if◌then◌else◌}
use Rattle.std.specs.List.{flat_map}
use Rattle.std.proofs.lemmas.Grind.{flat_map-append}
use Rattle.std.proofs.lemmas.List.{append-nil, take-append-drop, take_more}
use Rattle.std.proofs.lemmas.List.Elements.{All-tail}
use Rattle.std.proofs.lemmas.List.Sums.{sum_by-cons, sum_by-append, count_by-le-length}
use Rattle.seed_io.specs.Shelf.{Told, content}
use Rattle.seed_model.specs.declared.node.Node.{Node}
use Rattle.seed_model.specs.Tables.{TableValue}
use Rattle.bound_cert.specs.declared.heading.Heading.{Heading}
use Rattle.bound_cert.specs.declared.node_line.NodeLine.{NodeLine}
use Rattle.bound_cert.specs.Documents.{node_entries, heading_entries, document_text}
use Rattle.bound_cert.specs.Grammar.{text_of}
use Rattle.bound_cert.specs.Lines.{Entry as LineEntry, End, line_text}
use Rattle.bound_cert.specs.Trees.{is_branch}
use Rattle.branch_bound.specs.declared.entry.Entry.{Entry}
use Rattle.branch_bound.specs.declared.found.Found.{Found}
use Rattle.branch_bound.specs.declared.visits.Visit.{Visit}
use Rattle.branch_bound.specs.Ended.{EachLine, AreVisited}
use Rattle.branch_bound.specs.Entries.{entry_at, AreNodes}
use Rattle.branch_bound.specs.Streams.{nodes_text, HoldsFront, HaveLines, AreAdded, IsPartAdded, HoldsText, HoldsPart}
use Rattle.branch_bound.specs.Visits.{AreInside}
use Rattle.branch_bound.specs.Written.{IsLineOf, AreWritable}

-- texts one behind the other
text_append : (xs ys : List LineEntry) → text_of (xs ++ ys) ≡ text_of xs ++ text_of ys
text_append xs ys = flat_map-append (λ e. line_text e ++ 10 ∷ []) xs ys

nodes_append : (xs ys : List NodeLine) → nodes_text (xs ++ ys) ≡ nodes_text xs ++ nodes_text ys
nodes_append xs ys = ap text_of (flat_map-append node_entries xs ys) ∙ text_append (flat_map node_entries xs) (flat_map node_entries ys)

one_node : (line : NodeLine) → nodes_text (line ∷ []) ≡ text_of (node_entries line)
one_node line = ap text_of (append-nil (node_entries line))

-- a text: the heading's, that of the nodes, and the last line
pub document_is : (heading : Heading) (lines : List NodeLine) → document_text heading lines ≡ text_of (heading_entries heading) ++ (nodes_text lines ++ text_of (End ∷ []))
document_is heading lines =
    text_append (heading_entries heading) (flat_map node_entries lines ++ End ∷ []) ∙ ap (λ z. text_of (heading_entries heading) ++ z) (text_append (flat_map node_entries lines) (End ∷ []))

-- fronts
pub front_more : (now : Option (List ℕ)) (whole more : List ℕ) → HoldsFront now whole → HoldsFront now (whole ++ more)
front_more now whole more h = record { bytes = h.bytes; rest = h.rest ++ more; held = h.held; is = ap (λ z. z ++ more) h.is ∙ append_assoc h.bytes h.rest more }

pub whole_front : (now : Option (List ℕ)) (whole : List ℕ) → now ≡ Some whole → HoldsFront now whole
whole_front now whole e = record { bytes = whole; rest = []; held = e; is = sym (append-nil whole) }

-- what an append that failed leaves
pub front_of_append : (old new : Told) (name held bytes : List ℕ) → old name ≡ Some held → (new name ≡ old name) ⊎ ((k : ℕ) × (new name ≡ Some (content old name ++ take k bytes))) → HoldsFront (new name) (held ++ bytes)
front_of_append old new name held bytes is (inl same) = front_more (new name) held bytes (whole_front (new name) held (same ∙ is))
front_of_append old new name held bytes is (inr part) =
    let front : List ℕ = take part.0 bytes in
    record {
      bytes = held ++ front;
      rest = drop part.0 bytes;
      held = part.1 ∙ ap (λ (z : Option (List ℕ)). Some (unwrap_or z [] ++ front)) is;
      is = ap (λ z. held ++ z) (sym (take-append-drop part.0 bytes)) ∙ sym (append_assoc held front (drop part.0 bytes));
    }

-- lines one behind the other
module _ (table : TableValue) (root : Node) (es : List Entry) where
  each_append : (nodes : ℕ → Node) (xs ys : List Visit) (ls ms : List NodeLine) → EachLine table es nodes xs ls → EachLine table es nodes ys ms → EachLine table es nodes (xs ++ ys) (ls ++ ms)
  each_append nodes [] ys [] ms a b = b
  each_append nodes [] ys (l ∷ ls) ms a b = absurd a
  each_append nodes (x ∷ xs) ys [] ms a b = absurd a
  each_append nodes (x ∷ xs) ys (l ∷ ls) ms a b = (a.0, each_append nodes xs ys ls ms a.1 b)

  pub visited_append : (xs ys : List Visit) (ls ms : List NodeLine) → AreVisited table root es xs ls → AreVisited table root es ys ms → AreVisited table root es (xs ++ ys) (ls ++ ms)
  visited_append xs ys ls ms a b = λ nodes are. each_append nodes xs ys ls ms (a nodes are) (b nodes are)

  pub none_visited : AreVisited table root es [] []
  none_visited = λ nodes are. tt

  pub one_visited : (v : Visit) (line : NodeLine) → ((nodes : ℕ → Node) → AreNodes root es nodes → IsLineOf table v.cut (nodes v.number) (entry_at es v.number).file (entry_at es v.number).finding line) → AreVisited table root es (v ∷ []) (line ∷ [])
  one_visited v line h = λ nodes are. (h nodes are, tt)

-- what was added, and behind it what is added then
pub added_then : (table : TableValue) (found : Found) (xs ys : List Visit) (tells told : Bool) (old mid now : Option (List ℕ)) (a b : ℕ) → told ≡ tells → AreAdded table found xs tells old mid a → AreAdded table found ys told mid now b
    → AreAdded table found (xs ++ ys) tells old now (a + b)
added_then table found xs ys tells told old mid now a b same f g = record {
  lines = f.lines ++ g.lines;
  are = visited_append table found.root found.state.entries xs ys f.lines g.lines f.are g.are;
  counted = omega (arith, f.counted, g.counted, sum_by-append (λ (l : NodeLine). cond (is_branch l) 1 0) f.lines g.lines);
  added = λ t held e.
      g.added (same ∙ t) (held ++ nodes_text f.lines) (f.added t held e)
      ∙ ap (λ (z : List ℕ). Some z) (append_assoc held (nodes_text f.lines) (nodes_text g.lines) ∙ ap (λ z. held ++ z) (sym (nodes_append f.lines g.lines)));
}

-- or a front of it
pub part_then : (table : TableValue) (found : Found) (xs ys : List Visit) (tells : Bool) (old mid now : Option (List ℕ)) (a : ℕ) → tells ≡ true → AreAdded table found xs tells old mid a → IsPartAdded table found ys mid now
    → IsPartAdded table found (xs ++ ys) old now
part_then table found xs ys tells old mid now a t f p = record {
  front = xs ++ p.front;
  rest = p.rest;
  split = ap (λ z. xs ++ z) p.split ∙ sym (append_assoc xs p.front p.rest);
  lines = f.lines ++ p.lines;
  are = visited_append table found.root found.state.entries xs p.front f.lines p.lines f.are p.are;
  holds = λ held e.
      subst (HoldsFront now) (append_assoc held (nodes_text f.lines) (nodes_text p.lines) ∙ ap (λ z. held ++ z) (sym (nodes_append f.lines p.lines)))
      (p.holds (held ++ nodes_text f.lines) (f.added t held e));
}

pub part_more : (table : TableValue) (found : Found) (xs ys : List Visit) (old now : Option (List ℕ)) → IsPartAdded table found xs old now → IsPartAdded table found (xs ++ ys) old now
part_more table found xs ys old now p = record {
  front = p.front;
  rest = p.rest ++ ys;
  split = ap (λ z. z ++ ys) p.split ∙ append_assoc p.front p.rest ys;
  lines = p.lines;
  are = p.are;
  holds = p.holds;
}

-- nothing was added
pub none_added : (table : TableValue) (found : Found) (tells : Bool) (old : Option (List ℕ)) → AreAdded table found [] tells old old 0
none_added table found tells old = record {
  lines = [];
  are = none_visited table found.root found.state.entries;
  counted = refl;
  added = λ t held e. e ∙ ap (λ (z : List ℕ). Some z) (sym (append-nil held));
}

pub none_of : (table : TableValue) (found : Found) (visited : List Visit) (old now : Option (List ℕ)) → now ≡ old → IsPartAdded table found visited old now
none_of table found visited old now same = record {
  front = [];
  rest = visited;
  split = refl;
  lines = [];
  are = none_visited table found.root found.state.entries;
  holds = λ held e. whole_front now (held ++ []) (same ∙ e ∙ ap (λ (z : List ℕ). Some z) (sym (append-nil held)));
}

-- one node was added, or a front of it
pub one_added : (table : TableValue) (found : Found) (v : Visit) (line : NodeLine) (tells : Bool) (old now : Option (List ℕ)) (text : List ℕ) (branching : Bool)
    → ((nodes : ℕ → Node) → AreNodes found.root found.state.entries nodes → IsLineOf table v.cut (nodes v.number) (entry_at found.state.entries v.number).file (entry_at found.state.entries v.number).finding line)
    → text ≡ text_of (node_entries line) → branching ≡ is_branch line → (tells ≡ true → (held : List ℕ) → old ≡ Some held → now ≡ Some (held ++ text)) → AreAdded table found (v ∷ []) tells old now (if branching then 1 else 0)
one_added table found v line tells old now text branching is text_is same add = record {
  lines = line ∷ [];
  are = one_visited table found.root found.state.entries v line is;
  counted = ap (λ (z : Bool). cond z 1 0) same ∙ omega (arith, sum_by-cons (λ (l : NodeLine). cond (is_branch l) 1 0) line []);
  added = λ t held e. add t held e ∙ ap (λ (z : List ℕ). Some (held ++ z)) (text_is ∙ sym (one_node line));
}

pub one_part : (table : TableValue) (found : Found) (v : Visit) (line : NodeLine) (old now : Option (List ℕ)) (text : List ℕ)
    → ((nodes : ℕ → Node) → AreNodes found.root found.state.entries nodes → IsLineOf table v.cut (nodes v.number) (entry_at found.state.entries v.number).file (entry_at found.state.entries v.number).finding line)
    → text ≡ text_of (node_entries line) → ((held : List ℕ) → old ≡ Some held → HoldsFront now (held ++ text)) → IsPartAdded table found (v ∷ []) old now
one_part table found v line old now text is text_is front = record {
  front = v ∷ [];
  rest = [];
  split = refl;
  lines = line ∷ [];
  are = one_visited table found.root found.state.entries v line is;
  holds = λ held e. subst (λ z. HoldsFront now (held ++ z)) (text_is ∙ sym (one_node line)) (front held e);
}

-- the visited nodes, one more of them
pub one_more : (visited : List Visit) (i : ℕ) (v : Visit) → i < length visited → v ≡ get_or visited i v → take (i + 1) visited ≡ take i visited ++ v ∷ []
one_more visited i v lt is = take_more visited i v lt ∙ ap (λ (x : Visit). take i visited ++ x ∷ []) (sym is)

-- the visited nodes, cut behind one of them
pub cut_behind : (visited : List Visit) (i : ℕ) (v : Visit) → i < length visited → v ≡ get_or visited i v → visited ≡ (take i visited ++ v ∷ []) ++ drop (i + 1) visited
cut_behind visited i v lt is = sym (take-append-drop (i + 1) visited) ∙ ap (λ z. z ++ drop (i + 1) visited) (one_more visited i v lt is)

any_default : (visited : List Visit) (i : ℕ) (d e : Visit) → i < length visited → get_or visited i d ≡ get_or visited i e
any_default [] i d e l = absurd (omega (arith, l))
any_default (v ∷ vs) zero d e l = refl
any_default (v ∷ vs) (suc i) d e l = any_default vs i d e (omega (arith, l))

pub read_visit : (all visited : List Visit) (i : ℕ) (d : Visit) → all ≡ visited → i < length visited → get_or all i d ≡ get_or visited i (get_or all i d)
read_visit all visited i d same l =
    ap (λ z. get_or z i d) same ∙ any_default visited i d (get_or all i d) l

-- there are no more branchings than lines, and as many lines as nodes
same_count : (table : TableValue) (es : List Entry) (nodes : ℕ → Node) (visited : List Visit) (lines : List NodeLine) → EachLine table es nodes visited lines → length lines ≡ length visited
same_count table es nodes [] [] h = refl
same_count table es nodes [] (l ∷ ls) h = absurd h
same_count table es nodes (v ∷ vs) [] h = absurd h
same_count table es nodes (v ∷ vs) (l ∷ ls) h = omega (arith, same_count table es nodes vs ls h.1)

pub few_added : (table : TableValue) (found : Found) (visited : List Visit) (tells : Bool) (old now : Option (List ℕ)) (branchings : ℕ) → AreWritable table found.root found.state.entries
    → AreAdded table found visited tells old now branchings → branchings ≤ length visited
few_added table found visited tells old now branchings w f =
    omega (arith, f.counted, count_by-le-length is_branch f.lines, same_count table found.state.entries w.nodes visited f.lines (f.are w.nodes w.are_nodes))

-- a front of the text of a search
module _ (table : TableValue) (found : Found) (have : HaveLines table found) (inside : AreInside found.state.entries found.visited.items) where
  inside_rest : (front rest : List Visit) → AreInside found.state.entries (front ++ rest) → AreInside found.state.entries rest
  inside_rest [] rest a = a
  inside_rest (v ∷ vs) rest a = inside_rest vs rest (All-tail (λ (x : Visit). x.number < length found.state.entries) v (vs ++ rest) a)

  pub part_of_text : (old now : Option (List ℕ)) → old ≡ Some (text_of (heading_entries found.heading)) → IsPartAdded table found found.visited.items old now → HoldsPart table found now
  part_of_text old now is p =
      let head = text_of (heading_entries found.heading) in
      let more = have p.rest (inside_rest p.front p.rest (subst (AreInside found.state.entries) p.split inside)) in
      let lines = p.lines ++ more.lines in
      let shape : document_text found.heading lines ≡ (head ++ nodes_text p.lines) ++ (nodes_text more.lines ++ text_of (End ∷ [])) =
      document_is found.heading lines ∙ ap (λ z. head ++ (z ++ text_of (End ∷ []))) (nodes_append p.lines more.lines)
      ∙ ap (λ z. head ++ z) (append_assoc (nodes_text p.lines) (nodes_text more.lines) (text_of (End ∷ [])))
      ∙ sym (append_assoc head (nodes_text p.lines) (nodes_text more.lines ++ text_of (End ∷ []))) in
      record {
        lines = lines;
        are = subst (λ z. AreVisited table found.root found.state.entries z lines) (sym p.split) (visited_append table found.root found.state.entries p.front p.rest p.lines more.lines p.are more.are);
        front = subst (HoldsFront now) (sym shape) (front_more now (head ++ nodes_text p.lines) (nodes_text more.lines ++ text_of (End ∷ [])) (p.holds head is));
      }

  -- nothing of it, or a front of the heading
  pub heading_part : (now : Option (List ℕ)) → HoldsFront now ([] ++ text_of (heading_entries found.heading)) → HoldsPart table found now
  heading_part now h =
      let all = have found.visited.items inside in
      record {
        lines = all.lines;
        are = all.are;
        front = subst (HoldsFront now) (sym (document_is found.heading all.lines)) (front_more now (text_of (heading_entries found.heading)) (nodes_text all.lines ++ text_of (End ∷ [])) h);
      }

  pub empty_part : (now : Option (List ℕ)) → now ≡ Some [] → HoldsPart table found now
  empty_part now e = heading_part now (front_more now [] (text_of (heading_entries found.heading)) (whole_front now [] e))

-- all but the last line, and then that
pub whole_text : (table : TableValue) (found : Found) (tells told : Bool) (old mid now : Option (List ℕ)) (branchings : ℕ) (end : List ℕ) → end ≡ text_of (End ∷ []) → told ≡ tells
    → (tells ≡ true → old ≡ Some (text_of (heading_entries found.heading))) → AreAdded table found found.visited.items told old mid branchings
    → (tells ≡ true → (held : List ℕ) → mid ≡ Some held → now ≡ Some (held ++ end)) → HoldsText table found tells now branchings
whole_text table found tells told old mid now branchings end end_is same begins f last = record {
  lines = f.lines;
  are = f.are;
  counted = f.counted;
  held = λ t.
      let head = text_of (heading_entries found.heading) in
      last t (head ++ nodes_text f.lines) (f.added (same ∙ t) head (begins t))
      ∙ ap (λ (z : List ℕ). Some z) (ap (λ z. (head ++ nodes_text f.lines) ++ z) end_is ∙ append_assoc head (nodes_text f.lines) (text_of (End ∷ [])) ∙ sym (document_is found.heading f.lines));
}

pub last_part : (table : TableValue) (found : Found) (tells : Bool) (old mid now : Option (List ℕ)) (branchings : ℕ) (end : List ℕ) → end ≡ text_of (End ∷ []) → tells ≡ true
    → old ≡ Some (text_of (heading_entries found.heading)) → AreAdded table found found.visited.items tells old mid branchings
    → ((held : List ℕ) → mid ≡ Some held → HoldsFront now (held ++ end)) → HoldsPart table found now
last_part table found tells old mid now branchings end end_is t begins f last =
    let head = text_of (heading_entries found.heading) in
    let shape : (head ++ nodes_text f.lines) ++ end ≡ document_text found.heading f.lines =
    ap (λ z. (head ++ nodes_text f.lines) ++ z) end_is ∙ append_assoc head (nodes_text f.lines) (text_of (End ∷ [])) ∙ sym (document_is found.heading f.lines) in
    record { lines = f.lines; are = f.are; front = subst (HoldsFront now) shape (last (head ++ nodes_text f.lines) (f.added t head begins)) }
