-- What a search writes is the certificate of a search.
use Rattle.std.proofs.Common.{◌≡◌, inl, inr, ℕ, zero, suc, ◌^◌, ◌<◌, ◌≤◌, Bool, true, false, cond, Option, Some, None, List, [], ◌∷◌, ◌++◌, length, length-append, refl, sym, ◌∙◌, ap, subst, arith}
use Rattle.std.specs.Prelude.{IfSome, option_map}
use Rattle.std.proofs.lemmas.List.Elements.{All-head, All-tail}
use Rattle.seed_model.specs.declared.node.Node.{Node}
use Rattle.seed_model.specs.declared.range.Range.{Range}
use Rattle.seed_model.specs.Nodes.{IsNode}
use Rattle.seed_model.specs.Ranges.{IsRange}
use Rattle.seed_model.specs.Tables.{TableValue, IsTable}
use Rattle.bound_cert.specs.declared.heading.Heading.{Heading}
use Rattle.bound_cert.specs.declared.node_line.NodeLine.{NodeLine}
use Rattle.bound_cert.specs.declared.node_line.NodeLine.TheVariants as line
use Rattle.bound_cert.specs.Documents.{document_text}
use Rattle.hull_bound.specs.Forms.{AreMultipliersAt}
use Rattle.branch_bound.specs.declared.entry.Entry.{Entry}
use Rattle.branch_bound.specs.declared.entry.Finding.{Finding}
use Rattle.branch_bound.specs.declared.entry.Finding.TheVariants.{Low, High, Valued}
use Rattle.branch_bound.specs.declared.entry.Kept.{Kept}
use Rattle.branch_bound.specs.declared.entry.Origin.{Origin}
use Rattle.branch_bound.specs.declared.entry.Relaxation.{Relaxation}
use Rattle.branch_bound.specs.declared.found.Found.{Found}
use Rattle.branch_bound.specs.declared.outcome.Outcome.{Outcome}
use Rattle.branch_bound.specs.declared.visits.Visit.{Visit}
use Rattle.branch_bound.specs.Cuts.{is_cut}
use Rattle.branch_bound.specs.Ended.{EachLine, AreVisited, cut_of}
use Rattle.branch_bound.specs.Entries.{entry_at, node_by, IsOrigin, AreOrigins, AreNodes}
use Rattle.branch_bound.specs.Founds.{IsComplete}
use Rattle.branch_bound.specs.Fractions.{Fraction}
use Rattle.branch_bound.specs.Outcomes.{search_root}
use Rattle.branch_bound.specs.SearchTrees.{SearchTree, Childless, Parent, numbers}
use Rattle.branch_bound.specs.States.{claim_of, IsFound, IsKept, IsKnown}
use Rattle.branch_bound.specs.Streams.{SaysPlan, IsSearchText, IsSaid, LeavesFront, IsPlanned, HaveLines, HoldsText, HoldsPart}
use Rattle.branch_bound.specs.Visits.{AreInside, visits}
use Rattle.branch_bound.specs.Written.{IsLeafLine, IsLineOf, branch_line}
use Rattle.branch_bound.proofs.Assembled.{complete_assembled}
use Rattle.branch_bound.proofs.Ready.{HasState, ended_state, state_ordered}

-- the nodes of entries are told by them
module _ (files : ℕ) (root : Node) (es : List Entry) (origins : AreOrigins files es) (nodes other : ℕ → Node) (are : AreNodes root es nodes) (too : AreNodes root es other) where
  by_origin : (n k : ℕ) (origin : Option Origin) → k ≤ n → IsOrigin files k origin → ((j : ℕ) → j < n → j < length es → nodes j ≡ other j) → k < length es → node_by root nodes origin ≡ node_by root other origin
  by_origin n k None le o h l = refl
  by_origin n k (Some origin) le o h l = ap (λ z. node_by root (λ j. z) (Some origin)) (h origin.parent (omega (arith, o.0, le)) (omega (arith, o.0, l)))

  one_node_below : (n k : ℕ) → k < n → k < length es → nodes k ≡ other k
  one_node_below zero k lt l = absurd (omega (arith, lt))
  one_node_below (suc n) k lt l = are k l ∙ by_origin n k (entry_at es k).origin (omega (arith, lt)) (origins k l) (one_node_below n) l ∙ sym (too k l)

  pub one_node : (k : ℕ) → k < length es → nodes k ≡ other k
  one_node k l = one_node_below (suc k) k (omega arith) l

  pub each_same : (table : TableValue) (visited : List Visit) (lines : List NodeLine) → AreInside es visited → EachLine table es nodes visited lines → EachLine table es other visited lines
  each_same table [] [] i h = tt
  each_same table [] (l ∷ ls) i h = absurd h
  each_same table (v ∷ vs) [] i h = absurd h
  each_same table (v ∷ vs) (l ∷ ls) i h =
      let Inside : Visit → Type 0 = λ x. x.number < length es in
      (subst (λ z. IsLineOf table v.cut z (entry_at es v.number).file (entry_at es v.number).finding l) (one_node v.number (All-head Inside v vs i)) h.0, each_same table vs ls (All-tail Inside v vs i) h.1)

-- what was found at a node has a line
leaf_of : (table : TableValue) (range : Range) (kept : Option Kept) (node : Node) (r : Relaxation) (k : IsKnown table range kept node r) → IsLeafLine table node r (line.Leaf k.multipliers)
leaf_of table range kept node r k = record {
  multipliers = k.multipliers;
  is = refl;
  at_slope = subst (λ x. AreMultipliersAt table node r.p x k.multipliers) k.q (subst (λ x. AreMultipliersAt table node x k.multipliers.q k.multipliers) k.p k.relaxation.multipliers);
}

pub record HasLine (table : TableValue) (cut : Bool) (node : Node) (file : Option ℕ) (finding : Finding) : Type 0 where
  pub written : NodeLine
  pub is : IsLineOf table cut node file finding written

line_for : (table : TableValue) (range : Range) (kept : Option Kept) (level : Fraction) (cut : Bool) (node : Node) (file : Option ℕ) (finding : Finding) → IsFound table range kept level node file finding → HasLine table cut node file finding
line_for table range kept level cut node file Low f = record { written = line.Low; is = refl }
line_for table range kept level cut node file High f = record { written = line.High; is = refl }
line_for table range kept level cut node None (Valued r) f = record { written = line.Leaf f.0.multipliers; is = leaf_of table range kept node r f.0 }
line_for table range kept level true node (Some file) (Valued r) f = record { written = line.Leaf f.0.multipliers; is = leaf_of table range kept node r f.0 }
line_for table range kept level false node (Some file) (Valued r) f = record { written = branch_line r file; is = refl }

record HaveEach (table : TableValue) (es : List Entry) (nodes : ℕ → Node) (visited : List Visit) : Type 0 where
  pub lines : List NodeLine
  pub each : EachLine table es nodes visited lines

-- no more nodes are visited than there are
few_visits : (bytes : Option ℕ) (at : ℕ → Entry) (tree : SearchTree) → length (visits bytes at tree) ≤ length (numbers tree)
few_visits bytes at (Childless k) = omega arith
few_visits bytes at (Parent k out inn) =
    omega (arith, by_cut (is_cut bytes (at k).finding), length-append (visits bytes at out) (visits bytes at inn), length-append (numbers out) (numbers inn), few_visits bytes at out, few_visits bytes at inn)
  where
    by_cut : (cut : Bool) → length (cond cut [] (visits bytes at out ++ visits bytes at inn)) ≤ length (visits bytes at out ++ visits bytes at inn)
    by_cut true = omega arith
    by_cut false = omega arith

module _ (table : TableValue) (range : Range) (pins : Option Node) (budget : ℕ) (found : Found) (c : IsComplete table range pins budget found) where
  has : HasState table range (search_root table.files pins) found.state.kept found.state.branchings found.state.entries
  has = ended_state table range (search_root table.files pins) budget found.state.kept found.state.branchings found.state.entries found.ending c.ended

  each_line : (visited : List Visit) → AreInside found.state.entries visited → HaveEach table found.state.entries has.state.nodes visited
  each_line [] i = record { lines = []; each = tt }
  each_line (v ∷ vs) i =
      let Inside : Visit → Type 0 = λ x. x.number < length found.state.entries in
      let s = has.state in
      let e = entry_at found.state.entries v.number in
      let first = line_for table range found.state.kept s.level v.cut (s.nodes v.number) e.file e.finding (s.found v.number (All-head Inside v vs i)) in
      let rest = each_line vs (All-tail Inside v vs i) in
      record { lines = first.written ∷ rest.lines; each = (first.is, rest.each) }

  -- each visited node has its line
  pub complete_lines : HaveLines table found
  complete_lines visited inside =
      let s = has.state in
      let made = each_line visited inside in
      record {
        lines = made.lines;
        are = λ nodes are.
            each_same table.files (search_root table.files pins) found.state.entries s.origins s.nodes nodes s.are_nodes (subst (λ z. AreNodes z found.state.entries nodes) c.root are) table visited made.lines inside made.each;
      }

  pub complete_few : budget ≤ 65535 → length found.visited.items < 2 ^ 32
  complete_few few =
      let s = has.state in
      let ordered = state_ordered table range (search_root table.files pins) found.state.kept found.state.branchings found.state.entries has.candidates s in
      let same : length found.visited.items ≡ length (visits (cut_of found.state.kept found.ending) (entry_at found.state.entries) s.tree) = ap (λ (z : List Visit). length z) (c.visited s.tree ordered) in
      omega (arith, same, few_visits (cut_of found.state.kept found.ending) (entry_at found.state.entries) s.tree, ordered.count, s.count, c.within, few)

  -- the set of the plan has the table's files
  width_of : (kept : Option Kept) → IfSome kept (IsKept table range (search_root table.files pins)) → IfSome (option_map (λ (k : Kept). k.set) kept) (λ set. length set ≡ table.files)
  width_of None h = tt
  width_of (Some kept) h = h.files

  pub complete_width : (outcome : Outcome) → outcome.plan ≡ option_map (λ (k : Kept). k.set) found.state.kept → IfSome outcome.plan (λ set. length set ≡ table.files)
  complete_width outcome same = subst (λ z. IfSome z (λ set. length set ≡ table.files)) (sym same) (width_of found.state.kept has.state.plan)

  -- the text is that of a search's certificate
  module _ (lawful : IsTable table) (r : IsRange range) (fit : IfSome pins (IsNode table.files)) where
    text_of_lines : (lines : List NodeLine) → AreVisited table found.root found.state.entries found.visited.items lines → IsSearchText table range pins budget (document_text found.heading lines)
    text_of_lines lines are =
        let all = complete_assembled table lawful range pins budget found r fit c lines are in
        record { heading = found.heading; nodes = lines; document = all.1; text_is = refl; searched = all.0 }

    -- what is said of it is so, whether the shelf tells or not
    pub complete_said : (tells : Bool) (now : Option (List ℕ)) (branchings : ℕ) (outcome : Outcome) → HoldsText table found tells now branchings → outcome.answer ≡ found.heading.answer
        → SaysPlan outcome (option_map claim_of found.state.kept) → outcome.bound ≡ found.heading.bound → outcome.branchings ≡ branchings → IsSaid table range pins budget outcome
    unfolding text_of_lines
    complete_said tells now branchings outcome h answer plan bound count =
        record {
          bytes = document_text found.heading h.lines;
          text = text_of_lines h.lines h.are;
          outcome_of = record { answer = answer; plan = subst (SaysPlan outcome) (sym (ap (λ (z : Heading). z.plan) c.heading)) plan; bound = bound; branchings = count ∙ h.counted };
        }

    pub complete_planned : (tells : Bool) (now : Option (List ℕ)) (branchings : ℕ) (outcome : Outcome) → tells ≡ true → HoldsText table found tells now branchings → outcome.answer ≡ found.heading.answer
        → SaysPlan outcome (option_map claim_of found.state.kept) → outcome.bound ≡ found.heading.bound → outcome.branchings ≡ branchings → IsPlanned table range pins budget now outcome
    unfolding complete_said
    complete_planned tells now branchings outcome t h answer plan bound count =
        let said = complete_said tells now branchings outcome h answer plan bound count in
        record { bytes = said.bytes; held = h.held t; text = said.text; outcome_of = said.outcome_of }

    front_now : (old now : Option (List ℕ)) (bytes rest whole : List ℕ) → now ≡ Some bytes → whole ≡ bytes ++ rest → IsSearchText table range pins budget whole → LeavesFront table range pins budget old now
    front_now old None bytes rest whole held is text = absurd (cc held)
    front_now old (Some b) bytes rest whole held is text =
        let same : b ≡ bytes = cc held in
        inr (record { rest = rest; whole = subst (IsSearchText table range pins budget) (is ∙ ap (λ z. z ++ rest) (sym same)) text })

    pub complete_front : (old now : Option (List ℕ)) → HoldsPart table found now → LeavesFront table range pins budget old now
    complete_front old now h = front_now old now h.front.bytes h.front.rest (document_text found.heading h.lines) h.front.held h.front.is (text_of_lines h.lines h.are)

-- a name that is as it was
pub as_before : (table : TableValue) (range : Range) (pins : Option Node) (budget : ℕ) (old now : Option (List ℕ)) → now ≡ old → LeavesFront table range pins budget old now
as_before table range pins budget old None same = sym same
as_before table range pins budget old (Some bytes) same = inl (sym same)
