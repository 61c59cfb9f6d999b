-- What a state is ready for: to be walked and written.
use Rattle.std.proofs.Common.{◌≡◌, ℕ, ◌+◌, ◌*◌, ◌<◌, Bool, true, false, cond, Option, Some, None, List, [], ◌∷◌, ◌++◌, length, refl, sym, subst, arith, ltb}
use Rattle.std.specs.Prelude.{All, IfSome}
use Rattle.std.proofs.lemmas.List.Elements.{All-nil, All-cons, All-append}
use Rattle.seed_model.specs.declared.node.Node.{Node}
use Rattle.seed_model.specs.declared.range.Range.{Range}
use Rattle.seed_model.specs.Tables.{TableValue, IsTable}
use Rattle.seed_model.specs.Nodes.{IsNode}
use Rattle.branch_bound.specs.declared.candidate.Candidate.{Candidate}
use Rattle.branch_bound.specs.declared.entry.Entry.{Entry}
use Rattle.branch_bound.specs.declared.entry.Kept.{Kept}
use Rattle.branch_bound.specs.declared.entry.Finding.{Finding}
use Rattle.branch_bound.specs.declared.entry.Finding.TheVariants.{Low, High, Valued}
use Rattle.branch_bound.specs.declared.visits.Visit.{Visit}
use Rattle.branch_bound.specs.declared.ending.Ending.{Ending}
use Rattle.branch_bound.specs.declared.ending.Ending.TheVariants.{Closed, Spent}
use Rattle.branch_bound.specs.declared.found.Found.{Found}
use Rattle.branch_bound.specs.Cuts.{is_cut}
use Rattle.branch_bound.specs.Ended.{IsEnded, cut_of}
use Rattle.branch_bound.specs.Founds.{IsComplete}
use Rattle.branch_bound.specs.Outcomes.{search_root}
use Rattle.seed_model.proofs.NodeMembers.{undecided_admits}
use Rattle.branch_bound.specs.Entries.{entry_at}
use Rattle.branch_bound.specs.SearchTrees.{SearchTree, Childless, Parent, numbers, times, IsTreeOf}
use Rattle.branch_bound.specs.States.{IsFound, IsState}
use Rattle.branch_bound.specs.Visits.{IsShapeOf, IsOrdered, AreOrdered, HasWeight, HaveWeights, visit_of, visits, AreInside}
use Rattle.branch_bound.specs.Written.{IsWritable, AreWritable}
use Rattle.branch_bound.proofs.Relaxed.{has_weight}
use Rattle.branch_bound.proofs.Trees.{less_true, less_false, numbers_count, at_same}

shape_of : (at : ℕ → Entry) (nodes : ℕ → Node) (tree : SearchTree) → IsTreeOf at nodes tree → IsShapeOf at tree
shape_of at nodes (Childless k) t = t
shape_of at nodes (Parent k out inn) t = (λ e. let is = t.0.is in cc (e, is), shape_of at nodes out t.1, shape_of at nodes inn t.2)

numbers_below : (n : ℕ) (tree : SearchTree) → ((j : ℕ) → 0 < times j tree → j < n) → All (λ k. k < n) (numbers tree)
numbers_below n (Childless k) h = All-cons (λ j. j < n) k [] (h k (omega (arith, at_same k k refl))) (All-nil (λ j. j < n))
numbers_below n (Parent k out inn) h =
    All-cons (λ j. j < n) k (numbers out ++ numbers inn) (h k (omega (arith, at_same k k refl)))
    (All-append (λ j. j < n) (numbers out) (numbers inn) (numbers_below n out (λ j p. h j (omega (arith, p)))) (numbers_below n inn (λ j p. h j (omega (arith, p)))))

-- the visited nodes are of the tree
pub visits_inside : (es : List Entry) (bytes : Option ℕ) (tree : SearchTree) → ((j : ℕ) → 0 < times j tree → j < length es) → AreInside es (visits bytes (entry_at es) tree)
visits_inside es bytes (Childless k) h = All-cons (λ (v : Visit). v.number < length es) (visit_of bytes (entry_at es) k) [] (h k (omega (arith, at_same k k refl))) (All-nil (λ (v : Visit). v.number < length es))
visits_inside es bytes (Parent k out inn) h =
    let P : Visit → Type 0 = λ v. v.number < length es in
    All-cons P (visit_of bytes (entry_at es) k) (cond (is_cut bytes (entry_at es k).finding) [] (visits bytes (entry_at es) out ++ visits bytes (entry_at es) inn)) (h k (omega (arith, at_same k k refl)))
    (by_cut (is_cut bytes (entry_at es k).finding) (visits_inside es bytes out (λ j p. h j (omega (arith, p)))) (visits_inside es bytes inn (λ j p. h j (omega (arith, p)))))
  where
    by_cut : (b : Bool) → AreInside es (visits bytes (entry_at es) out) → AreInside es (visits bytes (entry_at es) inn) → AreInside es (cond b [] (visits bytes (entry_at es) out ++ visits bytes (entry_at es) inn))
    by_cut true o i = All-nil (λ (v : Visit). v.number < length es)
    by_cut false o i = All-append (λ (v : Visit). v.number < length es) (visits bytes (entry_at es) out) (visits bytes (entry_at es) inn) o i

module _ (table : TableValue) (range : Range) (root : Node) (kept : Option Kept) (branchings : ℕ) (es : List Entry) (cs : List Candidate) (state : IsState table range root kept branchings es cs) where
  pub within : (j : ℕ) → 0 < times j state.tree → j < length es
  within j p = step (ltb j (length es)) refl
    where
      step : (b : Bool) → b ≡ ltb j (length es) → j < length es
      step true e = less_true j (length es) e
      step false e = absurd (let none = (state.once j).1 (less_false j (length es) e) in omega (arith, none, p))

  pub state_ordered : IsOrdered es state.tree
  state_ordered = record {
    begins = state.begins;
    shape = shape_of (entry_at es) state.nodes state.tree state.tree_of;
    linked = state.linked;
    below = numbers_below (length es) state.tree within;
    count = omega (arith, numbers_count state.tree, state.made, state.count);
  }

  writable : (node : Node) (file : Option ℕ) (finding : Finding) → IsFound table range kept state.level node file finding → IsWritable finding
  writable node file Low f = tt
  writable node file High f = tt
  writable node file (Valued r) f =
      let k = f.0 in
      let lines = k.relaxation.multipliers.form.lines.0 in
      (omega (arith, lines.0, k.p), omega (arith, lines.1, k.q), omega (arith, lines.2, k.q))

  pub state_writable : AreWritable table root es
  state_writable = record {
    nodes = state.nodes;
    are_nodes = state.are_nodes;
    origins = state.origins;
    lawful = λ k l. (state.below k l).is_node;
    findings = λ k l. writable (state.nodes k) (entry_at es k).file (entry_at es k).finding (state.found k l);
  }

  weighed : IsTable table → (node : Node) (file : Option ℕ) (finding : Finding) → IsFound table range kept state.level node file finding → HasWeight finding
  weighed lawful node file Low f = tt
  weighed lawful node file High f = tt
  weighed lawful node file (Valued r) f = has_weight table range kept node r lawful f.0

  pub state_weights : IsTable table → HaveWeights es
  state_weights lawful = λ k l. weighed lawful (state.nodes k) (entry_at es k).file (entry_at es k).finding (state.found k l)

-- a search that has ended has a state
pub record HasState (table : TableValue) (range : Range) (root : Node) (kept : Option Kept) (branchings : ℕ) (es : List Entry) : Type 0 where
  pub candidates : List Candidate
  pub state : IsState table range root kept branchings es candidates

pub ended_state : (table : TableValue) (range : Range) (root : Node) (budget : ℕ) (kept : Option Kept) (branchings : ℕ) (es : List Entry) (ending : Ending) → IsEnded table range root budget kept branchings es ending → HasState table range root kept branchings es
ended_state table range root budget kept branchings es Closed e = record { candidates = e.candidates; state = e.state }
ended_state table range root budget kept branchings es (Spent whole) e = record { candidates = e.first ∷ e.rest; state = e.state }

pub ended_ordered : (table : TableValue) (range : Range) (root : Node) (budget : ℕ) (kept : Option Kept) (branchings : ℕ) (es : List Entry) (ending : Ending) → IsEnded table range root budget kept branchings es ending → AreOrdered es
ended_ordered table range root budget kept branchings es ending e =
    let s = ended_state table range root budget kept branchings es ending e in
    record { tree = s.state.tree; ordered = state_ordered table range root kept branchings es s.candidates s.state }

pub ended_weights : (table : TableValue) (range : Range) (root : Node) (budget : ℕ) (kept : Option Kept) (branchings : ℕ) (es : List Entry) (ending : Ending) → IsTable table → IsEnded table range root budget kept branchings es ending → HaveWeights es
ended_weights table range root budget kept branchings es ending lawful e =
    let s = ended_state table range root budget kept branchings es ending e in
    state_weights table range root kept branchings es s.candidates s.state lawful

pub ended_few : (table : TableValue) (range : Range) (root : Node) (budget : ℕ) (kept : Option Kept) (branchings : ℕ) (es : List Entry) (ending : Ending) → IsEnded table range root budget kept branchings es ending → length es ≡ 2 * branchings + 1
ended_few table range root budget kept branchings es ending e = (ended_state table range root budget kept branchings es ending e).state.count

-- and a complete search can be written
module _ (table : TableValue) (range : Range) (pins : Option Node) (budget : ℕ) (found : Found) (c : IsComplete table range pins budget found) where
  has_state : HasState table range (search_root table.files pins) found.state.kept found.state.branchings found.state.entries
  has_state = ended_state table range (search_root table.files pins) budget found.state.kept found.state.branchings found.state.entries found.ending c.ended

  pub complete_writable : AreWritable table found.root found.state.entries
  complete_writable =
      subst (λ z. AreWritable table z found.state.entries) (sym c.root)
      (state_writable table range (search_root table.files pins) found.state.kept found.state.branchings found.state.entries has_state.candidates has_state.state)

  pub complete_inside : AreInside found.state.entries found.visited.items
  complete_inside =
      let s = has_state.state in
      let ordered = state_ordered table range (search_root table.files pins) found.state.kept found.state.branchings found.state.entries has_state.candidates s in
      subst (AreInside found.state.entries) (sym (c.visited s.tree ordered))
      (visits_inside found.state.entries (cut_of found.state.kept found.ending) s.tree (within table range (search_root table.files pins) found.state.kept found.state.branchings found.state.entries has_state.candidates s))

  pub complete_root : IfSome pins (IsNode table.files) → IsNode table.files found.root
  complete_root fit = subst (IsNode table.files) (sym c.root) (by_pins pins fit)
    where
      by_pins : (p : Option Node) → IfSome p (IsNode table.files) → IsNode table.files (search_root table.files p)
      by_pins None f = (undecided_admits table.files).0
      by_pins (Some node) f = f
