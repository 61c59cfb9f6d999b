-- The certificate of a search is a document.
use Rattle.std.proofs.Common.{ℕ, ◌≤◌, Option, Some, None, List, ◌∷◌, sym, subst, arith}
use Rattle.std.specs.Prelude.{IfSome, option_map}
use Rattle.std.specs.List.{AllByRecursion}
use Rattle.seed_model.specs.declared.node.Node.{Node}
use Rattle.seed_model.specs.declared.range.Range.{Range}
use Rattle.seed_model.specs.Files.{holds}
use Rattle.seed_model.specs.Ranges.{IsRange}
use Rattle.seed_model.specs.Tables.{TableValue, IsTable}
use Rattle.seed_model.specs.Nodes.{IsNode}
use Rattle.seed_text.proofs.SetWordLemmas.{set_word}
use Rattle.bound_cert.specs.declared.node_line.NodeLine.{NodeLine}
use Rattle.bound_cert.specs.Documents.{plan_entry, bound_entry, heading_entries, IsDocument}
use Rattle.bound_cert.specs.Lines.{IsLine}
use Rattle.branch_bound.specs.declared.ending.Ending.{Ending}
use Rattle.branch_bound.specs.declared.ending.Ending.TheVariants.{Closed, Spent}
use Rattle.branch_bound.specs.declared.entry.Entry.{Entry}
use Rattle.branch_bound.specs.declared.entry.Kept.{Kept}
use Rattle.branch_bound.specs.Ended.{IsEnded, bound_of, cut_of, heading_of, AreVisited}
use Rattle.branch_bound.specs.declared.found.Found.{Found}
use Rattle.branch_bound.specs.Founds.{IsComplete}
use Rattle.branch_bound.specs.Entries.{entry_at}
use Rattle.branch_bound.specs.Outcomes.{search_root, IsSearched}
use Rattle.branch_bound.specs.SearchTrees.{SearchTree}
use Rattle.branch_bound.specs.States.{claim_of, IsKept}
use Rattle.branch_bound.specs.Visits.{IsOrdered, visits}
use Rattle.branch_bound.proofs.Certified.{closed_fitting, closed_searched, spent_fitting, spent_searched}
use Rattle.branch_bound.proofs.Documents.{is_document}
use Rattle.branch_bound.proofs.Ready.{state_ordered}
use Rattle.branch_bound.proofs.Relaxed.{few_migrated, few_replicated}
use Rattle.branch_bound.proofs.Running.{whole_small}

module _ (table : TableValue) (lawful : IsTable table) where
  plan_line : (range : Range) (root : Node) (kept : Option Kept) → IfSome kept (IsKept table range root) → IsLine (plan_entry (option_map claim_of kept))
  plan_line range root None h = tt
  plan_line range root (Some k) h =
      (set_word k.set (omega (arith, h.files, lawful.files)), omega (arith, h.migrated, few_migrated table (holds k.set) lawful), omega (arith, h.replicated, few_replicated table (holds k.set) lawful))

  small_bytes : (range : Range) (root : Node) (kept : Option Kept) → IfSome kept (IsKept table range root) → IsLine (bound_entry (option_map (λ (k : Kept). k.replicated) kept))
  small_bytes range root None h = tt
  small_bytes range root (Some k) h = omega (arith, h.replicated, few_replicated table (holds k.set) lawful)

  heading_lawful : (range : Range) (pins : Option Node) (kept : Option Kept) (ending : Ending) → IsRange range → IfSome pins (IsNode table.files) → IsLine (plan_entry (option_map claim_of kept)) → IsLine (bound_entry (bound_of kept ending))
      → AllByRecursion IsLine (heading_entries (heading_of range pins kept ending))
  heading_lawful range None kept ending r f p b = ((omega arith, omega arith), ((r.ordered, r.small), (tt, (p, (b, tt)))))
  heading_lawful range (Some pins) kept ending r f p b =
      ((omega arith, omega arith), ((r.ordered, r.small), ((set_word pins.inside (omega (arith, f.inside, lawful.files)), set_word pins.outside (omega (arith, f.outside, lawful.files))), (tt, (p, (b, tt))))))

  -- the certificate of a search, and that it is in the form of documents
  pub record IsAssembled (range : Range) (pins : Option Node) (budget : ℕ) (kept : Option Kept) (ending : Ending) (lines : List NodeLine) : Type 0 where
    pub searched : IsSearched table range pins budget (heading_of range pins kept ending) lines
    pub document : IsDocument (heading_of range pins kept ending) lines

  pub assembled : (range : Range) (pins : Option Node) (budget : ℕ) (kept : Option Kept) (branchings : ℕ) (es : List Entry) (ending : Ending) → IsRange range → IfSome pins (IsNode table.files) → branchings ≤ budget
      → IsEnded table range (search_root table.files pins) budget kept branchings es ending → (lines : List NodeLine)
      → ((tree : SearchTree) → IsOrdered es tree → AreVisited table (search_root table.files pins) es (visits (cut_of kept ending) (entry_at es) tree) lines) → IsAssembled range pins budget kept ending lines
  assembled range pins budget kept branchings es Closed r f few e lines visited =
      let s = e.state in
      let each = visited s.tree (state_ordered table range (search_root table.files pins) kept branchings es e.candidates s) s.nodes s.are_nodes in
      let fit = closed_fitting table range pins f budget kept branchings few es e lines each in
      record {
        searched = closed_searched table range pins f budget kept branchings few es e lines each;
        document = subst (λ z. IsDocument (heading_of range pins kept Closed) z) (sym fit.is)
            (is_document (heading_of range pins kept Closed) fit.tree
            (heading_lawful range pins kept Closed r f (plan_line range (search_root table.files pins) kept s.plan) (small_bytes range (search_root table.files pins) kept s.plan)) (fit.fits lawful));
      }
  assembled range pins budget kept branchings es (Spent whole) r f few e lines visited =
      let s = e.state in
      let each = visited s.tree (state_ordered table range (search_root table.files pins) kept branchings es (e.first ∷ e.rest) s) s.nodes s.are_nodes in
      let fit = spent_fitting table range pins f budget kept branchings few es whole e lines each in
      record {
        searched = spent_searched table range pins f budget kept branchings few es whole e lines each;
        document = subst (λ z. IsDocument (heading_of range pins kept (Spent whole)) z) (sym fit.is)
            (is_document (heading_of range pins kept (Spent whole)) fit.tree
            (heading_lawful range pins kept (Spent whole) r f (plan_line range (search_root table.files pins) kept s.plan)
            (whole_small table range (search_root table.files pins) kept branchings es e.first e.rest lawful s e.least whole e.ceiling)) (fit.fits lawful));
      }

  -- the lines of the visited nodes of a complete search make its certificate
  pub complete_assembled : (range : Range) (pins : Option Node) (budget : ℕ) (found : Found) → IsRange range → IfSome pins (IsNode table.files) → IsComplete table range pins budget found → (lines : List NodeLine)
      → AreVisited table found.root found.state.entries found.visited.items lines → IsSearched table range pins budget found.heading lines × IsDocument found.heading lines
  complete_assembled range pins budget found r f c lines visited =
      let all = assembled range pins budget found.state.kept found.state.branchings found.state.entries found.ending r f c.within c.ended lines
      (λ tree ordered. subst (λ z. AreVisited table z found.state.entries (visits (cut_of found.state.kept found.ending) (entry_at found.state.entries) tree) lines) c.root
      (subst (λ z. AreVisited table found.root found.state.entries z lines) (c.visited tree ordered) visited)) in
      (subst (λ z. IsSearched table range pins budget z lines) (sym c.heading) all.searched, subst (λ z. IsDocument z lines) (sym c.heading) all.document)
