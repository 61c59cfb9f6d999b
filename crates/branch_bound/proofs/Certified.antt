-- The certificate of a search.
use Rattle.std.proofs.Common.{◌≡◌, ◌≢◌, ℕ, zero, suc, ◌+◌, ◌*◌, ◌^◌, ◌<◌, ◌≤◌, Bool, true, false, cond, Option, Some, None, List, [], ◌∷◌, ◌++◌, length, ◌⊎◌, inl, inr, refl, sym, ◌∙◌, ap, subst, arith}
use Rattle.std.specs.Prelude.{IfSome, MatchOption, option_map, count_by}
use Rattle.std.proofs.Math.Nat.{lt_of_mul-lt-mul_right}
use Rattle.std.proofs.lemmas.List.Elements.{All-head}
use Rattle.std.proofs.lemmas.List.Sums.{sum_by-cons, sum_by-append}
use Rattle.seed_model.specs.declared.node.Node.{Node}
use Rattle.seed_model.specs.declared.range.Range.{Range}
use Rattle.seed_model.specs.Differences.{IsFirstDifference}
use Rattle.seed_model.specs.Files.{holds}
use Rattle.seed_model.specs.Sums.{migrated_of, replicated_of}
use Rattle.seed_model.specs.Tables.{TableValue, IsTable}
use Rattle.seed_model.specs.Nodes.{IsNode, IsAdmitted, weight_of}
use Rattle.seed_ratio.specs.Fractions.{IsCeiling}
use Rattle.seed_text.specs.SetTexts.{set_text}
use Rattle.bound_cert.specs.declared.node_line.NodeLine.{NodeLine}
use Rattle.bound_cert.specs.Sets.{set_named, root_of}
use Rattle.bound_cert.specs.Spent.{ReplicatesMore, IsOpen, StaysBelow}
use Rattle.bound_cert.specs.Trees.{Tree, Tip, Fork, preorder, branchings, is_branch, EachFork, Stands, out_child, in_child}
use Rattle.bound_cert.specs.Valid.{IsClaim, ArePins, Agrees, IsValid}
use Rattle.branch_bound.specs.declared.candidate.Candidate.{Candidate}
use Rattle.branch_bound.specs.declared.ending.Ending.{Ending}
use Rattle.branch_bound.specs.declared.ending.Ending.TheVariants.{Closed, Spent}
use Rattle.branch_bound.specs.declared.entry.Entry.{Entry}
use Rattle.branch_bound.specs.declared.entry.Kept.{Kept}
use Rattle.branch_bound.specs.declared.entry.Finding.{Finding}
use Rattle.branch_bound.specs.declared.entry.Finding.TheVariants.{Low, High, Valued}
use Rattle.branch_bound.specs.Cuts.{is_cut}
use Rattle.branch_bound.specs.Ended.{IsClosed, IsSpent, answer_of, bound_of, cut_of, heading_of, EachLine}
use Rattle.branch_bound.specs.Entries.{entry_at}
use Rattle.branch_bound.specs.Outcomes.{free_files, search_root, named_pins, Concludes, IsSearched}
use Rattle.branch_bound.specs.SearchTrees.{SearchTree, Childless, Parent, top, parents, times, IsParent, IsTreeOf}
use Rattle.branch_bound.specs.States.{claim_of, IsKept, IsOffered, IsFound, IsCandidateOf, IsState, GoesOn}
use Rattle.branch_bound.specs.Visits.{visits}
use Rattle.branch_bound.proofs.Documents.{TreeFits}
use Rattle.branch_bound.proofs.Endings.{Suits, IsBuilt, built, named_set, set_of_text}
use Rattle.branch_bound.proofs.Free.{free-out, free-in, OneLess, one_left, some_free}
use Rattle.branch_bound.proofs.Heaps.{IsPriced, priced, candidate_inside}
use Rattle.branch_bound.proofs.LineLists.{lines_of_tree}
use Rattle.branch_bound.proofs.Ready.{within}
use Rattle.branch_bound.proofs.Relaxed.{differ}
use Rattle.branch_bound.proofs.Searched.{closed_suits, waits_short, HasWeightIn, spent_suits, waits_above}
use Rattle.branch_bound.proofs.Trees.{at_same, leaves, leaves_all}
use Rattle.branch_bound.proofs.Values.{difference_is_free}

-- sets of as many files that are not equal differ first at a file
exists_difference : (xs ys : List Bool) → length xs ≡ length ys → xs ≢ ys → (file : ℕ) × IsFirstDifference xs ys file
exists_difference [] [] e ne = absurd (ne refl)
exists_difference [] (y ∷ ys) e ne = absurd (omega (arith, e))
exists_difference (x ∷ xs) [] e ne = absurd (omega (arith, e))
exists_difference (x ∷ xs) (y ∷ ys) e ne = elim (same_or x y) [
  | inl same ↦
      let rest = exists_difference xs ys (omega (arith, e)) (λ q. ne (ap (λ z. z ∷ xs) same ∙ ap (λ z. y ∷ z) q)) in
      (suc rest.0, record { within = omega (arith, rest.1.within); differs = rest.1.differs; first = before_first x y xs ys rest.0 same rest.1.first })
  | inr apart ↦ (0, record { within = omega arith; differs = apart; first = λ b l. absurd (omega (arith, l)) })
]
  where
    same_or : (a b : Bool) → (a ≡ b) ⊎ (a ≢ b)
    same_or true true = inl refl
    same_or false false = inl refl
    same_or true false = inr (λ q. cc q)
    same_or false true = inr (λ q. cc q)

    before_first : (a b : Bool) (us vs : List Bool) (f : ℕ) → a ≡ b → ((g : ℕ) → g < f → holds us g ≡ holds vs g) → (g : ℕ) → g < suc f → holds (a ∷ us) g ≡ holds (b ∷ vs) g
    before_first a b us vs f q h zero l = q
    before_first a b us vs f q h (suc g) l = h g (omega (arith, l))

-- a certificate's branchings are the branch lines of its tree
pub count-preorder : (table : TableValue) (range : Range) (bound : Option ℕ) (node : Node) (tree : Tree) → Stands table range bound node tree → count_by is_branch (preorder tree) ≡ branchings tree
count-preorder table range bound node (Tip line) s =
    let none : ◌≡◌ {A = ℕ} (cond (is_branch line) 1 0) 0 = ap (λ z. cond z 1 0) s.0 in
    omega (arith, sum_by-cons (λ (l : NodeLine). cond (is_branch l) 1 0) line [], none)
count-preorder table range bound node (Fork line out inn) s =
    let one : ◌≡◌ {A = ℕ} (cond (is_branch line) 1 0) 1 = ap (λ z. cond z 1 0) s.0 in
    omega (
      arith,
      sum_by-cons (λ (l : NodeLine). cond (is_branch l) 1 0) line (preorder out ++ preorder inn),
      sum_by-append (λ (l : NodeLine). cond (is_branch l) 1 0) (preorder out) (preorder inn),
      one,
      count-preorder table range bound (out_child line node) out s.2,
      count-preorder table range bound (in_child line node) inn s.3,
    )

-- the root that pins name is where the search begins
pub root_named : (files : ℕ) (pins : Option Node) → IfSome pins (IsNode files) → root_of files (named_pins pins) ≡ search_root files pins
root_named files None h = refl
root_named files (Some pins) h =
    ap (λ z. node_with z (set_named files (set_text pins.outside))) (named_set files pins.inside h.inside) ∙ ap (λ z. node_with pins.inside z) (named_set files pins.outside h.outside)
  where
    node_with : List Bool → List Bool → Node
    node_with x y = record { inside = x; outside = y }

pub are_pins : (files : ℕ) (pins : Option Node) → IfSome pins (IsNode files) → ArePins files (named_pins pins)
are_pins files None h = tt
are_pins files (Some pins) h =
    (set_of_text files pins.inside h.inside, set_of_text files pins.outside h.outside, subst (IsNode files) (sym (root_named files (Some pins) h)) h)

-- the plan that is kept is what the certificate claims
pub is_claim : (table : TableValue) (range : Range) (root : Node) (kept : Option Kept) → IfSome kept (IsKept table range root) → IfSome (option_map claim_of kept) (IsClaim table range root)
is_claim table range root None h = tt
is_claim table range root (Some k) h =
    let same = named_set table.files k.set h.files in
    record {
      set = set_of_text table.files k.set h.files;
      migrated = h.migrated ∙ ap (λ z. migrated_of (holds z) table) (sym same);
      replicated = h.replicated ∙ ap (λ z. replicated_of (holds z) table) (sym same);
      admitted = subst (λ z. IsAdmitted table range root (holds z)) (sym same) h.admitted;
    }

closed_agrees : (kept : Option Kept) → Agrees (answer_of kept Closed) (option_map claim_of kept) (bound_of kept Closed)
closed_agrees None = tt
closed_agrees (Some k) = refl

closed_concludes : (table : TableValue) (range : Range) (budget : ℕ) (root : Node) (kept : Option Kept) (tree : Tree) → ((z : ℕ) → option_map (λ (k : Kept). k.replicated) kept ≡ Some z → EachFork (StaysBelow table z) root tree)
    → Concludes table range budget root tree (answer_of kept Closed) (option_map claim_of kept) (bound_of kept Closed)
closed_concludes table range budget root None tree below = tt
closed_concludes table range budget root (Some k) tree below = below k.replicated refl

module _ (table : TableValue) (range : Range) (pins : Option Node) (fit : IfSome pins (IsNode table.files)) (budget : ℕ) (kept : Option Kept) (branchings : ℕ) (few : branchings ≤ budget) (es : List Entry) where
  -- what is known of the tree that lines make
  module _ (bound bytes : Option ℕ) (Opens : Node → Type 0) (cs : List Candidate) (state : IsState table range (search_root table.files pins) kept branchings es cs) where
    pub Made : List NodeLine → Type 0
    Made lines = IsBuilt table range kept state.level bound bytes (entry_at es) state.nodes Opens (search_root table.files pins) state.tree lines

    pub made : ((j : ℕ) → j < length es → Suits table range kept state.level bound bytes (is_cut bytes (entry_at es j).finding) (entry_at es j).file (entry_at es j).finding) → (lines : List NodeLine)
        → EachLine table es state.nodes (visits bytes (entry_at es) state.tree) lines → Made lines
    unfolding Made
    made suits lines visited =
        let top_is : state.nodes (top state.tree) ≡ search_root table.files pins = ap state.nodes state.begins ∙ state.root_is in
        let inside = within table range (search_root table.files pins) kept branchings es cs state in
        subst (λ z. IsBuilt table range kept state.level bound bytes (entry_at es) state.nodes Opens z state.tree lines) top_is
        (built table range kept state.level bound bytes (entry_at es) state.nodes Opens state.tree lines state.tree_of
        (record { found = λ j p. state.found j (inside j p); suits = λ j p. suits j (inside j p) })
        (lines_of_tree table bytes es state.nodes state.tree lines visited))

    pub tree_of : (lines : List NodeLine) → Made lines → Tree
    unfolding Made
    tree_of lines m = m.made

    -- a valid certificate, where its parts agree
    pub valid : (ending : Ending) (lines : List NodeLine) → bound_of kept ending ≡ bound → Agrees (answer_of kept ending) (option_map claim_of kept) (bound_of kept ending) → Made lines → IsValid table (heading_of range pins kept ending) lines
    unfolding Made
    valid ending lines is agrees m =
        let named = root_named table.files pins fit in
        record {
          pins = are_pins table.files pins fit;
          plan = subst (λ z. IfSome (option_map claim_of kept) (IsClaim table range z)) (sym named) (is_claim table range (search_root table.files pins) kept state.plan);
          agrees = agrees;
          tree = m.made;
          lines = m.lines_are;
          stands = subst (λ z. Stands table range (bound_of kept ending) z m.made) (sym named) (subst (λ z. Stands table range z (search_root table.files pins) m.made) (sym is) m.stands);
        }

    pub searched : (ending : Ending) (lines : List NodeLine) (is : bound_of kept ending ≡ bound) (agrees : Agrees (answer_of kept ending) (option_map claim_of kept) (bound_of kept ending)) (m : Made lines)
        → Concludes table range budget (search_root table.files pins) (tree_of lines m) (answer_of kept ending) (option_map claim_of kept) (bound_of kept ending)
        → count_by is_branch lines ≤ budget → IsSearched table range pins budget (heading_of range pins kept ending) lines
    unfolding Made valid tree_of
    searched ending lines is agrees m concludes count = record {
      same_range = refl;
      same_pins = refl;
      valid = valid ending lines is agrees m;
      within = count;
      values = m.values;
      concludes = concludes;
    }

    pub counted : (lines : List NodeLine) → Made lines → count_by is_branch lines ≤ budget
    unfolding Made
    counted lines m =
        let tree = count-preorder table range bound (search_root table.files pins) m.made m.stands in
        let same : count_by is_branch lines ≡ count_by is_branch (preorder m.made) = ap (count_by is_branch) m.lines_are in
        omega (arith, same, tree, m.few, state.made, few)

  -- lines that are those of a tree whose lines fit a document
  pub record IsFitting (lines : List NodeLine) : Type 0 where
    pub tree : Tree
    pub is : lines ≡ preorder tree
    pub fits : IsTable table → TreeFits tree

  -- closed: optimal, or infeasible
  closed_made : (closed : IsClosed table range (search_root table.files pins) kept branchings es) (lines : List NodeLine)
      → EachLine table es closed.state.nodes (visits (cut_of kept Closed) (entry_at es) closed.state.tree) lines
      → Made (option_map (λ (k : Kept). k.replicated) kept) (option_map (λ (k : Kept). k.replicated) kept) (λ _. Unit {0}) closed.candidates closed.state lines
  closed_made closed lines visited =
      let bytes : Option ℕ = option_map (λ (k : Kept). k.replicated) kept in
      made bytes bytes (λ _. Unit {0}) closed.candidates closed.state
      (λ j l. closed_suits table range kept closed.state.level kept (entry_at es j).file (entry_at es j).finding
      (waits_short table range kept closed.state.level kept es closed.candidates j closed.state.waiting closed.state.values closed.none_better))
      lines visited

  pub closed_fitting : (closed : IsClosed table range (search_root table.files pins) kept branchings es) (lines : List NodeLine)
      → EachLine table es closed.state.nodes (visits (cut_of kept Closed) (entry_at es) closed.state.tree) lines → IsFitting lines
  unfolding Made
  closed_fitting closed lines visited = let m = closed_made closed lines visited in record { tree = m.made; is = m.lines_are; fits = m.fits }

  pub closed_searched : (closed : IsClosed table range (search_root table.files pins) kept branchings es) (lines : List NodeLine)
      → EachLine table es closed.state.nodes (visits (cut_of kept Closed) (entry_at es) closed.state.tree) lines → IsSearched table range pins budget (heading_of range pins kept Closed) lines
  unfolding Made tree_of
  closed_searched closed lines visited =
      let bytes : Option ℕ = option_map (λ (k : Kept). k.replicated) kept in
      let m = closed_made closed lines visited in
      searched bytes bytes (λ _. Unit {0}) closed.candidates closed.state Closed lines refl (closed_agrees kept) m
      (closed_concludes table range budget (search_root table.files pins) kept m.made m.below) (counted bytes bytes (λ _. Unit {0}) closed.candidates closed.state lines m)

  -- spent: open
  module _ (whole : ℕ) (spent : IsSpent table range (search_root table.files pins) budget whole kept branchings es) where
    open_at : IsPriced spent.first (entry_at es spent.first.number).file (entry_at es spent.first.number).finding
    open_at =
        priced spent.first (entry_at es spent.first.number).file (entry_at es spent.first.number).finding
        (All-head (λ (d : Candidate). IsCandidateOf d (entry_at es d.number).file (entry_at es d.number).finding) spent.first spent.rest spent.state.values)

    inside : spent.first.number < length es
    inside = candidate_inside es spent.first spent.rest spent.state.waiting

    found_here : IsFound table range kept spent.state.level (spent.state.nodes spent.first.number) None (Valued open_at.relaxation)
    found_here =
        subst (λ z. IsFound table range kept spent.state.level (spent.state.nodes spent.first.number) None z) open_at.is
        (subst (λ z. IsFound table range kept spent.state.level (spent.state.nodes spent.first.number) z (entry_at es spent.first.number).finding) open_at.bare (spent.state.found spent.first.number inside))

    -- the bound is below the plan's bytes
    below_plan : (plan : Option Kept) → GoesOn plan spent.first → (bytes : ℕ) → MatchOption plan ⊥ (λ (k : Kept). k.replicated ≤ bytes) → whole < bytes
    below_plan None on bytes h = absurd h
    below_plan (Some k) on bytes h =
        let less : whole < k.replicated = lt_of_mul-lt-mul_right spent.first.weight (omega (arith, on, spent.ceiling.near)) in
        omega (arith, less, h)

    shows_more : (plan : Option Kept) (set : List Bool) → GoesOn plan spent.first → IsOffered table range plan set → ReplicatesMore table range whole set
    shows_more None set on offered = λ i. absurd (offered i)
    shows_more (Some k) set on offered = λ i. below_plan (Some k) on (replicated_of (holds set) table) (offered i)

    is_open : IsOpen table range whole (spent.state.nodes spent.first.number)
    is_open =
        let known = found_here.0 in
        let r = open_at.relaxation in
        record {
          mix = r.mix;
          value = known.relaxation.value;
          ceiling = subst (λ z. IsCeiling z (weight_of r.mix) whole) (open_at.worth ∙ known.worth) (subst (λ z. IsCeiling spent.first.worth z whole) open_at.weight spent.ceiling);
          first = shows_more kept r.mix.first spent.goes_on known.first;
          second = shows_more kept r.mix.second spent.goes_on known.second;
        }

    level_low : spent.state.level.over * spent.first.weight ≤ spent.first.worth * spent.state.level.under
    level_low =
        let r = open_at.relaxation in
        subst (λ z. spent.state.level.over * z ≤ spent.first.worth * spent.state.level.under) (sym open_at.weight)
        (subst (λ z. spent.state.level.over * weight_of r.mix ≤ z * spent.state.level.under) (sym (open_at.worth ∙ found_here.0.worth)) found_here.1)

    weighed : (node : Node) (file : Option ℕ) (finding : Finding) → IsFound table range kept spent.state.level node file finding → HasWeightIn table range kept spent.state.level finding
    weighed node file Low f = tt
    weighed node file High f = tt
    weighed node file (Valued r) f = f.0.relaxation.value.is_mix.weighed

    suits : (j : ℕ) → j < length es → Suits table range kept spent.state.level (Some whole) None false (entry_at es j).file (entry_at es j).finding
    suits j l =
        spent_suits table range kept spent.state.level spent.first whole (spent.state.nodes j) (entry_at es j).file (entry_at es j).finding spent.first.weighed spent.state.level_positive spent.ceiling level_low
        (spent.state.found j l) (weighed (spent.state.nodes j) (entry_at es j).file (entry_at es j).finding (spent.state.found j l))
        (waits_above table range kept spent.state.level es spent.first (spent.first ∷ spent.rest) j spent.state.waiting spent.state.values spent.least)

    -- each branching is on a free file
    one_less_here : (k : ℕ) (out inn : SearchTree) (finding : Finding) → (entry_at es k).finding ≡ finding → k < length es → IsParent (entry_at es k).file (spent.state.nodes k) (spent.state.nodes (top out)) (spent.state.nodes (top inn))
        → OneLess table.files spent.state.nodes out → OneLess table.files spent.state.nodes inn → IsFound table range kept spent.state.level (spent.state.nodes k) (entry_at es k).file (entry_at es k).finding
        → OneLess table.files spent.state.nodes (Parent k out inn)
    one_less_here k out inn Low e l t o i f = absurd (let no = (subst (λ z. IsFound table range kept spent.state.level (spent.state.nodes k) (entry_at es k).file z) e f).1 in let yes = t.is in cc (no, yes))
    one_less_here k out inn High e l t o i f = absurd (let no = (subst (λ z. IsFound table range kept spent.state.level (spent.state.nodes k) (entry_at es k).file z) e f).1 in let yes = t.is in cc (no, yes))
    one_less_here k out inn (Valued r) e l t o i f =
        let found = subst (λ z. IsFound table range kept spent.state.level (spent.state.nodes k) z (Valued r)) t.is (subst (λ z. IsFound table range kept spent.state.level (spent.state.nodes k) (entry_at es k).file z) e f) in
        let free = difference_is_free table range (spent.state.nodes k) r.mix t.chosen found.0.relaxation.value.is_mix found.1.1 in
        let one = (spent.state.below k l).is_node in (
          free-out table.files (spent.state.nodes k) t.chosen one free.0 free.1 ∙ ap (λ z. free_files table.files z + 1) (sym t.out_is),
          free-in table.files (spent.state.nodes k) t.chosen one free.0 free.1 ∙ ap (λ z. free_files table.files z + 1) (sym t.in_is),
          o,
          i,
        )

    one_less : (tree : SearchTree) → ((j : ℕ) → 0 < times j tree → j < length es) → IsTreeOf (entry_at es) spent.state.nodes tree → OneLess table.files spent.state.nodes tree
    one_less (Childless k) inside_ t = tt
    one_less (Parent k out inn) inside_ t =
        let here : k < length es = inside_ k (omega (arith, at_same k k refl)) in
        one_less_here k out inn (entry_at es k).finding refl here t.0 (one_less out (λ j p. inside_ j (omega (arith, p))) t.1) (one_less inn (λ j p. inside_ j (omega (arith, p))) t.2) (spent.state.found k here)

    -- so one branching more is left
    room : budget + 1 < 2 ^ free_files table.files (search_root table.files pins)
    room =
        let state = spent.state in
        let r = open_at.relaxation in
        let known = found_here.0 in
        let mix = known.relaxation.value.is_mix in
        let ne = differ table range kept (state.nodes spent.first.number) spent.first r known (open_at.worth, open_at.weight) spent.goes_on in
        let d = exists_difference r.mix.first r.mix.second (mix.first_files ∙ sym mix.second_files) ne in
        let free = difference_is_free table range (state.nodes spent.first.number) r.mix d.0 mix d.1 in
        let once : times spent.first.number state.tree ≡ 1 = (state.once spent.first.number).0 inside in
        let leaf = leaves_all spent.first.number (entry_at es) state.nodes state.tree open_at.bare state.tree_of in
        let some : 0 < leaves spent.first.number state.tree = omega (arith, once, leaf) in
        let top_is : state.nodes (top state.tree) ≡ search_root table.files pins = ap state.nodes state.begins ∙ state.root_is in
        let left = one_left table.files state.nodes spent.first.number state.tree (one_less state.tree (within table range (search_root table.files pins) kept branchings es (spent.first ∷ spent.rest) state) state.tree_of) some
        (some_free table.files (state.nodes spent.first.number) d.0 free.0 free.1) in
        let at_root : parents state.tree + 2 ≤ 2 ^ free_files table.files (search_root table.files pins) = subst (λ z. parents state.tree + 2 ≤ 2 ^ free_files table.files z) top_is left in
        omega (arith, at_root, state.made, spent.made)

    agrees : (plan : Option Kept) → GoesOn plan spent.first → Agrees (answer_of plan (Spent whole)) (option_map claim_of plan) (Some whole)
    agrees None on = tt
    agrees (Some k) on = lt_of_mul-lt-mul_right spent.first.weight (omega (arith, on, spent.ceiling.near))

    spent_made : (lines : List NodeLine) → EachLine table es spent.state.nodes (visits None (entry_at es) spent.state.tree) lines → Made (Some whole) None (IsOpen table range whole) (spent.first ∷ spent.rest) spent.state lines
    spent_made lines visited = made (Some whole) None (IsOpen table range whole) (spent.first ∷ spent.rest) spent.state suits lines visited

    pub spent_fitting : (lines : List NodeLine) → EachLine table es spent.state.nodes (visits None (entry_at es) spent.state.tree) lines → IsFitting lines
    unfolding Made
    spent_fitting lines visited = let m = spent_made lines visited in record { tree = m.made; is = m.lines_are; fits = m.fits }

    pub spent_searched : (lines : List NodeLine) → EachLine table es spent.state.nodes (visits None (entry_at es) spent.state.tree) lines
        → IsSearched table range pins budget (heading_of range pins kept (Spent whole)) lines
    unfolding Made tree_of
    spent_searched lines visited =
        let cs = spent.first ∷ spent.rest in
        let m = spent_made lines visited in
        let once : times spent.first.number spent.state.tree ≡ 1 = (spent.state.once spent.first.number).0 inside in
        searched (Some whole) None (IsOpen table range whole) cs spent.state (Spent whole) lines refl (agrees kept spent.goes_on) m (
          record {
            all = m.all refl ∙ spent.state.made ∙ spent.made;
            one_more = m.opens spent.first.number refl (omega (arith, once)) open_at.bare is_open;
            no_better = m.shows;
          },
          room,
        )
        (counted (Some whole) None (IsOpen table range whole) cs spent.state lines m)
