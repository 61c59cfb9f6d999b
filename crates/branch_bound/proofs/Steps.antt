-- One branching of the waiting node of least value.
use Rattle.std.proofs.Common.{◌≡◌, ◌≢◌, ℕ, ◌+◌, ◌*◌, ◌<◌, ◌≤◌, Bool, true, false, Option, Some, None, List, [], ◌∷◌, length, get_or, inl, inr, refl, sym, ◌∙◌, ap, subst, arith, eqb, ltb}
use Rattle.std.specs.Prelude.{All, IfSome}
use Rattle.std.proofs.lemmas.List.{get_or_past}
use Rattle.std.proofs.lemmas.List.Elements.{All-head, All-tail}
use Rattle.seed_model.specs.declared.node.Node.{Node}
use Rattle.seed_model.specs.declared.range.Range.{Range}
use Rattle.seed_model.specs.Differences.{IsFirstDifference}
use Rattle.seed_model.specs.Tables.{TableValue}
use Rattle.seed_model.specs.Nodes.{IsNode, IsMember, is_free, weight_of, put_inside, put_outside}
use Rattle.branch_bound.specs.declared.candidate.Candidate.{Candidate}
use Rattle.branch_bound.specs.declared.entry.Entry.{Entry}
use Rattle.branch_bound.specs.declared.entry.Kept.{Kept}
use Rattle.branch_bound.specs.declared.entry.Relaxation.{Relaxation}
use Rattle.branch_bound.specs.declared.entry.Finding.{Finding}
use Rattle.branch_bound.specs.declared.entry.Finding.TheVariants.{Low, High, Valued}
use Rattle.branch_bound.specs.Entries.{no_entry, entry_at, root_entry, branched, IsOrigin, node_by}
use Rattle.branch_bound.specs.Fractions.{Fraction, AtMost, value_of_mix}
use Rattle.branch_bound.specs.Orders.{GoesFirst}
use Rattle.branch_bound.specs.SearchTrees.{Childless, parents, is_at, times, StandsOnce, grown}
use Rattle.branch_bound.specs.States.{IsKept, KeepsBetter, IsBelow, IsKnown, IsFound, IsNew, waits, IsCandidateOf, times_in, HoldsWaiting, HaveValues, IsState}
use Rattle.branch_bound.proofs.Trees.{less_true, less_false, same_true, same_false, at_same, at_other, leaves, leaves_all, top-grown, parents-grown, stands_once-grown, Relinks, leads-grown, Branches, tree_of-grown}
use Rattle.branch_bound.proofs.Stores.{length-branched, entry_at-branched, entry_at-branched_other, entry_at-branched_out, entry_at-branched_in, cases_below, origins-branched, nodes_after, nodes_after-below, nodes_after-out, nodes_after-in, nodes-branched}
use Rattle.branch_bound.proofs.Heaps.{times_in-cons, candidate_bare, candidate_inside, Pushed, waiting-branched}
use Rattle.branch_bound.proofs.Values.{at_most_trans, difference_is_free, child_value, out_up, in_up, out_below, in_below, known_later}

-- what waits has at least the value of a candidate
IsAbove : Candidate → Option ℕ → Finding → Type 0
IsAbove c None (Valued r) = c.worth * weight_of r.mix ≤ r.worth * c.weight
IsAbove c None Low = Unit {0}
IsAbove c None High = Unit {0}
IsAbove c (Some file) finding = Unit {0}

above_first : (c d : Candidate) (file : Option ℕ) (finding : Finding) → GoesFirst c d → IsCandidateOf d file finding → IsAbove c file finding
unfolding IsAbove
above_first c d None (Valued r) (inl less) v =
    let w : weight_of r.mix ≡ d.weight = sym v.1 in
    let x : r.worth ≡ d.worth = sym v.0 in
    rw (w, x) (omega (arith, less))
above_first c d None (Valued r) (inr equal) v =
    let w : weight_of r.mix ≡ d.weight = sym v.1 in
    let x : r.worth ≡ d.worth = sym v.0 in
    rw (w, x) (omega (arith, equal.0))
above_first c d None Low g v = tt
above_first c d None High g v = tt
above_first c d (Some f) finding g v = tt

-- a number that stands among candidates has what all of them have
found_step : (P : ℕ → Type 0) (x : Candidate) (xs : List Candidate) (k : ℕ) (b : Bool) → b ≡ eqb x.number k → 0 < times_in k (x ∷ xs) → All (λ (c : Candidate). P c.number) (x ∷ xs) → (0 < times_in k xs → P k) → P k
found_step P x xs k true e p a deeper =
    let same : x.number ≡ k = grind (arith, e) in
    subst P same (All-head (λ (c : Candidate). P c.number) x xs a)
found_step P x xs k false e p a deeper =
    let apart : x.number ≢ k = λ q. grind (arith, e, q) in
    let none : is_at k x.number ≡ 0 = grind (arith, apart) in
    deeper (omega (arith, times_in-cons k x xs, none, p))

pub found_in : (P : ℕ → Type 0) (xs : List Candidate) (k : ℕ) → 0 < times_in k xs → All (λ (c : Candidate). P c.number) xs → P k
found_in P [] k p a = absurd (omega (arith, p))
found_in P (x ∷ xs) k p a = found_step P x xs k (eqb x.number k) refl p a (λ q. found_in P xs k q (All-tail (λ (c : Candidate). P c.number) x xs a))

waiting_above : (es : List Entry) (c : Candidate) (cs : List Candidate) (j : ℕ) → HoldsWaiting es cs → HaveValues es cs → All (GoesFirst c) cs
    → 0 < waits (entry_at es j).file (entry_at es j).finding → IsAbove c (entry_at es j).file (entry_at es j).finding
waiting_above es c cs j holds values first w =
    found_in (λ i. IsAbove c (entry_at es i).file (entry_at es i).finding) cs j (omega (arith, holds j, w))
    (λ i d l. above_first c (get_or cs i d) (entry_at es (get_or cs i d).number).file (entry_at es (get_or cs i d).number).finding (first i d l) (values i d l))

module _ (table : TableValue) (range : Range) (root : Node) (kept now : Option Kept) (better : KeepsBetter kept now) where
  -- a node that is not the one that is branched
  stays : (level v : Fraction) (c : Candidate) (node : Node) (file : Option ℕ) (finding : Finding) → 0 < level.under → AtMost level v → c.worth ≡ v.over → c.weight ≡ v.under
      → (0 < waits file finding → IsAbove c file finding) → IsFound table range kept level node file finding → IsFound table range now v node file finding
  unfolding IsAbove
  stays level v c node file Low p a x y w f = f
  stays level v c node file High p a x y w f = f
  stays level v c node None (Valued r) p a x y w f =
      let above : v.over * weight_of r.mix ≤ r.worth * v.under = subst (λ z. z * weight_of r.mix ≤ r.worth * v.under) x (subst (λ z. c.worth * weight_of r.mix ≤ r.worth * z) y (w (omega arith))) in
      (known_later table range kept now node r better f.0, subst (λ z. v.over * weight_of r.mix ≤ z * v.under) f.0.worth above)
  stays level v c node (Some file) (Valued r) p a x y w f =
      (known_later table range kept now node r better f.0, (at_most_trans (value_of_mix table r.mix) level v p f.1.0 a, f.1.1))

  -- a new one
  new_found : (parent child : Node) (r : Relaxation) (finding : Finding) → ((set : ℕ → Bool) → IsMember table.files child set → IsMember table.files parent set) → IsKnown table range kept parent r
      → IsNew table range now child finding → IsFound table range now (value_of_mix table r.mix) child None finding
  new_found parent child r Low up k i = (i, refl)
  new_found parent child r High up k i = (i, refl)
  new_found parent child r (Valued s) up k i = (i, child_value table range parent kept now child r s up k i)

  module _ (branchings : ℕ) (es : List Entry) (c : Candidate) (rest new : List Candidate) (r : Relaxation) (file : ℕ) (out inn : Finding)
      (state : IsState table range root kept branchings es (c ∷ rest)) (is : (entry_at es c.number).finding ≡ Valued r) (first : All (GoesFirst c) (c ∷ rest)) (differs : IsFirstDifference r.mix.first r.mix.second file)
      (plan : IfSome now (IsKept table range root)) (out_new : IsNew table range now (put_outside file (state.nodes c.number)) out) (in_new : IsNew table range now (put_inside file (state.nodes c.number)) inn) where
    k : ℕ
    k = c.number

    stands : IsCandidateOf c (entry_at es c.number).file (entry_at es c.number).finding
    stands = All-head (λ (d : Candidate). IsCandidateOf d (entry_at es d.number).file (entry_at es d.number).finding) c rest state.values

    bare : (entry_at es c.number).file ≡ None
    bare = candidate_bare c (entry_at es c.number).file (entry_at es c.number).finding stands

    pub inside : c.number < length es
    inside = candidate_inside es c rest state.waiting

    node : Node
    node = state.nodes c.number

    here : IsFound table range kept state.level (state.nodes c.number) None (Valued r)
    here = subst (λ z. IsFound table range kept state.level (state.nodes c.number) None z) is (subst (λ z. IsFound table range kept state.level (state.nodes c.number) z (entry_at es c.number).finding) bare (state.found c.number inside))

    value : Fraction
    value = value_of_mix table r.mix

    -- the candidate has the node's value
    priced : IsCandidateOf c None (Valued r)
    priced = subst (λ z. IsCandidateOf c None z) is (subst (λ z. IsCandidateOf c z (entry_at es c.number).finding) bare stands)

    known : IsKnown table range kept (state.nodes c.number) r
    known = here.0

    pub free : (file < table.files) × (is_free (state.nodes c.number) file ≡ true)
    free = difference_is_free table range (state.nodes c.number) r.mix file known.relaxation.value.is_mix differs

    after : List Entry
    after = branched es c.number file out inn

    nodes : ℕ → Node
    nodes = nodes_after es c.number file out inn inside state.nodes

    -- what the entries have found, each at its node
    found_out : IsFound table range now (value_of_mix table r.mix) (put_outside file (state.nodes c.number)) None out
    found_out = new_found (state.nodes c.number) (put_outside file (state.nodes c.number)) r out (out_up table.files (state.nodes c.number) file (state.below c.number inside).is_node free.0) known out_new

    found_in_ : IsFound table range now (value_of_mix table r.mix) (put_inside file (state.nodes c.number)) None inn
    found_in_ = new_found (state.nodes c.number) (put_inside file (state.nodes c.number)) r inn (in_up table.files (state.nodes c.number) file (state.below c.number inside).is_node free.0) known in_new

    found_old : (j : ℕ) → j < length es → (b : Bool) → b ≡ eqb j c.number
        → IsFound table range now (value_of_mix table r.mix) (state.nodes j) (entry_at after j).file (entry_at after j).finding
    unfolding after
    found_old j l true e =
        let same : j ≡ c.number = same_true j c.number e in
        let refl_value : AtMost (value_of_mix table r.mix) (value_of_mix table r.mix) = omega arith in
        let now_is : IsFound table range now (value_of_mix table r.mix) (state.nodes c.number) (Some file) (Valued r) = (known_later table range kept now (state.nodes c.number) r better known, (refl_value, differs)) in
        let by_finding = subst (λ z. IsFound table range now (value_of_mix table r.mix) (state.nodes c.number) (Some file) z) (sym is) now_is in
        let at_k = subst (λ (z : Entry). IsFound table range now (value_of_mix table r.mix) (state.nodes c.number) z.file z.finding) (sym (entry_at-branched es c.number file out inn inside)) by_finding in
        subst (λ z. IsFound table range now (value_of_mix table r.mix) (state.nodes z) (entry_at (branched es c.number file out inn) z).file (entry_at (branched es c.number file out inn) z).finding) (sym same) at_k
    found_old j l false e =
        let apart : j ≢ c.number = same_false j c.number e in
        let was = stays state.level (value_of_mix table r.mix) c (state.nodes j) (entry_at es j).file (entry_at es j).finding state.level_positive here.1 (priced.0 ∙ known.worth) priced.1
        (waiting_above es c (c ∷ rest) j state.waiting state.values first) (state.found j l) in
        subst (λ (z : Entry). IsFound table range now (value_of_mix table r.mix) (state.nodes j) z.file z.finding) (sym (entry_at-branched_other es c.number file out inn inside j l apart)) was

    found_after : (j : ℕ) → j < length after → IsFound table range now (value_of_mix table r.mix) (nodes j) (entry_at after j).file (entry_at after j).finding
    unfolding after nodes
    found_after j l =
        cases_below es c.number file out inn inside j (IsFound table range now (value_of_mix table r.mix) (nodes j) (entry_at after j).file (entry_at after j).finding)
        (omega (arith, length-branched es c.number file out inn inside, l))
        (λ b. subst (λ z. IsFound table range now (value_of_mix table r.mix) z (entry_at after j).file (entry_at after j).finding) (sym (nodes_after-below es c.number file out inn inside state.nodes j b)) (found_old j b (eqb j c.number) refl))
        (λ e. subst (λ z. IsFound table range now (value_of_mix table r.mix) (nodes z) (entry_at after z).file (entry_at after z).finding) (sym e)
        (subst (λ z. IsFound table range now (value_of_mix table r.mix) z (entry_at after (length es)).file (entry_at after (length es)).finding) (sym (nodes_after-out es c.number file out inn inside state.nodes))
        (subst (λ (z : Entry). IsFound table range now (value_of_mix table r.mix) (put_outside file (state.nodes c.number)) z.file z.finding) (sym (entry_at-branched_out es c.number file out inn inside)) found_out)))
        (λ e. subst (λ z. IsFound table range now (value_of_mix table r.mix) (nodes z) (entry_at after z).file (entry_at after z).finding) (sym e)
        (subst (λ z. IsFound table range now (value_of_mix table r.mix) z (entry_at after (length es + 1)).file (entry_at after (length es + 1)).finding) (sym (nodes_after-in es c.number file out inn inside state.nodes))
        (subst (λ (z : Entry). IsFound table range now (value_of_mix table r.mix) (put_inside file (state.nodes c.number)) z.file z.finding) (sym (entry_at-branched_in es c.number file out inn inside)) found_in_)))

    below_after : (j : ℕ) → j < length after → IsBelow table.files root (nodes j)
    unfolding after nodes
    below_after j l =
        cases_below es c.number file out inn inside j (IsBelow table.files root (nodes j)) (omega (arith, length-branched es c.number file out inn inside, l))
        (λ b. subst (λ z. IsBelow table.files root z) (sym (nodes_after-below es c.number file out inn inside state.nodes j b)) (state.below j b))
        (λ e. subst (λ z. IsBelow table.files root (nodes z)) (sym e)
        (subst (λ z. IsBelow table.files root z) (sym (nodes_after-out es c.number file out inn inside state.nodes)) (out_below table.files root (state.nodes c.number) file free.0 free.1 (state.below c.number inside))))
        (λ e. subst (λ z. IsBelow table.files root (nodes z)) (sym e)
        (subst (λ z. IsBelow table.files root z) (sym (nodes_after-in es c.number file out inn inside state.nodes)) (in_below table.files root (state.nodes c.number) file free.0 free.1 (state.below c.number inside))))

    -- the numbers of the tree are those of entries
    within : (j : ℕ) → 0 < times j state.tree → j < length es
    within j p = step (ltb j (length es)) refl
      where
        step : (b : Bool) → b ≡ ltb j (length es) → j < length es
        step true e = less_true j (length es) e
        step false e = absurd (let none = (state.once j).1 (less_false j (length es) e) in omega (arith, none, p))

    one_leaf : leaves c.number state.tree ≡ 1
    one_leaf = sym (leaves_all c.number (entry_at es) state.nodes state.tree bare state.tree_of) ∙ (state.once c.number).0 inside

    branches : Branches (entry_at es) (entry_at after) state.nodes nodes c.number (length es) file
    unfolding after nodes
    branches = record {
      chosen = ap (λ (z : Entry). z.file) (entry_at-branched es c.number file out inn inside);
      out_bare = ap (λ (z : Entry). z.file) (entry_at-branched_out es c.number file out inn inside);
      in_bare = ap (λ (z : Entry). z.file) (entry_at-branched_in es c.number file out inn inside);
      here = nodes_after-below es c.number file out inn inside state.nodes c.number inside;
      out_node = nodes_after-out es c.number file out inn inside state.nodes;
      in_node = nodes_after-in es c.number file out inn inside state.nodes;
    }

    relinks : Relinks (λ j. (entry_at es j).next) (λ j. (entry_at after j).next) c.number (length es)
    unfolding after
    relinks = record {
      first = ap (λ (z : Entry). z.next) (entry_at-branched es c.number file out inn inside);
      second = ap (λ (z : Entry). z.next) (entry_at-branched_out es c.number file out inn inside);
      third = ap (λ (z : Entry). z.next) (entry_at-branched_in es c.number file out inn inside);
    }

    pub state_branched : Pushed es c.number file out inn inside rest new → HaveValues (branched es c.number file out inn) new
        → IsState table range root now (branchings + 1) (branched es c.number file out inn) new
    unfolding after nodes
    state_branched pushed values =
        let long = length-branched es c.number file out inn inside in
        let n : ℕ = length es in
        let made : parents (grown c.number (length es) state.tree) ≡ branchings + 1 = omega (arith, parents-grown c.number (length es) state.tree, one_leaf, state.made) in
        record {
          tree = grown c.number (length es) state.tree;
          nodes = nodes;
          level = value_of_mix table r.mix;
          begins = top-grown c.number (length es) state.tree ∙ state.begins;
          once = subst (λ z. StandsOnce z (grown c.number (length es) state.tree)) (sym long) (stands_once-grown c.number (length es) state.tree one_leaf state.once);
          count = omega (arith, long, state.count);
          made = made;
          tree_of = tree_of-grown (entry_at es) (entry_at after) state.nodes nodes c.number (length es) file state.tree bare branches
              (λ j p e. ap (λ (z : Entry). z.file) (entry_at-branched_other es c.number file out inn inside j (within j p) e))
              (λ j p. nodes_after-below es c.number file out inn inside state.nodes j (within j p)) state.tree_of;
          linked = leads-grown (λ j. (entry_at es j).next) (λ j. (entry_at after j).next) c.number (length es) (entry_at es) state.nodes state.tree None bare state.tree_of relinks
              (λ j p e. ap (λ (z : Entry). z.next) (entry_at-branched_other es c.number file out inn inside j (within j p) e)) state.linked;
          origins = origins-branched es c.number file out inn inside table.files free.0 state.origins;
          are_nodes = nodes-branched es c.number file out inn inside table.files root state.nodes state.origins state.are_nodes;
          root_is = nodes_after-below es c.number file out inn inside state.nodes 0 (omega (arith, inside)) ∙ state.root_is;
          below = below_after;
          level_positive = known.relaxation.value.is_mix.weighed;
          found = found_after;
          plan = plan;
          waiting = waiting-branched es c.number file out inn inside c rest refl state.waiting stands new pushed;
          values = values;
        }

-- the search begins with the root alone
start_times : (j : ℕ) → (j < 1 → times j (Childless 0) ≡ 1) × (1 ≤ j → times j (Childless 0) ≡ 0)
start_times j = (λ l. at_same j 0 (omega (arith, l)), λ l. at_other j 0 (λ e. omega (arith, e, l)))

only_zero : (P : ℕ → Type 0) → P 0 → (k : ℕ) → k < 1 → P k
only_zero P p k l = let is : k ≡ 0 = omega (arith, l) in subst P (sym is) p

begins_found : (table : TableValue) (range : Range) (kept : Option Kept) (root : Node) (finding : Finding) → IsNew table range kept root finding → IsFound table range kept (record { over = 0; under = 1 }) root None finding
begins_found table range kept root Low i = (i, refl)
begins_found table range kept root High i = (i, refl)
begins_found table range kept root (Valued r) i = (i, omega arith)

begins_waiting : (finding : Finding) (cs : List Candidate) → ((k : ℕ) → times_in k cs ≡ waits None finding * is_at k 0) → HoldsWaiting (root_entry finding ∷ []) cs
begins_waiting finding cs times k = step (eqb k 0) refl
  where
    step : (b : Bool) → b ≡ eqb k 0 → times_in k cs ≡ waits (entry_at (root_entry finding ∷ []) k).file (entry_at (root_entry finding ∷ []) k).finding
    step true e =
        let is : k ≡ 0 = grind (arith, e) in
        let one = at_same k 0 (sym is) in
        (rw one at (times k)) ∙ omega arith ∙ ap (λ z. waits (entry_at (root_entry finding ∷ []) z).file (entry_at (root_entry finding ∷ []) z).finding) (sym is)
    step false e =
        let none = at_other k 0 (λ q. grind (arith, e, q)) in
        let past = get_or_past (root_entry finding ∷ []) k no_entry (grind (arith, e)) in
        (rw none at (times k)) ∙ omega arith ∙ ap (λ (z : Entry). waits z.file z.finding) (sym past)

-- the search begins with its root alone
pub state_begins : (table : TableValue) (range : Range) (root : Node) (kept : Option Kept) (finding : Finding) (cs : List Candidate) → IsNode table.files root → IsNew table range kept root finding → IfSome kept (IsKept table range root)
    → ((k : ℕ) → times_in k cs ≡ waits None finding * is_at k 0) → HaveValues (root_entry finding ∷ []) cs → IsState table range root kept 0 (root_entry finding ∷ []) cs
state_begins table range root kept finding cs one new plan times values = record {
  tree = Childless 0;
  nodes = λ _. root;
  level = record { over = 0; under = 1 };
  begins = refl;
  once = start_times;
  count = refl;
  made = refl;
  tree_of = refl;
  linked = refl;
  origins = only_zero (λ k. IsOrigin table.files k (entry_at (root_entry finding ∷ []) k).origin) tt;
  are_nodes = only_zero (λ k. root ≡ node_by root (λ _. root) (entry_at (root_entry finding ∷ []) k).origin) refl;
  root_is = refl;
  below = λ k l. record { is_node = one; members = λ set m. m };
  level_positive = omega arith;
  found = only_zero (λ k. IsFound table range kept (record { over = 0; under = 1 }) root (entry_at (root_entry finding ∷ []) k).file (entry_at (root_entry finding ∷ []) k).finding) (begins_found table range kept root finding new);
  plan = plan;
  waiting = begins_waiting finding cs times;
  values = values;
}
