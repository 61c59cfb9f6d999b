-- A walk along the links.
use Rattle.std.proofs.Common.{◌≡◌, ℕ, zero, suc, ◌+◌, ◌-◌, ◌<◌, ◌≤◌, Bool, true, false, cond, Option, Some, None, List, [], ◌∷◌, ◌++◌, length, drop, length-append, eqb, ltb, refl, sym, ◌∙◌, ap, subst, append_assoc, arith}
use Rattle.std.specs.Prelude.{All}
use Rattle.std.proofs.lemmas.Bool.{ne_eqb, lt-ltb}
use Rattle.std.proofs.lemmas.List.{append-nil}
use Rattle.std.proofs.lemmas.List.Elements.{All-head, All-tail, All-append}
use Rattle.branch_bound.specs.declared.entry.Entry.{Entry}
use Rattle.branch_bound.specs.declared.visits.Visit.{Visit}
use Rattle.branch_bound.specs.Entries.{entry_at}
use Rattle.branch_bound.specs.SearchTrees.{SearchTree, Childless, Parent, top, numbers, LeadsThrough}
use Rattle.branch_bound.specs.Visits.{IsShapeOf, IsOrdered, visit_of, visits, visits_of_all, skipped}
use Rattle.branch_bound.specs.Cuts.{is_cut}

not_zero : (n : ℕ) → eqb (suc n) 0 ≡ false
not_zero n = ne_eqb (suc n) 0 (λ e. omega (arith, e))

-- where trees begin, one behind the other
pub first_of : List SearchTree → Option ℕ
first_of [] = None
first_of (tree ∷ trees) = Some (top tree)

-- links lead through trees, one behind the other, each of the shape of its entries
pub Chained : (ℕ → Entry) → List SearchTree → Type 0
Chained at [] = Unit {0}
Chained at (tree ∷ trees) = IsShapeOf at tree × LeadsThrough (λ k. (at k).next) tree (first_of trees) × Chained at trees

pub all_numbers : List SearchTree → List ℕ
all_numbers [] = []
all_numbers (tree ∷ trees) = numbers tree ++ all_numbers trees

-- what is still to be walked, and what of it is left out
pub record Walks (es : List Entry) (bytes : Option ℕ) (tree : SearchTree) (at : Option ℕ) (skip : ℕ) (counter : ℕ) (order : List Visit) : Type 0 where
  pub trees : List SearchTree
  pub begins : at ≡ first_of trees
  pub chained : Chained (entry_at es) trees
  pub within : skip ≤ length trees
  pub order_is : order ++ visits_of_all bytes (entry_at es) (drop skip trees) ≡ visits bytes (entry_at es) tree
  pub left : length (all_numbers trees) + counter ≡ length es
  pub below : All (λ k. k < length es) (all_numbers trees)

module _ (es : List Entry) (bytes : Option ℕ) (tree : SearchTree) where
  pub walk_begins : IsOrdered es tree → Walks es bytes tree (Some 0) 0 0 []
  unfolding first_of Chained all_numbers
  walk_begins o = record {
    trees = tree ∷ [];
    begins = ap (λ z. Some z) (sym o.begins);
    chained = (o.shape, o.linked, tt);
    within = omega arith;
    order_is = append-nil (visits bytes (entry_at es) tree);
    left = omega (arith, length-append (numbers tree) [], o.count);
    below = All-append (λ k. k < length es) (numbers tree) [] o.below (λ k d l. absurd (omega (arith, l)));
  }

  -- a tree has a number
  some_number : (t : SearchTree) → 0 < length (numbers t)
  some_number (Childless k) = omega arith
  some_number (Parent k o i) = omega arith

  -- while numbers are left the walk stands at one
  pub not_past : (trees : List SearchTree) (counter : ℕ) → None ≡ first_of trees → length (all_numbers trees) + counter ≡ length es → counter < length es → ⊥
  unfolding first_of all_numbers
  not_past [] counter e l c = omega (arith, l, c)
  not_past (t ∷ ts) counter e l c = cc e

  top_below : (t : SearchTree) (ts : List SearchTree) → All (λ k. k < length es) (all_numbers (t ∷ ts)) → top t < length es
  unfolding all_numbers
  top_below (Childless k) ts a = All-head (λ j. j < length es) k (all_numbers ts) a
  top_below (Parent k o i) ts a = All-head (λ j. j < length es) k ((numbers o ++ numbers i) ++ all_numbers ts) a

  pub number_below : (number : ℕ) (trees : List SearchTree) → Some number ≡ first_of trees → All (λ k. k < length es) (all_numbers trees) → number < length es
  unfolding first_of
  number_below number [] e a = absurd (cc e)
  number_below number (t ∷ ts) e a = let same : number ≡ top t = cc e in omega (arith, same, top_below t ts a)

  each_some : (trees : List SearchTree) → length trees ≤ length (all_numbers trees)
  unfolding all_numbers
  each_some [] = omega arith
  each_some (t ∷ ts) = omega (arith, some_number t, each_some ts, length-append (numbers t) (all_numbers ts))

  -- no more trees are left out than there are entries
  pub walk_short : (at : Option ℕ) (skip counter : ℕ) (order : List Visit) → Walks es bytes tree at skip counter order → skip ≤ length es
  walk_short at skip counter order w = omega (arith, w.within, w.left, each_some w.trees)

  -- what the walk is at behind a number
  Behind : SearchTree → ℕ → ℕ → List Visit → Type 0
  Behind t skip counter order = Walks es bytes tree (entry_at es (top t)).next skip (counter + 1) order

  -- behind a number without children
  childless : (k : ℕ) (ts : List SearchTree) (skip counter : ℕ) (order : List Visit) → Chained (entry_at es) (Childless k ∷ ts) → skip ≤ length ts
      → order ++ visits_of_all bytes (entry_at es) (drop skip ts) ≡ visits bytes (entry_at es) tree → length (all_numbers (Childless k ∷ ts)) + counter ≡ length es
      → All (λ j. j < length es) (all_numbers (Childless k ∷ ts)) → Behind (Childless k) skip counter order
  unfolding Behind Chained all_numbers
  childless k ts skip counter order c w o l b = record {
    trees = ts;
    begins = c.1;
    chained = c.2;
    within = w;
    order_is = o;
    left = omega (arith, l);
    below = All-tail (λ j. j < length es) k (all_numbers ts) b;
  }

  -- behind one with children
  parent : (k : ℕ) (out inn : SearchTree) (ts : List SearchTree) (skip counter : ℕ) (order : List Visit) → Chained (entry_at es) (Parent k out inn ∷ ts) → skip ≤ length ts + 2
      → order ++ visits_of_all bytes (entry_at es) (drop skip (out ∷ inn ∷ ts)) ≡ visits bytes (entry_at es) tree → length (all_numbers (Parent k out inn ∷ ts)) + counter ≡ length es
      → All (λ j. j < length es) (all_numbers (Parent k out inn ∷ ts)) → Behind (Parent k out inn) skip counter order
  unfolding Behind Chained all_numbers first_of
  parent k out inn ts skip counter order c w o l b =
      let rest = all_numbers ts in
      let turned : (numbers out ++ numbers inn) ++ rest ≡ numbers out ++ (numbers inn ++ rest) = append_assoc (numbers out) (numbers inn) rest in
      let long : length ((numbers out ++ numbers inn) ++ rest) ≡ length (numbers out ++ (numbers inn ++ rest)) = ap (λ (z : List ℕ). length z) turned in
      record {
        trees = out ∷ inn ∷ ts;
        begins = c.1.0;
        chained = (c.0.1, c.1.1, (c.0.2, c.1.2, c.2));
        within = omega (arith, w);
        order_is = o;
        left = omega (arith, l, long);
        below = subst (λ z. All (λ j. j < length es) z) turned (All-tail (λ j. j < length es) k ((numbers out ++ numbers inn) ++ rest) b);
      }

  -- what is written where nothing is left out
  abbrev pub written : ℕ → List Visit → Visit → List Visit
  written skip order visit = cond (eqb skip 0) (order ++ (visit ∷ [])) order

  skip_one : (s : ℕ) → suc s - 1 ≡ s
  skip_one s = omega arith

  skip_two : (s : ℕ) (cut : Bool) → skipped (suc s) cut true ≡ suc (suc s)
  skip_two s cut = let some : ltb 0 (suc s) ≡ true = lt-ltb 0 (suc s) (omega arith) in rw some (omega arith)

  turn_childless : (k : ℕ) (ts : List SearchTree) (skip counter : ℕ) (order : List Visit) → Chained (entry_at es) (Childless k ∷ ts) → skip ≤ length ts + 1
      → order ++ visits_of_all bytes (entry_at es) (drop skip (Childless k ∷ ts)) ≡ visits bytes (entry_at es) tree → length (all_numbers (Childless k ∷ ts)) + counter ≡ length es
      → All (λ j. j < length es) (all_numbers (Childless k ∷ ts)) → Behind (Childless k) (skip - 1) counter (written skip order (visit_of bytes (entry_at es) k))
  turn_childless k ts zero counter order c w o l b =
      childless k ts 0 counter (order ++ (visit_of bytes (entry_at es) k ∷ [])) c (omega arith) (append_assoc order (visit_of bytes (entry_at es) k ∷ []) (visits_of_all bytes (entry_at es) ts) ∙ o) l b
  turn_childless k ts (suc s) counter order c w o l b =
      subst (λ z. Behind (Childless k) z counter (cond (eqb (suc s) 0) (order ++ (visit_of bytes (entry_at es) k ∷ [])) order)) (sym (skip_one s))
      (subst (λ z. Behind (Childless k) s counter (cond z (order ++ (visit_of bytes (entry_at es) k ∷ [])) order)) (sym (not_zero s))
      (childless k ts s counter order c (omega (arith, w)) o l b))

  cut_visits : (k : ℕ) (out inn : SearchTree) (cut : Bool) → cut ≡ is_cut bytes (entry_at es k).finding
      → visits bytes (entry_at es) (Parent k out inn) ≡ visit_of bytes (entry_at es) k ∷ cond cut [] (visits bytes (entry_at es) out ++ visits bytes (entry_at es) inn)
  cut_visits k out inn cut e = ap (λ z. visit_of bytes (entry_at es) k ∷ cond z [] (visits bytes (entry_at es) out ++ visits bytes (entry_at es) inn)) (sym e)

  turn_parent : (k : ℕ) (out inn : SearchTree) (ts : List SearchTree) (skip counter : ℕ) (order : List Visit) (cut : Bool) → cut ≡ is_cut bytes (entry_at es k).finding → Chained (entry_at es) (Parent k out inn ∷ ts) → skip ≤ length ts + 1
      → order ++ visits_of_all bytes (entry_at es) (drop skip (Parent k out inn ∷ ts)) ≡ visits bytes (entry_at es) tree → length (all_numbers (Parent k out inn ∷ ts)) + counter ≡ length es
      → All (λ j. j < length es) (all_numbers (Parent k out inn ∷ ts)) → Behind (Parent k out inn) (skipped skip cut true) counter (written skip order (visit_of bytes (entry_at es) k))
  turn_parent k out inn ts zero counter order true e c w o l b =
      let v = visit_of bytes (entry_at es) k in
      let is = ap (λ z. order ++ (z ++ visits_of_all bytes (entry_at es) ts)) (cut_visits k out inn true e) in
      parent k out inn ts 2 counter (order ++ (v ∷ [])) c (omega arith) (append_assoc order (v ∷ []) (visits_of_all bytes (entry_at es) ts) ∙ sym is ∙ o) l b
  turn_parent k out inn ts zero counter order false e c w o l b =
      let v = visit_of bytes (entry_at es) k in
      let rest = visits_of_all bytes (entry_at es) ts in
      let is = ap (λ z. order ++ (z ++ rest)) (cut_visits k out inn false e) in
      let turned = append_assoc (visits bytes (entry_at es) out) (visits bytes (entry_at es) inn) rest in
      parent k out inn ts 0 counter (order ++ (v ∷ [])) c (omega arith)
      (append_assoc order (v ∷ []) (visits bytes (entry_at es) out ++ (visits bytes (entry_at es) inn ++ rest)) ∙ ap (λ z. order ++ (v ∷ z)) (sym turned) ∙ sym is ∙ o) l b
  turn_parent k out inn ts (suc s) counter order cut e c w o l b =
      subst (λ z. Behind (Parent k out inn) z counter (cond (eqb (suc s) 0) (order ++ (visit_of bytes (entry_at es) k ∷ [])) order)) (sym (skip_two s cut))
      (subst (λ z. Behind (Parent k out inn) (suc (suc s)) counter (cond z (order ++ (visit_of bytes (entry_at es) k ∷ [])) order)) (sym (not_zero s))
      (parent k out inn ts (suc (suc s)) counter order c (omega (arith, w)) o l b))

  -- one turn of the walk
  pub turn : (number skip counter : ℕ) (order : List Visit) (cut has_children : Bool) → cut ≡ is_cut bytes (entry_at es number).finding
      → ((entry_at es number).file ≡ None → has_children ≡ false) → (((entry_at es number).file ≡ None → ⊥) → has_children ≡ true)
      → Walks es bytes tree (Some number) skip counter order
      → Walks es bytes tree (entry_at es number).next (skipped skip cut has_children) (counter + 1) (written skip order (record { number = number; cut = cut }))
  unfolding first_of Behind Chained
  turn number skip counter order cut has e bare chosen w = by_trees w.trees w.begins w.chained w.within w.order_is w.left w.below
    where
      by_trees : (trees : List SearchTree) → Some number ≡ first_of trees → Chained (entry_at es) trees → skip ≤ length trees → order ++ visits_of_all bytes (entry_at es) (drop skip trees) ≡ visits bytes (entry_at es) tree
          → length (all_numbers trees) + counter ≡ length es → All (λ j. j < length es) (all_numbers trees)
          → Walks es bytes tree (entry_at es number).next (skipped skip cut has) (counter + 1) (written skip order (record { number = number; cut = cut }))
      by_trees [] b c i o l u = absurd (cc b)
      by_trees (Childless k ∷ ts) b c i o l u =
          let same : number ≡ k = cc b in
          let none : has ≡ false = bare (ap (λ z. (entry_at es z).file) same ∙ c.0) in
          let cut_is : cut ≡ is_cut bytes (entry_at es k).finding = e ∙ ap (λ z. is_cut bytes (entry_at es z).finding) same in
          subst (λ z. Walks es bytes tree (entry_at es number).next (skipped skip cut z) (counter + 1) (written skip order (record { number = number; cut = cut }))) (sym none)
          (subst (λ z. Walks es bytes tree (entry_at es z).next (skip - 1) (counter + 1) (written skip order (record { number = z; cut = cut }))) (sym same)
          (subst (λ z. Walks es bytes tree (entry_at es k).next (skip - 1) (counter + 1) (written skip order (record { number = k; cut = z }))) (sym cut_is)
          (turn_childless k ts skip counter order c (omega (arith, i)) o l u)))
      by_trees (Parent k out inn ∷ ts) b c i o l u =
          let same : number ≡ k = cc b in
          let some : has ≡ true = chosen (subst (λ z. (entry_at es z).file ≡ None → ⊥) (sym same) c.0.0) in
          let cut_is : cut ≡ is_cut bytes (entry_at es k).finding = e ∙ ap (λ z. is_cut bytes (entry_at es z).finding) same in
          subst (λ z. Walks es bytes tree (entry_at es number).next (skipped skip cut z) (counter + 1) (written skip order (record { number = number; cut = cut }))) (sym some)
          (subst (λ z. Walks es bytes tree (entry_at es z).next (skipped skip cut true) (counter + 1) (written skip order (record { number = z; cut = cut }))) (sym same)
          (subst (λ z. Walks es bytes tree (entry_at es k).next (skipped skip cut true) (counter + 1) (written skip order (record { number = k; cut = z }))) (sym cut_is)
          (turn_parent k out inn ts skip counter order cut cut_is c (omega (arith, i)) o l u)))

  -- at the end all is written
  pub walk_ends : (at : Option ℕ) (skip counter : ℕ) (order : List Visit) → length es ≤ counter → Walks es bytes tree at skip counter order → order ≡ visits bytes (entry_at es) tree
  unfolding all_numbers
  walk_ends at skip counter order c w = by_trees w.trees w.order_is w.left
    where
      by_trees : (trees : List SearchTree) → order ++ visits_of_all bytes (entry_at es) (drop skip trees) ≡ visits bytes (entry_at es) tree → length (all_numbers trees) + counter ≡ length es → order ≡ visits bytes (entry_at es) tree
      by_trees [] o l = sym (ap (λ z. order ++ visits_of_all bytes (entry_at es) z) (drop_none skip) ∙ append-nil order) ∙ o
        where
          drop_none : (n : ℕ) → drop {A = SearchTree} n [] ≡ []
          drop_none zero = refl
          drop_none (suc n) = refl
      by_trees (t ∷ ts) o l = absurd (omega (arith, l, c, some_number t, length-append (numbers t) (all_numbers ts)))
