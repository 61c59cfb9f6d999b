-- The lines of the visited nodes are those of the tree.
use Rattle.std.proofs.Common.{◌≡◌, ℕ, Bool, true, false, cond, Option, List, [], ◌∷◌, ◌++◌, refl, sym, ◌∙◌, ap, subst, append_assoc}
use Rattle.std.specs.Prelude.{MatchBool}
use Rattle.seed_model.specs.declared.node.Node.{Node}
use Rattle.seed_model.specs.Tables.{TableValue}
use Rattle.bound_cert.specs.declared.node_line.NodeLine.{NodeLine}
use Rattle.branch_bound.specs.declared.entry.Entry.{Entry}
use Rattle.branch_bound.specs.declared.visits.Visit.{Visit}
use Rattle.branch_bound.specs.Cuts.{is_cut}
use Rattle.branch_bound.specs.Ended.{EachLine}
use Rattle.branch_bound.specs.Entries.{entry_at}
use Rattle.branch_bound.specs.SearchTrees.{SearchTree, Childless, Parent}
use Rattle.branch_bound.specs.Visits.{visits}
use Rattle.branch_bound.specs.Written.{IsLineOf, IsLineAlone, AreLinesOf}
use Rattle.std.proofs.lemmas.List.{append-nil}

module _ (table : TableValue) (bytes : Option ℕ) (es : List Entry) (nodes : ℕ → Node) where
  -- the lines of a tree, with those of what is visited behind it
  pub record SplitLines (tree : SearchTree) (more : List Visit) (lines : List NodeLine) : Type 0 where
    pub front : List NodeLine
    pub rest : List NodeLine
    pub is : lines ≡ front ++ rest
    pub of_tree : AreLinesOf table bytes (entry_at es) nodes tree front
    pub behind : EachLine table es nodes more rest

  Below : Bool → ℕ → SearchTree → SearchTree → List NodeLine → Type 0
  Below cut k out inn lines =
      MatchBool cut (IsLineAlone table true (nodes k) (entry_at es k).file (entry_at es k).finding lines)
      ((written : NodeLine) × (below_out : List NodeLine) × (below_in : List NodeLine) × (lines ≡ written ∷ (below_out ++ below_in)) × IsLineOf table false (nodes k) (entry_at es k).file (entry_at es k).finding written
      × AreLinesOf table bytes (entry_at es) nodes out below_out × AreLinesOf table bytes (entry_at es) nodes inn below_in)

  Splits : SearchTree → Type 0
  Splits tree = (more : List Visit) (lines : List NodeLine) → EachLine table es nodes (visits bytes (entry_at es) tree ++ more) lines → SplitLines tree more lines

  parent : (k : ℕ) (out inn : SearchTree) (more : List Visit) (l : NodeLine) (ls : List NodeLine) (cut : Bool) → is_cut bytes (entry_at es k).finding ≡ cut → Splits out → Splits inn
      → IsLineOf table (is_cut bytes (entry_at es k).finding) (nodes k) (entry_at es k).file (entry_at es k).finding l
      → EachLine table es nodes (cond (is_cut bytes (entry_at es k).finding) [] (visits bytes (entry_at es) out ++ visits bytes (entry_at es) inn) ++ more) ls → SplitLines (Parent k out inn) more (l ∷ ls)
  unfolding Below Splits
  parent k out inn more l ls true e so si line rest =
      let here : IsLineOf table true (nodes k) (entry_at es k).file (entry_at es k).finding l = subst (λ z. IsLineOf table z (nodes k) (entry_at es k).file (entry_at es k).finding l) e line in
      let alone : Below true k out inn (l ∷ []) = (l, refl, here) in
      record {
        front = l ∷ [];
        rest = ls;
        is = refl;
        of_tree = subst (λ z. Below z k out inn (l ∷ [])) (sym e) alone;
        behind = subst (λ z. EachLine table es nodes (cond z [] (visits bytes (entry_at es) out ++ visits bytes (entry_at es) inn) ++ more) ls) e rest;
      }
  parent k out inn more l ls false e so si line rest =
      let here : IsLineOf table false (nodes k) (entry_at es k).file (entry_at es k).finding l = subst (λ z. IsLineOf table z (nodes k) (entry_at es k).file (entry_at es k).finding l) e line in
      let both = subst (λ z. EachLine table es nodes (cond z [] (visits bytes (entry_at es) out ++ visits bytes (entry_at es) inn) ++ more) ls) e rest in
      let o = so (visits bytes (entry_at es) inn ++ more) ls
      (subst (λ z. EachLine table es nodes z ls) (append_assoc (visits bytes (entry_at es) out) (visits bytes (entry_at es) inn) more) both) in
      let i = si more o.rest o.behind in
      let forked : Below false k out inn (l ∷ (o.front ++ i.front)) = (l, o.front, i.front, refl, here, o.of_tree, i.of_tree) in
      record {
        front = l ∷ (o.front ++ i.front);
        rest = i.rest;
        is = ap (λ z. l ∷ z) (o.is ∙ ap (λ z. o.front ++ z) i.is ∙ sym (append_assoc o.front i.front i.rest));
        of_tree = subst (λ z. Below z k out inn (l ∷ (o.front ++ i.front))) (sym e) forked;
        behind = i.behind;
      }

  pub split_lines : (tree : SearchTree) (more : List Visit) (lines : List NodeLine) → EachLine table es nodes (visits bytes (entry_at es) tree ++ more) lines → SplitLines tree more lines
  unfolding Splits
  split_lines (Childless k) more [] h = absurd h
  split_lines (Childless k) more (l ∷ ls) h = record { front = l ∷ []; rest = ls; is = refl; of_tree = (l, refl, h.0); behind = h.1 }
  split_lines (Parent k out inn) more [] h = absurd h
  split_lines (Parent k out inn) more (l ∷ ls) h =
      parent k out inn more l ls (is_cut bytes (entry_at es k).finding) refl (λ ms xs g. split_lines out ms xs g) (λ ms xs g. split_lines inn ms xs g) h.0 h.1

  -- all of them
  pub lines_of_tree : (tree : SearchTree) (lines : List NodeLine) → EachLine table es nodes (visits bytes (entry_at es) tree) lines → AreLinesOf table bytes (entry_at es) nodes tree lines
  lines_of_tree tree lines h =
      let s = split_lines tree [] lines (subst (λ z. EachLine table es nodes z lines) (sym (append-nil (visits bytes (entry_at es) tree))) h) in
      subst (λ z. AreLinesOf table bytes (entry_at es) nodes tree z) (sym (append-nil s.front) ∙ ap (λ z. s.front ++ z) (sym (none_left s.rest s.behind)) ∙ sym s.is) s.of_tree
    where
      none_left : (rest : List NodeLine) → EachLine table es nodes [] rest → rest ≡ []
      none_left [] h = refl
      none_left (l ∷ ls) h = absurd h
