-- The lines of a search make a tree that stands.
use Rattle.std.proofs.Common.{◌≡◌, ℕ, ◌+◌, ◌*◌, ◌<◌, ◌≤◌, Bool, true, false, Option, Some, None, List, ◌∷◌, ◌++◌, length, ◌⊎◌, inl, inr, refl, sym, ◌∙◌, ap, subst, arith, eqb, ltb}
use Rattle.std.specs.Prelude.{IfSome, IsSomeAnd, option_map, MatchBool}
use Rattle.seed_model.specs.declared.node.Node.{Node}
use Rattle.seed_model.specs.declared.node.Mix.{Mix}
use Rattle.seed_model.specs.declared.range.Range.{Range}
use Rattle.seed_model.specs.Differences.{IsFirstDifference}
use Rattle.seed_model.specs.Tables.{TableValue, IsTable}
use Rattle.seed_model.specs.Nodes.{IsMix, HasValue, ReplicatesUpTo, weight_of, mixed_replicated, put_inside, put_outside}
use Rattle.seed_text.specs.SetTexts.{set_text}
use Rattle.seed_text.proofs.SetWordLemmas.{set_word}
use Rattle.bound_cert.specs.declared.multipliers.Multipliers.{Multipliers}
use Rattle.bound_cert.specs.declared.node_line.NodeLine.{NodeLine}
use Rattle.bound_cert.specs.Lines.{IsLine, Branch as BranchLine}
use Rattle.bound_cert.specs.Sets.{IsSetOf, set_named, mix_named}
use Rattle.bound_cert.specs.Spent.{HasNodeValue, StaysBelow, ShowsNoBetter, IsNoBetter}
use Rattle.bound_cert.specs.Trees.{Tree, Tip, Fork, preorder, branchings, ClosesByBound, is_branch, IsDeserved, Stands, EachFork, SomeTip}
use Rattle.bound_cert.proofs.SetsNamed.{texts_name}
use Rattle.hull_bound.specs.Forms.{AreMultipliersAt}
use Rattle.branch_bound.specs.declared.entry.Entry.{Entry}
use Rattle.branch_bound.specs.declared.entry.Kept.{Kept}
use Rattle.branch_bound.specs.declared.entry.Relaxation.{Relaxation}
use Rattle.branch_bound.specs.declared.entry.Finding.{Finding}
use Rattle.branch_bound.specs.declared.entry.Finding.TheVariants.{Low, High, Valued}
use Rattle.branch_bound.specs.Fractions.{Fraction}
use Rattle.branch_bound.specs.SearchTrees.{SearchTree, Childless, Parent, top, parents, is_at, times, IsParent, IsTreeOf}
use Rattle.branch_bound.specs.States.{claim_of, IsKnown, IsFound}
use Rattle.branch_bound.specs.Cuts.{reaches, is_cut}
use Rattle.branch_bound.specs.Written.{IsLeafLine, branch_line, IsLineOf, IsLineAlone, AreLinesOf}
use Rattle.branch_bound.proofs.Bounds.{closes}
use Rattle.branch_bound.proofs.Documents.{LineFits, TreeFits, low_fits, high_fits, leaf_fits, branch_fits, tip_fits, fork_fits}
use Rattle.branch_bound.proofs.Relaxed.{weights}
use Rattle.branch_bound.proofs.Trees.{at_same, at_other, less_true, less_false}
use Rattle.branch_bound.proofs.Values.{difference_is_free}

-- the mix that a branching names is the node's
named_mix : (files : ℕ) (mix : Mix) → length mix.first ≡ files → length mix.second ≡ files → mix_named files (set_text mix.first) (set_text mix.second) mix.alpha mix.beta ≡ mix
named_mix files mix a b =
    let one : set_named files (set_text mix.first) ≡ mix.first = ap (λ z. set_named z (set_text mix.first)) (sym a) ∙ texts_name mix.first in
    let two : set_named files (set_text mix.second) ≡ mix.second = ap (λ z. set_named z (set_text mix.second)) (sym b) ∙ texts_name mix.second in
    ap (λ z. mix_with z (set_named files (set_text mix.second))) one ∙ ap (λ z. mix_with mix.first z) two
  where
    mix_with : List Bool → List Bool → Mix
    mix_with x y = record { first = x; second = y; alpha = mix.alpha; beta = mix.beta }

pub named_set : (files : ℕ) (set : List Bool) → length set ≡ files → set_named files (set_text set) ≡ set
named_set files set a = ap (λ z. set_named z (set_text set)) (sym a) ∙ texts_name set

pub set_of_text : (files : ℕ) (set : List Bool) → length set ≡ files → IsSetOf files (set_text set)
set_of_text files set a = ap set_text (sym (named_set files set a))

module _ (table : TableValue) (range : Range) (kept : Option Kept) (level : Fraction) (bound bytes : Option ℕ) where
  -- a value that a bound leaf of this bound lies below, and one that a branching may have
  abbrev pub IsShort : Relaxation → Type 0
  IsShort r = IsSomeAnd bound (λ z. z * weight_of r.mix < r.worth + weight_of r.mix)

  abbrev pub IsLong : Relaxation → Type 0
  IsLong r = IfSome bound (λ z. r.worth ≤ z * weight_of r.mix)

  -- what is written at an entry suits the bound
  abbrev pub Suits : Bool → Option ℕ → Finding → Type 0
  Suits cut file Low = Unit {0}
  Suits cut file High = Unit {0}
  Suits cut None (Valued r) = IsShort r
  Suits true (Some file) (Valued r) = IsShort r
  Suits false (Some file) (Valued r) = IsLong r

  closed : (b : Option ℕ) (node : Node) (r : Relaxation) (m : Multipliers) → IsKnown table range kept node r → AreMultipliersAt table node r.p r.q m
      → IsSomeAnd b (λ z. z * weight_of r.mix < r.worth + weight_of r.mix) → ClosesByBound table range b node m
  closed None node r m k a s = absurd s
  closed (Some z) node r m k a s = closes table range kept node z r m k a s

  leaf_stands : (node : Node) (r : Relaxation) (written : NodeLine) → IsKnown table range kept node r → IsShort r → IsLeafLine table node r written → Stands table range bound node (Tip written)
  unfolding closed
  leaf_stands node r written k s l =
      subst (λ z. Stands table range bound node (Tip z)) (sym l.is) (refl, closed bound node r l.multipliers k l.at_slope s)

  -- the line of an entry that is written alone
  pub alone_stands : (cut : Bool) (node : Node) (file : Option ℕ) (finding : Finding) (written : NodeLine) → (cut ≡ true) ⊎ (file ≡ None) → IsFound table range kept level node file finding → Suits cut file finding
      → IsLineOf table cut node file finding written → Stands table range bound node (Tip written)
  alone_stands cut node file Low written c f s l = subst (λ z. Stands table range bound node (Tip z)) (sym l) (refl, f.0)
  alone_stands cut node file High written c f s l = subst (λ z. Stands table range bound node (Tip z)) (sym l) (refl, f.0)
  alone_stands cut node None (Valued r) written c f s l = leaf_stands node r written f.0 s l
  alone_stands true node (Some file) (Valued r) written c f s l = leaf_stands node r written f.0 s l
  alone_stands false node (Some file) (Valued r) written (inl e) f s l = absurd (cc e)
  alone_stands false node (Some file) (Valued r) written (inr e) f s l = absurd (cc e)

  alone_fits : (cut : Bool) (node : Node) (file : Option ℕ) (finding : Finding) (written : NodeLine) → (cut ≡ true) ⊎ (file ≡ None) → IsLineOf table cut node file finding written → (is_branch written ≡ false) × LineFits written
  alone_fits cut node file Low written c l = subst (λ z. (is_branch z ≡ false) × LineFits z) (sym l) (refl, low_fits)
  alone_fits cut node file High written c l = subst (λ z. (is_branch z ≡ false) × LineFits z) (sym l) (refl, high_fits)
  alone_fits cut node None (Valued r) written c l = subst (λ z. (is_branch z ≡ false) × LineFits z) (sym l.is) (refl, leaf_fits l.multipliers l.at_slope.form)
  alone_fits true node (Some file) (Valued r) written c l = subst (λ z. (is_branch z ≡ false) × LineFits z) (sym l.is) (refl, leaf_fits l.multipliers l.at_slope.form)
  alone_fits false node (Some file) (Valued r) written (inl e) l = absurd (cc e)
  alone_fits false node (Some file) (Valued r) written (inr e) l = absurd (cc e)

  -- a branching is called for
  deserved : (node : Node) (r : Relaxation) (file : ℕ) → IsKnown table range kept node r → IsFirstDifference r.mix.first r.mix.second file → IsLong r
      → IsDeserved table range bound node file (set_text r.mix.first) (set_text r.mix.second) r.mix.alpha r.mix.beta
  deserved node r file k d long =
      let mix = k.relaxation.value.is_mix in
      let is = named_mix table.files r.mix mix.first_files mix.second_files in
      record {
        first_set = set_of_text table.files r.mix.first mix.first_files;
        second_set = set_of_text table.files r.mix.second mix.second_files;
        free = (difference_is_free table range node r.mix file mix d).1;
        differs = subst (λ z. IsFirstDifference z (set_named table.files (set_text r.mix.second)) file) (sym (named_set table.files r.mix.first mix.first_files))
            (subst (λ z. IsFirstDifference r.mix.first z file) (sym (named_set table.files r.mix.second mix.second_files)) d);
        mix = subst (λ z. IsMix table range node z) (sym is) mix;
        within = subst (λ z. IfSome bound (ReplicatesUpTo table z)) (sym is) (within_bound bound (subst (λ x. IfSome bound (λ z. x ≤ z * weight_of r.mix)) k.worth long));
      }
    where
      within_bound : (b : Option ℕ) → IfSome b (λ z. mixed_replicated table r.mix ≤ z * weight_of r.mix) → IfSome b (ReplicatesUpTo table r.mix)
      within_bound None h = h
      within_bound (Some z) h = h

  valued : (node : Node) (r : Relaxation) (file : ℕ) → IsKnown table range kept node r → HasNodeValue table range node (branch_line r file)
  valued node r file k =
      let mix = k.relaxation.value.is_mix in
      subst (λ z. HasValue table range node z) (sym (named_mix table.files r.mix mix.first_files mix.second_files)) k.relaxation.value

  stays_below : (node : Node) (r : Relaxation) (file z : ℕ) → IsKnown table range kept node r → reaches z r ≡ false → StaysBelow table z node (branch_line r file)
  stays_below node r file z k e =
      let mix = k.relaxation.value.is_mix in
      let low : r.worth + weight_of r.mix ≤ z * weight_of r.mix = grind (arith, e) in
      let less : mixed_replicated table r.mix + weight_of r.mix ≤ z * weight_of r.mix = omega (arith, low, k.worth) in
      subst (λ y. mixed_replicated table y + weight_of y ≤ z * weight_of y) (sym (named_mix table.files r.mix mix.first_files mix.second_files)) less

  no_better : (node : Node) (r : Relaxation) (file : ℕ) → IsKnown table range kept node r → ShowsNoBetter table range (option_map claim_of kept) node (branch_line r file)
  no_better node r file k =
      let mix = k.relaxation.value.is_mix in (
        subst (λ z. IsNoBetter table range (option_map claim_of kept) z) (sym (named_set table.files r.mix.first mix.first_files)) k.first,
        subst (λ z. IsNoBetter table range (option_map claim_of kept) z) (sym (named_set table.files r.mix.second mix.second_files)) k.second,
      )

  module _ (at : ℕ → Entry) (nodes : ℕ → Node) (Opens : Node → Type 0) where
    -- the tree that lines make at a node
    pub record IsBuilt (node : Node) (tree : SearchTree) (lines : List NodeLine) : Type 0 where
      pub made : Tree
      pub lines_are : lines ≡ preorder made
      pub stands : Stands table range bound node made
      pub values : EachFork (HasNodeValue table range) node made
      pub shows : EachFork (ShowsNoBetter table range (option_map claim_of kept)) node made
      pub below : (z : ℕ) → bytes ≡ Some z → EachFork (StaysBelow table z) node made
      pub fits : IsTable table → TreeFits made
      pub few : branchings made ≤ parents tree
      pub all : bytes ≡ None → branchings made ≡ parents tree
      pub opens : (k : ℕ) → bytes ≡ None → 0 < times k tree → (at k).file ≡ None → Opens (nodes k) → SomeTip Opens node made

    only : (k j : ℕ) → 0 < is_at j k → j ≡ k
    only k j p = step (eqb k j) refl
      where
        step : (b : Bool) → b ≡ eqb k j → j ≡ k
        step true e = grind (arith, e)
        step false e = absurd (let none = at_other j k (λ q. grind (arith, e, q)) in omega (arith, none, p))

    -- what is known of the numbers of a tree
    pub record AreWritten (tree : SearchTree) : Type 0 where
      pub found : (j : ℕ) → 0 < times j tree → IsFound table range kept level (nodes j) (at j).file (at j).finding
      pub suits : (j : ℕ) → 0 < times j tree → Suits (is_cut bytes (at j).finding) (at j).file (at j).finding

    below_out : (k : ℕ) (out inn : SearchTree) → AreWritten (Parent k out inn) → AreWritten out
    below_out k out inn w = record { found = λ j p. w.found j (omega (arith, p)); suits = λ j p. w.suits j (omega (arith, p)) }

    below_in : (k : ℕ) (out inn : SearchTree) → AreWritten (Parent k out inn) → AreWritten inn
    below_in k out inn w = record { found = λ j p. w.found j (omega (arith, p)); suits = λ j p. w.suits j (omega (arith, p)) }

    -- a node that is written alone
    alone : (k : ℕ) (tree : SearchTree) (cut : Bool) (lines : List NodeLine) → (cut ≡ true) ⊎ ((at k).file ≡ None) → (bytes ≡ None → (parents tree ≡ 0) × ((j : ℕ) → 0 < times j tree → j ≡ k))
        → IsFound table range kept level (nodes k) (at k).file (at k).finding → Suits cut (at k).file (at k).finding
        → IsLineAlone table cut (nodes k) (at k).file (at k).finding lines → IsBuilt (nodes k) tree lines
    alone k tree cut lines c single f s l = record {
      made = Tip l.0;
      lines_are = l.1;
      stands = alone_stands cut (nodes k) (at k).file (at k).finding l.0 c f s l.2;
      values = tt;
      shows = tt;
      below = λ z e. tt;
      fits = λ lawful. let fit = alone_fits cut (nodes k) (at k).file (at k).finding l.0 c l.2 in tip_fits l.0 fit.0 fit.1;
      few = omega arith;
      all = λ e. sym (single e).0;
      opens = λ j e p bare o. subst (λ z. Opens (nodes z)) ((single e).1 j p) o;
    }

    -- a branching with what lies below it
    branching : (k file : ℕ) (out inn : SearchTree) (r : Relaxation) (written : NodeLine) (lines below_out_lines below_in_lines : List NodeLine) → (at k).file ≡ Some file → (at k).finding ≡ Valued r → is_cut bytes (at k).finding ≡ false
        → IsKnown table range kept (nodes k) r → IsFirstDifference r.mix.first r.mix.second file → IsLong r → written ≡ branch_line r file
        → IsBuilt (put_outside file (nodes k)) out below_out_lines → IsBuilt (put_inside file (nodes k)) inn below_in_lines → lines ≡ written ∷ (below_out_lines ++ below_in_lines) → IsBuilt (nodes k) (Parent k out inn) lines
    branching k file out inn r written lines lo li chosen is uncut known d long w o i e =
        let line_is = branch_line r file in
        record {
          made = Fork line_is o.made i.made;
          lines_are = e ∙ ap (λ z. z ∷ (lo ++ li)) w ∙ ap (λ z. line_is ∷ (z ++ li)) o.lines_are ∙ ap (λ z. line_is ∷ (preorder o.made ++ z)) i.lines_are;
          stands = (refl, deserved (nodes k) r file known d long, o.stands, i.stands);
          values = (valued (nodes k) r file known, o.values, i.values);
          shows = (no_better (nodes k) r file known, o.shows, i.shows);
          below = λ z b. (stays_below (nodes k) r file z known (low z b), o.below z b, i.below z b);
          fits = λ lawful. fork_fits line_is o.made i.made refl (branch_fits file (set_text r.mix.first) (set_text r.mix.second) r.mix.alpha r.mix.beta (line_lawful lawful)) (o.fits lawful) (i.fits lawful);
          few = omega (arith, o.few, i.few);
          all = λ b. omega (arith, o.all b, i.all b);
          opens = λ j b p bare on. leads j p bare on b;
        }
      where
        line_lawful : IsTable table → IsLine (BranchLine file (set_text r.mix.first) (set_text r.mix.second) r.mix.alpha r.mix.beta)
        line_lawful lawful =
            let mix = known.relaxation.value.is_mix in
            let w = weights table range (nodes k) known.multipliers r.mix lawful known.relaxation in
            let free = difference_is_free table range (nodes k) r.mix file mix d in
            (omega (arith, free.0, lawful.files), set_word r.mix.first (omega (arith, mix.first_files, lawful.files)), set_word r.mix.second (omega (arith, mix.second_files, lawful.files)), w.0, w.1)

        low : (z : ℕ) → bytes ≡ Some z → reaches z r ≡ false
        low z b = subst (λ x. is_cut x (Valued r) ≡ false) b (subst (λ x. is_cut bytes x ≡ false) is uncut)

        leads : (j : ℕ) → 0 < times j (Parent k out inn) → (at j).file ≡ None → Opens (nodes j) → bytes ≡ None → SomeTip Opens (put_outside file (nodes k)) o.made ⊎ SomeTip Opens (put_inside file (nodes k)) i.made
        leads j p bare on b = step (ltb 0 (times j out)) refl
          where
            apart : is_at j k ≡ 0
            apart = at_other j k (λ q. let same : (at k).file ≡ (at j).file = ap (λ z. (at z).file) q in cc (same, chosen, bare))

            step : (t : Bool) → t ≡ ltb 0 (times j out) → SomeTip Opens (put_outside file (nodes k)) o.made ⊎ SomeTip Opens (put_inside file (nodes k)) i.made
            step true t = inl (o.opens j b (less_true 0 (times j out) t) bare on)
            step false t = inr (i.opens j b (let none = less_false 0 (times j out) t in omega (arith, none, apart, p)) bare on)

    -- what the lines below a node make
    Below : SearchTree → Type 0
    Below tree = (lines : List NodeLine) → AreLinesOf table bytes at nodes tree lines → IsBuilt (nodes (top tree)) tree lines

    forked : (k : ℕ) (out inn : SearchTree) (lines lo li : List NodeLine) (written : NodeLine) (finding : Finding) → IsParent (at k).file (nodes k) (nodes (top out)) (nodes (top inn)) → (at k).finding ≡ finding → is_cut bytes (at k).finding ≡ false
        → IsFound table range kept level (nodes k) (at k).file (at k).finding → Suits (is_cut bytes (at k).finding) (at k).file (at k).finding → IsLineOf table false (nodes k) (at k).file (at k).finding written
        → lines ≡ written ∷ (lo ++ li) → IsBuilt (nodes (top out)) out lo → IsBuilt (nodes (top inn)) inn li → IsBuilt (nodes k) (Parent k out inn) lines
    forked k out inn lines lo li written Low t is e f s line eq o i = absurd (let no = (subst (λ z. IsFound table range kept level (nodes k) (at k).file z) is f).1 in let yes = t.is in cc (no, yes))
    forked k out inn lines lo li written High t is e f s line eq o i = absurd (let no = (subst (λ z. IsFound table range kept level (nodes k) (at k).file z) is f).1 in let yes = t.is in cc (no, yes))
    forked k out inn lines lo li written (Valued r) t is e f s line eq o i =
        let found = subst (λ z. IsFound table range kept level (nodes k) z (Valued r)) t.is (subst (λ z. IsFound table range kept level (nodes k) (at k).file z) is f) in
        let suits = subst (λ z. Suits false z (Valued r)) t.is (subst (λ z. Suits false (at k).file z) is (subst (λ z. Suits z (at k).file (at k).finding) e s)) in
        let line_is = subst (λ z. IsLineOf table false (nodes k) z (Valued r) written) t.is (subst (λ z. IsLineOf table false (nodes k) (at k).file z written) is line) in
        branching k t.chosen out inn r written lines lo li t.is is e found.0 found.1.1 suits line_is (subst (λ z. IsBuilt z out lo) t.out_is o) (subst (λ z. IsBuilt z inn li) t.in_is i) eq

    with_children : (k : ℕ) (out inn : SearchTree) (lines : List NodeLine) (cut : Bool) → is_cut bytes (at k).finding ≡ cut → IsParent (at k).file (nodes k) (nodes (top out)) (nodes (top inn))
        → IsFound table range kept level (nodes k) (at k).file (at k).finding → Suits (is_cut bytes (at k).finding) (at k).file (at k).finding → Below out → Below inn
        → MatchBool cut (IsLineAlone table true (nodes k) (at k).file (at k).finding lines)
        ((written : NodeLine) × (below_out : List NodeLine) × (below_in : List NodeLine) × (lines ≡ written ∷ (below_out ++ below_in)) × IsLineOf table false (nodes k) (at k).file (at k).finding written
        × AreLinesOf table bytes at nodes out below_out × AreLinesOf table bytes at nodes inn below_in)
        → IsBuilt (nodes k) (Parent k out inn) lines
    unfolding Below
    with_children k out inn lines true e t f s o i m =
        alone k (Parent k out inn) true lines (inl refl) (λ b. absurd (let none : is_cut bytes (at k).finding ≡ false = ap (λ z. is_cut z (at k).finding) b in cc (none, e))) f
        (subst (λ z. Suits z (at k).file (at k).finding) e s) m
    with_children k out inn lines false e t f s o i m = forked k out inn lines m.1 m.2 m.0 (at k).finding t refl e f s m.4 m.3 (o m.1 m.5) (i m.2 m.6)

    -- the lines of a tree make one of a certificate
    pub built : (tree : SearchTree) (lines : List NodeLine) → IsTreeOf at nodes tree → AreWritten tree → AreLinesOf table bytes at nodes tree lines → IsBuilt (nodes (top tree)) tree lines
    unfolding Below
    built (Childless k) lines t w l =
        alone k (Childless k) (is_cut bytes (at k).finding) lines (inr t) (λ e. (refl, only k)) (w.found k (omega (arith, at_same k k refl))) (w.suits k (omega (arith, at_same k k refl))) l
    built (Parent k out inn) lines t w l =
        let here : 0 < times k (Parent k out inn) = omega (arith, at_same k k refl) in
        with_children k out inn lines (is_cut bytes (at k).finding) refl t.0 (w.found k here) (w.suits k here)
        (λ ls h. built out ls t.1 (below_out k out inn w) h) (λ ls h. built inn ls t.2 (below_in k out inn w) h) l
