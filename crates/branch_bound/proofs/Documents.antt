-- The lines of a search are those of a document.
use Rattle.std.proofs.Common.{◌≡◌, ℕ, suc, true, false, Option, Some, None, List, [], ◌∷◌, ◌++◌, length, map, inl, inr, refl, sym, ◌∙◌, ap, subst, append_assoc, arith}
use Rattle.std.specs.Prelude.{option_and_then}
use Rattle.std.specs.List.{flat_map, AllByRecursion}
use Rattle.seed_model.specs.declared.range.Range.{Range}
use Rattle.bound_cert.specs.declared.heading.Answer.{Answer}
use Rattle.bound_cert.specs.declared.heading.Claimed.{Claimed}
use Rattle.bound_cert.specs.declared.heading.Pins.{Pins}
use Rattle.bound_cert.specs.declared.heading.Heading.{Heading}
use Rattle.bound_cert.specs.declared.multipliers.Give.{Give as GiveValue}
use Rattle.bound_cert.specs.declared.multipliers.Multipliers.{Multipliers}
use Rattle.bound_cert.specs.declared.node_line.NodeLine.{NodeLine}
use Rattle.bound_cert.specs.declared.node_line.NodeLine.TheVariants as line
use Rattle.bound_cert.specs.declared.place.Place.{Place}
use Rattle.bound_cert.specs.declared.place.Place.TheVariants.{AtTitle, AtNode, AtGive}
use Rattle.bound_cert.specs.Documents.{give_entry, node_entries, heading_entries, IsDocument}
use Rattle.bound_cert.specs.Grammar.{is_above, at_gives, after, after_all}
use Rattle.bound_cert.specs.Lines.{Entry, Branch, Leaf, End, IsLine, Low as LowEntry, High as HighEntry}
use Rattle.bound_cert.specs.Trees.{Tree, Tip, Fork, preorder, is_branch}
use Rattle.bound_cert.proofs.Placing.{not_zero, at_node, at_branch, give_after}
use Rattle.hull_bound.specs.Forms.{IsBefore, AreRising, AreInForm}

-- a line of a node fits a document
pub LineFits : NodeLine → Type 0
LineFits (line.Branch file first second alpha beta) = IsLine (Branch file first second alpha beta)
LineFits line.Low = Unit {0}
LineFits line.High = Unit {0}
LineFits (line.Leaf m) = AreInForm m

-- the lines of a tree do, and those of its branchings are branches
pub TreeFits : Tree → Type 0
TreeFits (Tip line) = (is_branch line ≡ false) × LineFits line
TreeFits (Fork line out inn) = (is_branch line ≡ true) × LineFits line × TreeFits out × TreeFits inn

pub low_fits : LineFits line.Low
unfolding LineFits
low_fits = tt

pub high_fits : LineFits line.High
unfolding LineFits
high_fits = tt

pub leaf_fits : (m : Multipliers) → AreInForm m → LineFits (line.Leaf m)
unfolding LineFits
leaf_fits m h = h

pub branch_fits : (file : ℕ) (first second : List ℕ) (alpha beta : ℕ) → IsLine (Branch file first second alpha beta) → LineFits (line.Branch file first second alpha beta)
unfolding LineFits
branch_fits file first second alpha beta h = h

pub tip_fits : (written : NodeLine) → is_branch written ≡ false → LineFits written → TreeFits (Tip written)
unfolding TreeFits
tip_fits written e h = (e, h)

pub fork_fits : (written : NodeLine) (out inn : Tree) → is_branch written ≡ true → LineFits written → TreeFits out → TreeFits inn → TreeFits (Fork written out inn)
unfolding TreeFits
fork_fits written out inn e h o i = (e, h, o, i)

all_append : (xs ys : List Entry) → AllByRecursion IsLine xs → AllByRecursion IsLine ys → AllByRecursion IsLine (xs ++ ys)
all_append [] ys a b = b
all_append (x ∷ xs) ys a b = (a.0, all_append xs ys a.1 b)

flat_append : (xs ys : List NodeLine) → flat_map node_entries (xs ++ ys) ≡ flat_map node_entries xs ++ flat_map node_entries ys
flat_append [] ys = refl
flat_append (x ∷ xs) ys = ap (λ z. node_entries x ++ z) (flat_append xs ys) ∙ sym (append_assoc (node_entries x) (flat_map node_entries xs) (flat_map node_entries ys))

line_lawful : (written : NodeLine) → LineFits written → AllByRecursion IsLine (node_entries written)
unfolding LineFits
line_lawful (line.Branch file first second alpha beta) h = (h, tt)
line_lawful line.Low h = (tt, tt)
line_lawful line.High h = (tt, tt)
line_lawful (line.Leaf m) h = h.lines

-- the lines of a tree are lawful
pub tree_lawful : (tree : Tree) → TreeFits tree → AllByRecursion IsLine (flat_map node_entries (preorder tree))
unfolding TreeFits
tree_lawful (Tip written) h = all_append (node_entries written) [] (line_lawful written h.1) tt
tree_lawful (Fork written out inn) h =
    all_append (node_entries written) (flat_map node_entries (preorder out ++ preorder inn)) (line_lawful written h.1)
    (subst (AllByRecursion IsLine) (sym (flat_append (preorder out) (preorder inn)))
    (all_append (flat_map node_entries (preorder out)) (flat_map node_entries (preorder inn)) (tree_lawful out h.2) (tree_lawful inn h.3)))

-- one step of the places
step : (place next : Place) (e : Entry) (es : List Entry) → after place e ≡ Some next → after_all place (e ∷ es) ≡ after_all next es
step place next e es h = ap (option_and_then (λ p. after_all p es)) h

above : (g h : GiveValue) → IsBefore g h → is_above h.class h.file (Some (g.class, g.file)) ≡ true
above g h (inl less) = grind (arith, less)
above g h (inr same) = let class_is = same.0 in let file_is = same.1 in grind (arith, class_is, file_is)

Follows : Option (ℕ × ℕ) → List GiveValue → Type 0
Follows last [] = Unit {0}
Follows last (g ∷ gs) = is_above g.class g.file last ≡ true

follows : (g : GiveValue) (gs : List GiveValue) → AllByRecursion (IsBefore g) gs → Follows (Some (g.class, g.file)) gs
unfolding Follows
follows g [] h = tt
follows g (x ∷ xs) h = above g x h.0

gives_placed : (n : ℕ) (last : Option (ℕ × ℕ)) (gs : List GiveValue) (es : List Entry) → Follows last gs → AreRising gs → after_all (at_gives n (length gs) last) (map give_entry gs ++ es) ≡ after_all (AtNode n) es
unfolding Follows
gives_placed n last [] es f r = refl
gives_placed n last (g ∷ gs) es f r =
    let place : at_gives n (suc (length gs)) last ≡ AtGive n (suc (length gs)) last = rw (not_zero (length gs)) refl in
    ap (λ z. after_all z (give_entry g ∷ (map give_entry gs ++ es))) place
    ∙ step (AtGive n (suc (length gs)) last) (at_gives n (length gs) (Some (g.class, g.file))) (give_entry g) (map give_entry gs ++ es) (give_after n (length gs) last g.class g.file g.charge g.reward f)
    ∙ gives_placed n (Some (g.class, g.file)) gs es (follows g gs r.0) r.1

first_follows : (gs : List GiveValue) → Follows None gs
unfolding Follows
first_follows [] = tt
first_follows (g ∷ gs) = refl

-- the lines of a tree stand where one node is to be read
pub tree_placed : (n : ℕ) (tree : Tree) (es : List Entry) → TreeFits tree → after_all (AtNode (suc n)) (flat_map node_entries (preorder tree) ++ es) ≡ after_all (AtNode n) es
unfolding TreeFits LineFits
tree_placed n (Tip (line.Branch file first second alpha beta)) es h = absurd (let e = h.0 in cc e)
tree_placed n (Tip line.Low) es h = step (AtNode (suc n)) (AtNode n) LowEntry es (at_node n LowEntry)
tree_placed n (Tip line.High) es h = step (AtNode (suc n)) (AtNode n) HighEntry es (at_node n HighEntry)
tree_placed n (Tip (line.Leaf m)) es h =
    ap (λ z. after_all (AtNode (suc n)) (Leaf m.p m.q (length m.gives) ∷ z)) (append_assoc (map give_entry m.gives) [] es)
    ∙ step (AtNode (suc n)) (at_gives n (length m.gives) None) (Leaf m.p m.q (length m.gives)) (map give_entry m.gives ++ es) (at_node n (Leaf m.p m.q (length m.gives)))
    ∙ gives_placed n None m.gives es (first_follows m.gives) h.1.rising
tree_placed n (Fork (line.Branch file first second alpha beta) out inn) es h =
    step (AtNode (suc n)) (AtNode (suc (suc n))) (Branch file first second alpha beta) (flat_map node_entries (preorder out ++ preorder inn) ++ es) (at_branch n file first second alpha beta)
    ∙ ap (λ z. after_all (AtNode (suc (suc n))) (z ++ es)) (flat_append (preorder out) (preorder inn))
    ∙ ap (after_all (AtNode (suc (suc n)))) (append_assoc (flat_map node_entries (preorder out)) (flat_map node_entries (preorder inn)) es)
    ∙ tree_placed (suc n) out (flat_map node_entries (preorder inn) ++ es) h.2
    ∙ tree_placed n inn es h.3
tree_placed n (Fork line.Low out inn) es h = absurd (let e = h.0 in cc e)
tree_placed n (Fork line.High out inn) es h = absurd (let e = h.0 in cc e)
tree_placed n (Fork (line.Leaf m) out inn) es h = absurd (let e = h.0 in cc e)

-- behind a heading one node is to be read
heading_placed : (range : Range) (pins : Option Pins) (answer : Answer) (plan : Option Claimed) (bound : Option ℕ) (es : List Entry)
    → after_all AtTitle (heading_entries (record { range = range; pins = pins; answer = answer; plan = plan; bound = bound }) ++ es) ≡ after_all (AtNode 1) es
heading_placed range None answer None None es = refl
heading_placed range None answer None (Some b) es = refl
heading_placed range None answer (Some p) None es = refl
heading_placed range None answer (Some p) (Some b) es = refl
heading_placed range (Some s) answer None None es = refl
heading_placed range (Some s) answer None (Some b) es = refl
heading_placed range (Some s) answer (Some p) None es = refl
heading_placed range (Some s) answer (Some p) (Some b) es = refl

-- a heading with lawful lines and the lines of such a tree are a document
pub is_document : (h : Heading) (tree : Tree) → AllByRecursion IsLine (heading_entries h) → TreeFits tree → IsDocument h (preorder tree)
is_document h tree lawful fits = record {
  lawful = all_append (heading_entries h) (flat_map node_entries (preorder tree) ++ End ∷ []) lawful (all_append (flat_map node_entries (preorder tree)) (End ∷ []) (tree_lawful tree fits) (tt, tt));
  placed = heading_placed h.range h.pins h.answer h.plan h.bound (flat_map node_entries (preorder tree) ++ End ∷ []) ∙ tree_placed 0 tree (End ∷ []) fits;
}
