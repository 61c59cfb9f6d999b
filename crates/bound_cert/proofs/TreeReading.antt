-- The lines of trees, read from the nodes that are waiting.
use Rattle.std.proofs.Common.{◌≡◌, ℕ, false, List, [], ◌∷◌, ◌++◌, Option, refl, sym, ◌∙◌, ap, subst, append_assoc}
use Rattle.std.proofs.lemmas.List.{append-nil}
use Rattle.seed_model.specs.declared.node.Node.{Node}
use Rattle.seed_model.specs.declared.range.Range.{Range}
use Rattle.seed_model.specs.Tables.{TableValue}
use Rattle.seed_model.specs.Nodes.{put_inside, put_outside}
use Rattle.bound_cert.specs.declared.node_line.NodeLine.{NodeLine}
use Rattle.bound_cert.specs.declared.node_line.NodeLine.TheVariants.{Branch, Low, High, Leaf}
use Rattle.bound_cert.specs.Trees.{Tree, Tip, Fork, preorder, Stands, Reads, IsJustified, is_branch}
use Rattle.bound_cert.specs.Laws.{LinesAreTrees}

module _ (table : TableValue) (range : Range) (bound : Option ℕ) where
  -- a tree for each node
  abbrev AllStand : List Node → List Tree → Type 0
  AllStand [] [] = Unit {0}
  AllStand [] (t ∷ ts) = ⊥
  AllStand (n ∷ st) [] = ⊥
  AllStand (n ∷ st) (t ∷ ts) = Stands table range bound n t × AllStand st ts

  abbrev preorders : List Tree → List NodeLine
  preorders [] = []
  preorders (t ∷ ts) = preorder t ++ preorders ts

  record IsForest (st : List Node) (ls : List NodeLine) : Type 0 where
    trees : List Tree
    stand : AllStand st trees
    text : ls ≡ preorders trees

  leaf_forest : (n : Node) (l : NodeLine) (st : List Node) (ls : List NodeLine) → is_branch l ≡ false → IsJustified table range bound n l → IsForest st ls → IsForest (n ∷ st) (l ∷ ls)
  leaf_forest n l st ls tip right f = record { trees = Tip l ∷ f.trees; stand = ((tip, right), f.stand); text = ap (λ xs. l ∷ xs) f.text }

  -- the first two trees become one
  fork_trees : (n : Node) (f : ℕ) (p q : List ℕ) (a b : ℕ) (st : List Node) (ls : List NodeLine) (ts : List Tree) → IsJustified table range bound n (Branch f p q a b)
      → AllStand (put_outside f n ∷ put_inside f n ∷ st) ts → ls ≡ preorders ts → IsForest (n ∷ st) (Branch f p q a b ∷ ls)
  fork_trees n f p q a b st ls [] right s e = absurd s
  fork_trees n f p q a b st ls (t ∷ []) right s e = absurd s.1
  fork_trees n f p q a b st ls (t ∷ u ∷ ts) right s e = record {
    trees = Fork (Branch f p q a b) t u ∷ ts;
    stand = ((refl, right, s.0, s.1.0), s.1.1);
    text = ap (λ xs. Branch f p q a b ∷ xs) (e ∙ sym (append_assoc (preorder t) (preorder u) (preorders ts)));
  }

  reads_trees : (ls : List NodeLine) (st : List Node) → Reads table range bound st ls [] → IsForest st ls
  reads_trees [] [] r = record { trees = []; stand = tt; text = refl }
  reads_trees [] (n ∷ st) r = let e : (n ∷ st) ≡ [] = r in cc
  reads_trees (l ∷ ls) [] r = absurd r
  reads_trees (Branch f p q a b ∷ ls) (n ∷ st) r =
      let g = reads_trees ls (put_outside f n ∷ put_inside f n ∷ st) r.1 in
      fork_trees n f p q a b st ls g.trees r.0 g.stand g.text
  reads_trees (Low ∷ ls) (n ∷ st) r = leaf_forest n Low st ls refl r.0 (reads_trees ls st r.1)
  reads_trees (High ∷ ls) (n ∷ st) r = leaf_forest n High st ls refl r.0 (reads_trees ls st r.1)
  reads_trees (Leaf m ∷ ls) (n ∷ st) r = leaf_forest n (Leaf m) st ls refl r.0 (reads_trees ls st r.1)

  pub trees_read : (t : Tree) (n : Node) (st left : List Node) (ls : List NodeLine) → Stands table range bound n t → Reads table range bound st ls left
      → Reads table range bound (n ∷ st) (preorder t ++ ls) left
  trees_read (Tip (Branch f p q a b)) n st left ls s r = cc (s.0)
  trees_read (Tip Low) n st left ls s r = (s.1, r)
  trees_read (Tip High) n st left ls s r = (s.1, r)
  trees_read (Tip (Leaf m)) n st left ls s r = (s.1, r)
  trees_read (Fork (Branch f p q a b) o i) n st left ls s r =
      let second = trees_read i (put_inside f n) st left ls s.3 r in
      let first = trees_read o (put_outside f n) (put_inside f n ∷ st) left (preorder i ++ ls) s.2 second in
      (s.1, subst (λ xs. Reads table range bound (put_outside f n ∷ put_inside f n ∷ st) xs left) (sym (append_assoc (preorder o) (preorder i) ls)) first)
  trees_read (Fork Low o i) n st left ls s r = cc (s.0)
  trees_read (Fork High o i) n st left ls s r = cc (s.0)
  trees_read (Fork (Leaf m) o i) n st left ls s r = cc (s.0)

  one_tree : (n : Node) (ls : List NodeLine) (ts : List Tree) → AllStand (n ∷ []) ts → ls ≡ preorders ts → (t : Tree) × (ls ≡ preorder t) × Stands table range bound n t
  one_tree n ls [] s e = absurd s
  one_tree n ls (t ∷ []) s e = (t, e ∙ append-nil (preorder t), s.0)
  one_tree n ls (t ∷ u ∷ ts) s e = absurd s.1

  read_one : (n : Node) (ls : List NodeLine) → Reads table range bound (n ∷ []) ls [] → (t : Tree) × (ls ≡ preorder t) × Stands table range bound n t
  read_one n ls r = let f = reads_trees ls (n ∷ []) r in one_tree n ls f.trees f.stand f.text

pub lines_are_trees : LinesAreTrees
lines_are_trees table range bound node lines = (
  read_one table range bound node lines,
  λ h. subst (λ ls. Reads table range bound (node ∷ []) ls []) (sym (h.1 ∙ sym (append-nil (preorder h.0)))) (trees_read table range bound h.0 node [] [] [] h.2 refl),
)
