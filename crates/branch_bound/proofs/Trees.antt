-- A node of a tree gets two children.
use Rattle.std.proofs.Common.{◌≡◌, ◌≢◌, ℕ, ◌+◌, ◌*◌, ◌<◌, ◌≤◌, Bool, true, false, cond, Option, Some, None, length, length-append, refl, sym, ◌∙◌, ap, subst, arith, eqb, ltb}
use Rattle.seed_model.specs.declared.node.Node.{Node}
use Rattle.seed_model.specs.Nodes.{put_inside, put_outside}
use Rattle.branch_bound.specs.declared.entry.Entry.{Entry}
use Rattle.branch_bound.specs.SearchTrees.{SearchTree, Childless, Parent, top, numbers, parents, is_at, times, StandsOnce, grown, LeadsThrough, IsParent, IsTreeOf}

-- what tests on numbers say
pub less_true : (a b : ℕ) → true ≡ ltb a b → a < b
less_true a b e = grind (arith, e)

pub less_false : (a b : ℕ) → false ≡ ltb a b → b ≤ a
less_false a b e = grind (arith, e)

pub same_true : (a b : ℕ) → true ≡ eqb a b → a ≡ b
same_true a b e = grind (arith, e)

pub same_false : (a b : ℕ) → false ≡ eqb a b → a ≢ b
same_false a b e q = grind (arith, e, q)

pub at_same : (k x : ℕ) → x ≡ k → is_at k x ≡ 1
at_same k x e = grind (arith, e)

pub at_other : (k x : ℕ) → x ≢ k → is_at k x ≡ 0
at_other k x e = grind (arith, e)

-- a tree has twice as many numbers as parents, and one more
pub numbers_count : (tree : SearchTree) → length (numbers tree) ≡ 2 * parents tree + 1
numbers_count (Childless x) = refl
numbers_count (Parent x out inn) = omega (arith, length-append (numbers out) (numbers inn), numbers_count out, numbers_count inn)

-- how often a number stands at a node without children
unfoldable pub leaves : ℕ → SearchTree → ℕ
leaves k (Childless x) = is_at k x
leaves k (Parent x out inn) = leaves k out + leaves k inn

-- the same tree, but for the one node
top_cases : (k n x : ℕ) (b : Bool) → top (cond b (Parent x (Childless n) (Childless (n + 1))) (Childless x)) ≡ x
top_cases k n x true = refl
top_cases k n x false = refl

pub top-grown : (k n : ℕ) (tree : SearchTree) → top (grown k n tree) ≡ top tree
top-grown k n (Childless x) = top_cases k n x (eqb x k)
top-grown k n (Parent x out inn) = refl

times_cases : (j k n x : ℕ) (b : Bool) → b ≡ eqb x k
    → times j (cond b (Parent x (Childless n) (Childless (n + 1))) (Childless x)) ≡ is_at j x + is_at k x * (is_at j n + is_at j (n + 1))
times_cases j k n x true e = let one = at_same k x (grind (arith, e)) in rw one (omega arith)
times_cases j k n x false e = let none = at_other k x (λ q. grind (arith, e, q)) in rw none (omega arith)

pub times-grown : (j k n : ℕ) (tree : SearchTree) → times j (grown k n tree) ≡ times j tree + leaves k tree * (is_at j n + is_at j (n + 1))
unfolding leaves
times-grown j k n (Childless x) = times_cases j k n x (eqb x k) refl
times-grown j k n (Parent x out inn) = omega (arith, times-grown j k n out, times-grown j k n inn)

parents_cases : (k n x : ℕ) (b : Bool) → b ≡ eqb x k → parents (cond b (Parent x (Childless n) (Childless (n + 1))) (Childless x)) ≡ is_at k x
parents_cases k n x true e = sym (at_same k x (grind (arith, e)))
parents_cases k n x false e = sym (at_other k x (λ q. grind (arith, e, q)))

pub parents-grown : (k n : ℕ) (tree : SearchTree) → parents (grown k n tree) ≡ parents tree + leaves k tree
unfolding leaves
parents-grown k n (Childless x) = parents_cases k n x (eqb x k) refl ∙ omega arith
parents-grown k n (Parent x out inn) = omega (arith, parents-grown k n out, parents-grown k n inn)

-- a node without a file has no children
no_parent : (k x : ℕ) (at : ℕ → Entry) (node out inn : Node) → (at k).file ≡ None → IsParent (at x).file node out inn → is_at k x ≡ 0
no_parent k x at node out inn none parent = at_other k x (λ e. let same : (at x).file ≡ (at k).file = ap (λ z. (at z).file) e in let is = parent.is in cc (same, none, is))

pub leaves_all : (k : ℕ) (at : ℕ → Entry) (nodes : ℕ → Node) (tree : SearchTree) → (at k).file ≡ None → IsTreeOf at nodes tree → times k tree ≡ leaves k tree
unfolding leaves
leaves_all k at nodes (Childless x) none t = refl
leaves_all k at nodes (Parent x out inn) none t =
    omega (arith, no_parent k x at (nodes x) (nodes (top out)) (nodes (top inn)) none t.0, leaves_all k at nodes out none t.1, leaves_all k at nodes inn none t.2)

-- the numbers of the two new nodes
pub stands_once-grown : (k n : ℕ) (tree : SearchTree) → leaves k tree ≡ 1 → StandsOnce n tree → StandsOnce (n + 2) (grown k n tree)
stands_once-grown k n tree one once j =
    let sum : times j (grown k n tree) ≡ times j tree + (is_at j n + is_at j (n + 1)) = times-grown j k n tree ∙ rw one (omega arith) in
    once_step j n (is_at j n) (is_at j (n + 1)) (times j tree) (times j (grown k n tree)) refl refl sum (once j)
  where
    once_step : (j n a b t u : ℕ) → a ≡ is_at j n → b ≡ is_at j (n + 1) → u ≡ t + (a + b) → (j < n → t ≡ 1) × (n ≤ j → t ≡ 0) → (j < n + 2 → u ≡ 1) × (n + 2 ≤ j → u ≡ 0)
    once_step j n a b t u e d s h = (λ l. grind (arith, e, d, s, h.0, h.1, l), λ l. grind (arith, e, d, s, h.0, h.1, l))

-- what changes of the links where a node gets children
pub record Relinks (before after : ℕ → Option ℕ) (k n : ℕ) : Type 0 where
  pub first : after k ≡ Some n
  pub second : after n ≡ Some (n + 1)
  pub third : after (n + 1) ≡ before k

links_cases : (before after : ℕ → Option ℕ) (k n x : ℕ) (behind : Option ℕ) (b : Bool) → b ≡ eqb x k → Relinks before after k n → (x ≢ k → after x ≡ before x) → before x ≡ behind
    → LeadsThrough after (cond b (Parent x (Childless n) (Childless (n + 1))) (Childless x)) behind
links_cases before after k n x behind true e r stay l =
    let is : x ≡ k = grind (arith, e) in
    (ap after is ∙ r.first, r.second, r.third ∙ ap before (sym is) ∙ l)
links_cases before after k n x behind false e r stay l = stay (λ q. grind (arith, e, q)) ∙ l

pub leads-grown : (before after : ℕ → Option ℕ) (k n : ℕ) (at : ℕ → Entry) (nodes : ℕ → Node) (tree : SearchTree) (behind : Option ℕ) → (at k).file ≡ None → IsTreeOf at nodes tree
    → Relinks before after k n → ((j : ℕ) → 0 < times j tree → j ≢ k → after j ≡ before j)
    → LeadsThrough before tree behind → LeadsThrough after (grown k n tree) behind
leads-grown before after k n at nodes (Childless x) behind none t r stay l =
    links_cases before after k n x behind (eqb x k) refl r (λ q. stay x (omega (arith, at_same x x refl)) q) l
leads-grown before after k n at nodes (Parent x out inn) behind none t r stay l =
    let one = at_same x x refl in
    let apart : x ≢ k = λ e. let no = no_parent k x at (nodes x) (nodes (top out)) (nodes (top inn)) none t.0 in omega (arith, no, at_same k x e) in
    let here : after x ≡ Some (top (grown k n out)) = stay x (omega (arith, one)) apart ∙ l.0 ∙ ap (λ z. Some z) (sym (top-grown k n out)) in
    let left = leads-grown before after k n at nodes out (Some (top inn)) none t.1 r (λ j p. stay j (omega (arith, p))) l.1 in
    let right = leads-grown before after k n at nodes inn behind none t.2 r (λ j p. stay j (omega (arith, p))) l.2 in
    (here, subst (λ z. LeadsThrough after (grown k n out) (Some z)) (sym (top-grown k n inn)) left, right)

-- what changes of the entries and their nodes
pub record Branches (before after : ℕ → Entry) (old new : ℕ → Node) (k n file : ℕ) : Type 0 where
  pub chosen : (after k).file ≡ Some file
  pub out_bare : (after n).file ≡ None
  pub in_bare : (after (n + 1)).file ≡ None
  pub here : new k ≡ old k
  pub out_node : new n ≡ put_outside file (old k)
  pub in_node : new (n + 1) ≡ put_inside file (old k)

tree_cases : (before after : ℕ → Entry) (old new : ℕ → Node) (k n file x : ℕ) (b : Bool) → b ≡ eqb x k → Branches before after old new k n file → (x ≢ k → (after x).file ≡ (before x).file) → (before x).file ≡ None
    → IsTreeOf after new (cond b (Parent x (Childless n) (Childless (n + 1))) (Childless x))
tree_cases before after old new k n file x true e b stay l =
    let is : x ≡ k = grind (arith, e) in
    let same : new x ≡ old k = ap new is ∙ b.here in (
      record {
        chosen = file;
        is = ap (λ z. (after z).file) is ∙ b.chosen;
        out_is = b.out_node ∙ ap (λ z. put_outside file z) (sym same);
        in_is = b.in_node ∙ ap (λ z. put_inside file z) (sym same);
      },
      b.out_bare,
      b.in_bare,
    )
tree_cases before after old new k n file x false e b stay l = stay (λ q. grind (arith, e, q)) ∙ l

parent_stays : (file other : Option ℕ) (node out inn node2 out2 inn2 : Node) → other ≡ file → node2 ≡ node → out2 ≡ out → inn2 ≡ inn → IsParent file node out inn → IsParent other node2 out2 inn2
parent_stays file other node out inn node2 out2 inn2 e n o i p = record {
  chosen = p.chosen;
  is = e ∙ p.is;
  out_is = o ∙ p.out_is ∙ ap (λ z. put_outside p.chosen z) (sym n);
  in_is = i ∙ p.in_is ∙ ap (λ z. put_inside p.chosen z) (sym n);
}

-- the top of a tree stands in it
pub top_stands : (tree : SearchTree) → 0 < times (top tree) tree
top_stands (Childless x) = omega (arith, at_same x x refl)
top_stands (Parent x out inn) = omega (arith, at_same x x refl)

pub tree_of-grown : (before after : ℕ → Entry) (old new : ℕ → Node) (k n file : ℕ) (tree : SearchTree) → (before k).file ≡ None → Branches before after old new k n file
    → ((j : ℕ) → 0 < times j tree → j ≢ k → (after j).file ≡ (before j).file) → ((j : ℕ) → 0 < times j tree → new j ≡ old j)
    → IsTreeOf before old tree → IsTreeOf after new (grown k n tree)
tree_of-grown before after old new k n file (Childless x) none b stay same t =
    tree_cases before after old new k n file x (eqb x k) refl b (λ q. stay x (omega (arith, at_same x x refl)) q) t
tree_of-grown before after old new k n file (Parent x out inn) none b stay same t =
    let one = at_same x x refl in
    let apart : x ≢ k = λ e. let no = no_parent k x before (old x) (old (top out)) (old (top inn)) none t.0 in omega (arith, no, at_same k x e) in
    let out_top : new (top (grown k n out)) ≡ old (top out) = ap new (top-grown k n out) ∙ same (top out) (omega (arith, top_stands out)) in
    let in_top : new (top (grown k n inn)) ≡ old (top inn) = ap new (top-grown k n inn) ∙ same (top inn) (omega (arith, top_stands inn)) in (
      parent_stays (before x).file (after x).file (old x) (old (top out)) (old (top inn)) (new x) (new (top (grown k n out))) (new (top (grown k n inn)))
          (stay x (omega (arith, one)) apart) (same x (omega (arith, one))) out_top in_top t.0,
      tree_of-grown before after old new k n file out none b (λ j p. stay j (omega (arith, p))) (λ j p. same j (omega (arith, p))) t.1,
      tree_of-grown before after old new k n file inn none b (λ j p. stay j (omega (arith, p))) (λ j p. same j (omega (arith, p))) t.2,
    )
