-- A tree has fewer branchings than its root has sets of free files.
use Rattle.std.proofs.Common.{◌≡◌, ◌≢◌, ℕ, zero, suc, ◌+◌, ◌-◌, ◌^◌, ◌<◌, ◌≤◌, ◌&&◌, not, Bool, true, false, cond, eqb, ltb, set, get_or-set_same, get_or-set_other, refl, sym, ◌∙◌, ap, subst, arith}
use Rattle.std.proofs.Math.Nat.{two-pow-succ}
use Rattle.seed_model.specs.declared.node.Node.{Node}
use Rattle.seed_model.specs.Files.{holds}
use Rattle.seed_model.specs.Keys.{sum_below}
use Rattle.seed_model.specs.Nodes.{IsNode, is_free, put_inside, put_outside}
use Rattle.branch_bound.specs.Outcomes.{free_files}
use Rattle.branch_bound.specs.SearchTrees.{SearchTree, Childless, Parent, top, parents, is_at}
use Rattle.branch_bound.proofs.Trees.{at_other, leaves}

-- sums that agree up to a place
same_below : (F G : ℕ → ℕ) (f m : ℕ) → m ≤ f → ((g : ℕ) → g ≢ f → F g ≡ G g) → sum_below F m ≡ sum_below G m
same_below F G f zero h there = refl
same_below F G f (suc m) h there = omega (arith, same_below F G f m (omega (arith, h)) there, there m (λ e. omega (arith, h, e)))

one_step : (F G : ℕ → ℕ) (f n : ℕ) (b : Bool) → b ≡ eqb n f → f < suc n → F f ≡ G f + 1 → ((g : ℕ) → g ≢ f → F g ≡ G g) → (f < n → sum_below F n ≡ sum_below G n + 1) → sum_below F (suc n) ≡ sum_below G (suc n) + 1
one_step F G f n true e l here there deeper =
    let is : n ≡ f = grind (arith, e) in
    let at_n : F n ≡ G n + 1 = subst (λ z. F z ≡ G z + 1) (sym is) here in
    omega (arith, same_below F G f n (omega (arith, is)) there, at_n)
one_step F G f n false e l here there deeper =
    let apart : n ≢ f = λ q. grind (arith, e, q) in
    omega (arith, deeper (omega (arith, l, apart)), there n apart)

-- a sum from which one is taken at one place
one_less : (F G : ℕ → ℕ) (f n : ℕ) → f < n → F f ≡ G f + 1 → ((g : ℕ) → g ≢ f → F g ≡ G g) → sum_below F n ≡ sum_below G n + 1
one_less F G f zero l here there = absurd (omega (arith, l))
one_less F G f (suc n) l here there = one_step F G f n (eqb n f) refl l here there (λ k. one_less F G f n k here there)

module _ (files : ℕ) (node : Node) (file : ℕ) (one : IsNode files node) (inside : file < files) (free : is_free node file ≡ true) where
  out_here : is_free (put_outside file node) file ≡ false
  out_here =
      let put : holds (set node.outside file true) file ≡ true = get_or-set_same node.outside file true false (omega (arith, one.outside, inside)) in
      rw put (no_and (not (holds node.inside file)))
    where
      no_and : (b : Bool) → (b && false) ≡ false
      no_and true = refl
      no_and false = refl

  out_there : (g : ℕ) → g ≢ file → is_free (put_outside file node) g ≡ is_free node g
  out_there g e = let other : holds (set node.outside file true) g ≡ holds node.outside g = get_or-set_other node.outside file g true false e in rw other refl

  in_here : is_free (put_inside file node) file ≡ false
  in_here = let put : holds (set node.inside file true) file ≡ true = get_or-set_same node.inside file true false (omega (arith, one.inside, inside)) in rw put refl

  in_there : (g : ℕ) → g ≢ file → is_free (put_inside file node) g ≡ is_free node g
  in_there g e = let other : holds (set node.inside file true) g ≡ holds node.inside g = get_or-set_other node.inside file g true false e in rw other refl

  pub free-out : free_files files node ≡ free_files files (put_outside file node) + 1
  free-out =
      one_less (λ g. cond (is_free node g) 1 0) (λ g. cond (is_free (put_outside file node) g) 1 0) file files inside
      (ap (λ b. cond b 1 0) free ∙ ap (λ b. cond b 1 0 + 1) (sym out_here)) (λ g e. ap (λ b. cond b 1 0) (sym (out_there g e)))

  pub free-in : free_files files node ≡ free_files files (put_inside file node) + 1
  free-in =
      one_less (λ g. cond (is_free node g) 1 0) (λ g. cond (is_free (put_inside file node) g) 1 0) file files inside
      (ap (λ b. cond b 1 0) free ∙ ap (λ b. cond b 1 0 + 1) (sym in_here)) (λ g e. ap (λ b. cond b 1 0) (sym (in_there g e)))

-- the children of a tree's parents have one free file less
abbrev pub OneLess : ℕ → (ℕ → Node) → SearchTree → Type 0
OneLess files nodes (Childless k) = Unit {0}
OneLess files nodes (Parent k out inn) =
    (free_files files (nodes k) ≡ free_files files (nodes (top out)) + 1) × (free_files files (nodes k) ≡ free_files files (nodes (top inn)) + 1) × OneLess files nodes out × OneLess files nodes inn

module _ (files : ℕ) (nodes : ℕ → Node) where
  power : (a b : ℕ) → a ≡ b + 1 → 2 ^ a ≡ 2 ^ b + 2 ^ b
  power a b e = let is : a ≡ suc b = omega (arith, e) in ap (λ z. 2 ^ z) is ∙ omega (arith, two-pow-succ b)

  some_power : (a : ℕ) → 1 ≤ 2 ^ a
  some_power zero = omega arith
  some_power (suc a) = omega (arith, two-pow-succ a, some_power a)

  pub parents_few : (tree : SearchTree) → OneLess files nodes tree → parents tree + 1 ≤ 2 ^ free_files files (nodes (top tree))
  parents_few (Childless k) h = omega (arith, some_power (free_files files (nodes k)))
  parents_few (Parent k out inn) h =
      let one = power (free_files files (nodes k)) (free_files files (nodes (top out))) h.0 in
      let same : free_files files (nodes (top inn)) ≡ free_files files (nodes (top out)) = omega (arith, h.0, h.1) in
      let both : 2 ^ free_files files (nodes (top inn)) ≡ 2 ^ free_files files (nodes (top out)) = ap (λ z. 2 ^ z) same in
      omega (arith, one, both, parents_few out h.2, parents_few inn h.3)

  two_sets : (a : ℕ) → 1 ≤ a → 2 ≤ 2 ^ a
  two_sets a h = let halves = power a (a - 1) (omega (arith, h)) in omega (arith, halves, some_power (a - 1))

  left_here : (j k : ℕ) (b : Bool) → b ≡ eqb k j → 0 < is_at j k → 1 ≤ free_files files (nodes j) → 2 ≤ 2 ^ free_files files (nodes k)
  left_here j k true e p f =
      let is : k ≡ j = grind (arith, e) in
      two_sets (free_files files (nodes k)) (subst (λ z. 1 ≤ free_files files (nodes z)) (sym is) f)
  left_here j k false e p f = absurd (let none = at_other j k (λ q. grind (arith, e, q)) in omega (arith, none, p))

  left_below : (j k : ℕ) (out inn : SearchTree) (b : Bool) → b ≡ ltb 0 (leaves j out) → OneLess files nodes (Parent k out inn) → 0 < leaves j out + leaves j inn
      → (0 < leaves j out → parents out + 2 ≤ 2 ^ free_files files (nodes (top out))) → (0 < leaves j inn → parents inn + 2 ≤ 2 ^ free_files files (nodes (top inn)))
      → parents out + parents inn + 1 + 2 ≤ 2 ^ free_files files (nodes k)
  left_below j k out inn b e h p o i =
      let same : free_files files (nodes (top inn)) ≡ free_files files (nodes (top out)) = omega (arith, h.0, h.1) in
      let both : 2 ^ free_files files (nodes (top inn)) ≡ 2 ^ free_files files (nodes (top out)) = ap (λ z. 2 ^ z) same in
      let halves : 2 ^ free_files files (nodes k) ≡ 2 ^ free_files files (nodes (top out)) + 2 ^ free_files files (nodes (top inn)) =
      omega (arith, power (free_files files (nodes k)) (free_files files (nodes (top out))) h.0, both) in
      step b e halves
    where
      step : (t : Bool) → t ≡ ltb 0 (leaves j out) → 2 ^ free_files files (nodes k) ≡ 2 ^ free_files files (nodes (top out)) + 2 ^ free_files files (nodes (top inn)) → parents out + parents inn + 1 + 2 ≤ 2 ^ free_files files (nodes k)
      step true q halves = omega (arith, halves, o (grind (arith, q)), parents_few inn h.3)
      step false q halves = omega (arith, halves, parents_few out h.2, i (let none : leaves j out ≡ 0 = grind (arith, q) in omega (arith, none, p)))

  -- while a node without children has a free file, one branching more is left
  pub one_left : (j : ℕ) (tree : SearchTree) → OneLess files nodes tree → 0 < leaves j tree → 1 ≤ free_files files (nodes j) → parents tree + 2 ≤ 2 ^ free_files files (nodes (top tree))
  unfolding leaves
  one_left j (Childless k) h p f = left_here j k (eqb k j) refl p f
  one_left j (Parent k out inn) h p f = left_below j k out inn (ltb 0 (leaves j out)) refl h p (λ q. one_left j out h.2 q f) (λ q. one_left j inn h.3 q f)

free_step : (node : Node) (file n : ℕ) (b : Bool) → b ≡ eqb n file → file < suc n → is_free node file ≡ true → (file < n → 1 ≤ sum_below (λ g. cond (is_free node g) 1 0) n) → 1 ≤ sum_below (λ g. cond (is_free node g) 1 0) n + cond (is_free node n) 1 0
free_step node file n true q h e deeper =
    let is : n ≡ file = grind (arith, q) in
    let one : ◌≡◌ {A = ℕ} (cond (is_free node n) 1 0) 1 = ap (λ z. cond (is_free node z) 1 0) is ∙ ap (λ b. cond b 1 0) e in
    omega (arith, one)
free_step node file n false q h e deeper =
    let apart : n ≢ file = λ x. grind (arith, q, x) in
    omega (arith, deeper (omega (arith, h, apart)))

-- a free file is one
pub some_free : (files : ℕ) (node : Node) (file : ℕ) → file < files → is_free node file ≡ true → 1 ≤ free_files files node
some_free zero node file l e = absurd (omega (arith, l))
some_free (suc n) node file l e = free_step node file n (eqb n file) refl l e (λ k. some_free n node file k e)
