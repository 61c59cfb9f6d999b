-- The entries once a node is branched.
use Rattle.std.proofs.Common.{◌≡◌, ◌≢◌, ℕ, ◌+◌, ◌-◌, ◌<◌, ◌≤◌, Bool, true, false, cond, Option, Some, None, List, [], ◌∷◌, length, set, get_or, length-append, length-set, get_or-set_same, get_or-set_other, refl, sym, ◌∙◌, ap, subst, arith, eqb}
use Rattle.std.proofs.lemmas.List.{get_or_append_left, get_or-append_right, get_or_past}
use Rattle.seed_model.specs.declared.node.Node.{Node}
use Rattle.seed_model.specs.Nodes.{put_inside, put_outside}
use Rattle.branch_bound.specs.declared.entry.Entry.{Entry}
use Rattle.branch_bound.specs.declared.entry.Origin.{Origin}
use Rattle.branch_bound.specs.declared.entry.Finding.{Finding}
use Rattle.branch_bound.specs.Entries.{no_entry, entry_at, child_entry, branched_entry, branched, IsOrigin, AreOrigins, child_node, node_by, AreNodes}

module _ (es : List Entry) (k file : ℕ) (out inn : Finding) (inside : k < length es) where
  n : ℕ
  n = length es

  changed : List Entry
  changed = set es k (branched_entry (entry_at es k) file (length es))

  made : List Entry
  made = child_entry k file false out (Some (length es + 1)) ∷ child_entry k file true inn (entry_at es k).next ∷ []

  changed_length : length changed ≡ length es
  unfolding changed
  changed_length = length-set es k (branched_entry (entry_at es k) file (length es))

  pub length-branched : length (branched es k file out inn) ≡ length es + 2
  unfolding changed made
  length-branched = omega (arith, length-append changed made, changed_length)

  pub entry_at-branched : entry_at (branched es k file out inn) k ≡ branched_entry (entry_at es k) file (length es)
  unfolding changed made
  entry_at-branched =
      get_or_append_left changed made no_entry k (omega (arith, changed_length, inside))
      ∙ get_or-set_same es k (branched_entry (entry_at es k) file (length es)) no_entry inside

  pub entry_at-branched_other : (j : ℕ) → j < length es → j ≢ k → entry_at (branched es k file out inn) j ≡ entry_at es j
  unfolding changed made
  entry_at-branched_other j l e =
      get_or_append_left changed made no_entry j (omega (arith, changed_length, l))
      ∙ get_or-set_other es k j (branched_entry (entry_at es k) file (length es)) no_entry e

  pub entry_at-branched_out : entry_at (branched es k file out inn) (length es) ≡ child_entry k file false out (Some (length es + 1))
  unfolding changed made
  entry_at-branched_out =
      let zero_is : length es - length es ≡ 0 = omega arith in
      get_or-append_right changed made (length es) (length es) no_entry changed_length (omega arith) ∙ ap (λ z. get_or made z no_entry) zero_is

  pub entry_at-branched_in : entry_at (branched es k file out inn) (length es + 1) ≡ child_entry k file true inn (entry_at es k).next
  unfolding changed made
  entry_at-branched_in =
      let one_is : length es + 1 - length es ≡ 1 = omega arith in
      get_or-append_right changed made (length es) (length es + 1) no_entry changed_length (omega arith) ∙ ap (λ z. get_or made z no_entry) one_is

  -- past the last two nothing is found
  pub entry_at-branched_past : (j : ℕ) → length es + 2 ≤ j → entry_at (branched es k file out inn) j ≡ no_entry
  entry_at-branched_past j l = get_or_past (branched es k file out inn) j no_entry (omega (arith, length-branched, l))

  -- where a node was made does not change
  pub origin-branched : (j : ℕ) → j < length es → (entry_at (branched es k file out inn) j).origin ≡ (entry_at es j).origin
  origin-branched j l = origin_step (eqb j k) refl
    where
      origin_step : (b : Bool) → b ≡ eqb j k → (entry_at (branched es k file out inn) j).origin ≡ (entry_at es j).origin
      origin_step true e =
          let is : j ≡ k = grind (arith, e) in
          ap (λ z. (entry_at (branched es k file out inn) z).origin) is ∙ ap (λ (z : Entry). z.origin) entry_at-branched ∙ ap (λ z. (entry_at es z).origin) (sym is)
      origin_step false e = ap (λ (z : Entry). z.origin) (entry_at-branched_other j l (λ q. grind (arith, e, q)))

  -- a number below two more
  pub cases_below : (j : ℕ) (P : Type 0) → j < length es + 2 → (j < length es → P) → (j ≡ length es → P) → (j ≡ length es + 1 → P) → P
  cases_below j P l x y z = step (eqb j (length es)) (eqb j (length es + 1)) refl refl
    where
      step : (a b : Bool) → a ≡ eqb j (length es) → b ≡ eqb j (length es + 1) → P
      step true b e d = y (grind (arith, e))
      step false true e d = z (grind (arith, d))
      step false false e d = x (grind (arith, e, d, l))

  pub origins-branched : (files : ℕ) → file < files → AreOrigins files es → AreOrigins files (branched es k file out inn)
  origins-branched files f h j l =
      cases_below j (IsOrigin files j (entry_at (branched es k file out inn) j).origin) (omega (arith, length-branched, l))
      (λ b. subst (λ z. IsOrigin files j z) (sym (origin-branched j b)) (h j b))
      (λ e. subst (λ z. IsOrigin files z (entry_at (branched es k file out inn) z).origin) (sym e)
      (subst (λ (z : Entry). IsOrigin files (length es) z.origin) (sym entry_at-branched_out) (inside, f)))
      (λ e. subst (λ z. IsOrigin files z (entry_at (branched es k file out inn) z).origin) (sym e)
      (subst (λ (z : Entry). IsOrigin files (length es + 1) z.origin) (sym entry_at-branched_in) (omega (arith, inside), f)))

  -- the nodes, with those of the two children
  pub nodes_after : (ℕ → Node) → ℕ → Node
  nodes_after nodes j = cond (eqb j (length es)) (put_outside file (nodes k)) (cond (eqb j (length es + 1)) (put_inside file (nodes k)) (nodes j))

  pub nodes_after-below : (nodes : ℕ → Node) (j : ℕ) → j < length es → nodes_after nodes j ≡ nodes j
  unfolding nodes_after
  nodes_after-below nodes j l =
      let a : eqb j (length es) ≡ false = grind (arith, l) in
      let b : eqb j (length es + 1) ≡ false = grind (arith, l) in
      rw (a, b) refl

  pub nodes_after-out : (nodes : ℕ → Node) → nodes_after nodes (length es) ≡ put_outside file (nodes k)
  unfolding nodes_after
  nodes_after-out nodes =
      let a : eqb (length es) (length es) ≡ true = grind arith in
      rw a refl

  pub nodes_after-in : (nodes : ℕ → Node) → nodes_after nodes (length es + 1) ≡ put_inside file (nodes k)
  unfolding nodes_after
  nodes_after-in nodes =
      let a : eqb (length es + 1) (length es) ≡ false = grind arith in
      let b : eqb (length es + 1) (length es + 1) ≡ true = grind arith in
      rw (a, b) refl

  -- a node by where it was made, with other nodes that agree on what was made before
  node_by_agrees : (files : ℕ) (root : Node) (one other : ℕ → Node) (j : ℕ) (origin : Option Origin) → IsOrigin files j origin → ((i : ℕ) → i < j → one i ≡ other i) → node_by root one origin ≡ node_by root other origin
  node_by_agrees files root one other j None h same = refl
  node_by_agrees files root one other j (Some origin) h same = ap (λ z. child_node origin.inside origin.file z) (same origin.parent h.0)

  pub nodes-branched : (files : ℕ) (root : Node) (nodes : ℕ → Node) → AreOrigins files es → AreNodes root es nodes → AreNodes root (branched es k file out inn) (nodes_after nodes)
  nodes-branched files root nodes origins h j l =
      cases_below j (nodes_after nodes j ≡ node_by root (nodes_after nodes) (entry_at (branched es k file out inn) j).origin) (omega (arith, length-branched, l))
      (λ b. nodes_after-below nodes j b ∙ h j b
      ∙ node_by_agrees files root nodes (nodes_after nodes) j (entry_at es j).origin (origins j b) (λ i m. sym (nodes_after-below nodes i (omega (arith, m, b))))
      ∙ ap (λ z. node_by root (nodes_after nodes) z) (sym (origin-branched j b)))
      (λ e. ap (nodes_after nodes) e ∙ nodes_after-out nodes ∙ ap (λ z. put_outside file z) (sym (nodes_after-below nodes k inside))
      ∙ ap (λ (z : Entry). node_by root (nodes_after nodes) z.origin) (sym entry_at-branched_out)
      ∙ ap (λ z. node_by root (nodes_after nodes) (entry_at (branched es k file out inn) z).origin) (sym e))
      (λ e. ap (nodes_after nodes) e ∙ nodes_after-in nodes ∙ ap (λ z. put_inside file z) (sym (nodes_after-below nodes k inside))
      ∙ ap (λ (z : Entry). node_by root (nodes_after nodes) z.origin) (sym entry_at-branched_in)
      ∙ ap (λ z. node_by root (nodes_after nodes) (entry_at (branched es k file out inn) z).origin) (sym e))
