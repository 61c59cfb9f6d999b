-- The way from a node up to the root.
use Rattle.std.proofs.Common.{◌≡◌, ℕ, ◌<◌, Bool, true, false, Option, Some, None, List, [], ◌∷◌, length, set, length-set, refl, sym, ◌∙◌, ap, arith, eqb}
use Rattle.std.proofs.lemmas.List.{set_comm}
use Rattle.seed_model.specs.declared.node.Node.{Node}
use Rattle.branch_bound.specs.declared.entry.Entry.{Entry}
use Rattle.branch_bound.specs.declared.entry.Origin.{Origin}
use Rattle.branch_bound.specs.Entries.{entry_at, child_node, node_by, IsOrigin, AreOrigins, AreNodes}

-- the files of the way, each put on its side
pub put_all : List Origin → Node → Node
put_all [] node = node
put_all (o ∷ os) node = put_all os (child_node o.inside o.file node)

sets_commute : (xs : List Bool) (f g : ℕ) (b : Bool) → b ≡ eqb f g → set (set xs g true) f true ≡ set (set xs f true) g true
sets_commute xs f g true e = let same : f ≡ g = grind (arith, e) in ap (λ z. set (set xs g true) z true) same ∙ ap (λ z. set (set xs z true) g true) (sym same)
sets_commute xs f g false e = set_comm xs g f true true (λ q. grind (arith, e, q))

children_commute : (b c : Bool) (f g : ℕ) (node : Node) → child_node b f (child_node c g node) ≡ child_node c g (child_node b f node)
children_commute true true f g node = ap (λ (z : List Bool). let made : Node = record { inside = z; outside = node.outside } in made) (sets_commute node.inside f g (eqb f g) refl)
children_commute true false f g node = refl
children_commute false true f g node = refl
children_commute false false f g node = ap (λ (z : List Bool). let made : Node = record { inside = node.inside; outside = z } in made) (sets_commute node.outside f g (eqb f g) refl)

put_last : (os : List Origin) (b : Bool) (f : ℕ) (node : Node) → child_node b f (put_all os node) ≡ put_all os (child_node b f node)
unfolding put_all
put_last [] b f node = refl
put_last (o ∷ os) b f node = put_last os b f (child_node o.inside o.file node) ∙ ap (put_all os) (children_commute b o.inside f o.file node)

child_inside : (b : Bool) (f : ℕ) (node : Node) → length (child_node b f node).inside ≡ length node.inside
child_inside true f node = length-set node.inside f true
child_inside false f node = refl

child_outside : (b : Bool) (f : ℕ) (node : Node) → length (child_node b f node).outside ≡ length node.outside
child_outside true f node = refl
child_outside false f node = length-set node.outside f true

-- what is known on the way: the files of the steps so far are put on their sides
pub record Climbs (root : Node) (es : List Entry) (number : ℕ) (at : ℕ) (node : Node) : Type 0 where
  pub steps : List Origin
  pub now : node ≡ put_all steps root
  pub reaches : (nodes : ℕ → Node) → AreNodes root es nodes → put_all steps (nodes at) ≡ nodes number
  pub within : at < length es
  pub inside : length node.inside ≡ length root.inside
  pub outside : length node.outside ≡ length root.inside

pub climb_begins : (root : Node) (es : List Entry) (number : ℕ) → number < length es → length root.outside ≡ length root.inside → Climbs root es number number root
unfolding put_all
climb_begins root es number l same = record { steps = []; now = refl; reaches = λ nodes h. refl; within = l; inside = refl; outside = same }

pub climb_steps : (root : Node) (es : List Entry) (number at : ℕ) (node : Node) (o : Origin) → AreOrigins (length root.inside) es → (entry_at es at).origin ≡ Some o
    → Climbs root es number at node → Climbs root es number o.parent (child_node o.inside o.file node)
unfolding put_all
climb_steps root es number at node o origins is c =
    let step : o.parent < at = by_origin (entry_at es at).origin is (origins at c.within) in
    record {
      steps = o ∷ c.steps;
      now = ap (child_node o.inside o.file) c.now ∙ put_last c.steps o.inside o.file root;
      reaches = λ nodes h. ap (put_all c.steps) (sym (h at c.within ∙ ap (node_by root nodes) is)) ∙ c.reaches nodes h;
      within = omega (arith, step, c.within);
      inside = child_inside o.inside o.file node ∙ c.inside;
      outside = child_outside o.inside o.file node ∙ c.outside;
    }
  where
    by_origin : (origin : Option Origin) → origin ≡ Some o → IsOrigin (length root.inside) at origin → o.parent < at
    by_origin None e h = absurd (cc e)
    by_origin (Some p) e h = let same : p ≡ o = cc e in omega (arith, h.0, ap (λ (z : Origin). z.parent) same)

pub climb_ends : (root : Node) (es : List Entry) (number at : ℕ) (node : Node) → (entry_at es at).origin ≡ None → Climbs root es number at node
    → (nodes : ℕ → Node) → AreNodes root es nodes → node ≡ nodes number
climb_ends root es number at node is c nodes h =
    c.now ∙ ap (put_all c.steps) (sym (h at c.within ∙ ap (node_by root nodes) is)) ∙ c.reaches nodes h

-- what a step wants: its parent was made before, and its file is one of the node's
pub step_fits : (root : Node) (es : List Entry) (number at : ℕ) (node : Node) (o : Origin) → AreOrigins (length root.inside) es → (entry_at es at).origin ≡ Some o
    → Climbs root es number at node → (o.parent < at) × (o.file < length root.inside)
step_fits root es number at node o origins is c = by_origin (entry_at es at).origin is (origins at c.within)
  where
    by_origin : (origin : Option Origin) → origin ≡ Some o → IsOrigin (length root.inside) at origin → (o.parent < at) × (o.file < length root.inside)
    by_origin None e h = absurd (cc e)
    by_origin (Some p) e h =
        let same : p ≡ o = cc e in
        (omega (arith, h.0, ap (λ (z : Origin). z.parent) same), omega (arith, h.1, ap (λ (z : Origin). z.file) same))
