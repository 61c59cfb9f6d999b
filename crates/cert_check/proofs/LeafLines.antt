-- The first line of a leaf.
use Rattle.std.proofs.Common.{◌≡◌, ℕ, ◌-◌, ◌<◌, List, [], length, drop, get_or, true, false, cond, eqb, Option, Some, None, refl, sym, ◌∙◌, ap, subst, arith}
use Rattle.std.specs.Prelude.{IfSome, IfNone, IsSomeAnd}
use Rattle.std.specs.List.{AllByRecursion}
use Rattle.std.proofs.lemmas.Bool.{eq-eqb, ne_eqb}
use Rattle.std.proofs.lemmas.List.{get_or_default}
use Rattle.seed_model.specs.declared.node.Node.{Node}
use Rattle.seed_model.specs.declared.range.Range.{Range}
use Rattle.seed_model.specs.Nodes.{undecided_node}
use Rattle.seed_model.specs.Tables.{TableValue}
use Rattle.bound_cert.specs.declared.multipliers.Multipliers.{Multipliers}
use Rattle.bound_cert.specs.declared.place.Place.{Place}
use Rattle.bound_cert.specs.Grammar.{after}
use Rattle.bound_cert.specs.Judgements.{Told, Rule, Keeps, node_of, told_by, leaf_of}
use Rattle.bound_cert.specs.Lines.{Entry, Leaf, IsLine}
use Rattle.bound_cert.specs.Multipliers.{AreCharged, AreRewarded, ReachesBound}
use Rattle.cert_rules.specs.Judged.{Judges}
use Rattle.cert_check.specs.declared.kept.Broken.{Broken}
use Rattle.cert_check.specs.declared.kept.Kept.{Kept}
use Rattle.cert_check.specs.declared.leaf_sums.LeafSums.{LeafSums}
use Rattle.cert_check.specs.Keeping.{IsSized, IsAt, IsKept, KeepsTold, Takes, JudgesLine, EndsLeaf, rule_of}
use Rattle.cert_check.specs.Leaves.{AreSums, StaysSmall, JudgesLeaf, multipliers_of}
use Rattle.cert_check.specs.Paths.{node_in, no_node}
use Rattle.cert_check.proofs.Keepings.{all_behind, many_behind}
use Rattle.cert_check.proofs.Placings.{leaf_at, node_place}
use Rattle.cert_check.proofs.Wholes.{KeepsOthers, keeps_each, leaf_judged}

-- a leaf has begun
pub record Begun (leaf : LeafSums) (p q files : ℕ) : Type 0 where
  pub small : StaysSmall leaf
  pub shares : length leaf.shares.items ≡ files
  pub p_is : leaf.p ≡ p
  pub q_is : leaf.q ≡ q
  pub class : leaf.class ≡ 0
  pub sums : (table : TableValue) → AreSums table [] leaf

others : (table : TableValue) (told : Told) (p q gives : ℕ) → KeepsOthers table told (Leaf p q gives)
others table told p q gives = record { width = tt; answering = tt; sums = tt; in_reach = tt; difference = tt; mixing = tt; closing = tt; using = tt; apart = tt; pinning = tt }

pub no_leaf : (table : TableValue) (told : Told) (e : Entry) → leaf_of told e ≡ None → KeepsOthers table told e → (rule : Rule) → Keeps table told e rule
no_leaf table told e is o =
    keeps_each table told e o
    (subst (λ (w : Option Multipliers). IfSome w (λ x. AreCharged table x.q x.gives)) (sym is) tt)
    (subst (λ (w : Option Multipliers). IfSome w (λ x. AreRewarded table x.p x.gives)) (sym is) tt)
    (subst (λ (w : Option Multipliers). IfSome w (λ x. IsSomeAnd told.bound (λ z. ReachesBound table told.range (node_of table.files told) z x))) (sym is) tt)

pub leaf_goes : (table : TableValue) (old : Kept) (leaf : LeafSums) (p q gives : ℕ) (next : Place) → IsKept table old → IsLine (Leaf p q gives) → after old.place (Leaf p q gives) ≡ Some next → 0 < gives → Begun leaf p q table.files
    → Takes table old (record old { leaf = leaf; place = next }) (Leaf p q gives) next None
leaf_goes table old leaf p q gives next k l h some b =
    let more : eqb gives 0 ≡ false = ne_eqb gives 0 (omega (arith, some)) in
    let at = (leaf_at old.place next p q gives (length old.path.waiting) old.leaf.class old.leaf.gives leaf.class h k.at l.3 b.class).1 in
    let at2 : IsAt next (length old.path.waiting) leaf.class 0 = subst (λ c. IsAt next (cond c (length old.path.waiting - 1) (length old.path.waiting)) leaf.class 0) more at in
    let none : leaf.gives ≡ 0 = (b.sums table).count in
    record {
      judged = λ told t. no_leaf table told (Leaf p q gives) (ap (λ c. cond c (Some (record { p = p; q = q; gives = [] })) None) more) (others table told p q gives);
      fits = record {
        range = k.range;
        bound = k.bound;
        plan = k.plan;
        first = k.first;
        second = k.second;
        root = k.root;
        nodes = k.nodes;
        shares = b.shares;
        small = b.small;
        class = omega (arith, b.class);
        at = subst (λ g. IsAt next (length old.path.waiting) leaf.class g) (sym none) at2;
      };
      told = λ told t. record {
        place = refl;
        range = t.range;
        pinned = t.pinned;
        root = t.root;
        answer = t.answer;
        sums = t.sums;
        plan = t.plan;
        bound = t.bound;
        waiting = t.waiting ∙ sym (ap (λ c. cond c (drop 1 told.waiting) told.waiting) more);
        branchings = t.branchings;
        p = b.p_is;
        q = b.q_is;
        gives = b.sums table;
      };
    }

pub always : (o : Option Broken) (P : Type 0) → P → IfNone o P
always None P h = h
always (Some b) P h = tt

-- the node in work is the one told
pub work_node : (table : TableValue) (old : Kept) (told : Told) → KeepsTold table old told → 0 < length old.path.waiting → node_in old.path ≡ node_of table.files told
work_node table old told t some =
    get_or_default old.path.waiting 0 no_node (undecided_node table.files) some ∙ ap (λ (ns : List Node). get_or ns 0 (undecided_node table.files)) t.waiting

here : (table : TableValue) (told : Told) (p q gives : ℕ) (result : Option Broken) → IfSome result (λ b. b.back ≡ 0) → Judges table told (Leaf p q gives) (rule_of result) → JudgesLine table told (Leaf p q gives) result
here table told p q gives None back j = j
here table told p q gives (Some b) back j = (j.0, j.1, j.2, λ number. omega (arith, back))

back_none : (result : Option Broken) (n : ℕ) → n ≡ 0 → IfSome result (λ b. b.back ≡ n) → IfSome result (λ b. b.back ≡ 0)
back_none None n e h = h
back_none (Some b) n e h = h ∙ e

pub leaf_ends : (table : TableValue) (old new : Kept) (leaf : LeafSums) (p q gives : ℕ) (next : Place) (result : Option Broken) → IsKept table old → IsLine (Leaf p q gives) → after old.place (Leaf p q gives) ≡ Some next → gives ≡ 0 → Begun leaf p q table.files
    → EndsLeaf table (record old { leaf = leaf; place = next }) new result → Takes table old new (Leaf p q gives) next result
leaf_ends table old new leaf p q gives next result k l h zero b ends =
    let more : eqb gives 0 ≡ true = eq-eqb gives 0 zero in
    let at = leaf_at old.place next p q gives (length old.path.waiting) old.leaf.class old.leaf.gives 0 h k.at l.3 refl in
    let n : ℕ = length old.path.waiting - 1 in
    let many : length new.path.waiting ≡ n = ap (λ (ns : List Node). length ns) ends.waiting ∙ many_behind old.path.waiting in
    let place : Kept = record old { leaf = new.leaf; place = next; path = new.path } in
    let same : place ≡ new = sym ends.others in
    let m : Multipliers = record { p = p; q = q; gives = [] } in
    let told_m : multipliers_of leaf [] ≡ m = ap (λ x. record (multipliers_of leaf []) { p = x }) b.p_is ∙ ap (λ x. record { p = p; q = x; gives = [] }) b.q_is in
    let none : leaf.gives ≡ 0 = (b.sums table).count in
    let fits : IsKept table place = record {
      range = k.range;
      bound = k.bound;
      plan = k.plan;
      first = k.first;
      second = k.second;
      root = subst (λ (x : Node). IsSized table.files x) (sym ends.root) k.root;
      nodes = subst (λ (ns : List Node). AllByRecursion (IsSized table.files) ns) (sym ends.waiting) (all_behind (IsSized table.files) old.path.waiting k.nodes);
      shares = ends.shares;
      small = ends.small;
      class = ends.class;
      at = subst (λ x. IsAt next x new.leaf.class new.leaf.gives) (sym many) (node_place next p q gives (length old.path.waiting) n old.place old.leaf.class old.leaf.gives new.leaf.class new.leaf.gives h k.at zero refl);
    } in
    record {
      judged = λ told t.
          let whole = ends.judged [] (b.sums table) in
          let w1 = subst (λ (x : Multipliers). JudgesLeaf table old.range old.bound (node_in old.path) x (rule_of result)) told_m whole in
          let w2 = subst (λ (x : Node). JudgesLeaf table old.range old.bound x m (rule_of result)) (work_node table old told t at.0) w1 in
          let w3 = subst (λ (x : Range). JudgesLeaf table x old.bound (node_of table.files told) m (rule_of result)) t.range w2 in
          let w4 = subst (λ (x : Option ℕ). JudgesLeaf table told.range x (node_of table.files told) m (rule_of result)) t.bound w3 in
          here table told p q gives result (back_none result leaf.gives none ends.back)
          (leaf_judged table told (Leaf p q gives) m (rule_of result) (ap (λ c. cond c (Some m) None) more) (others table told p q gives) w4);
      fits = always result (IsKept table new) (subst (λ (x : Kept). IsKept table x) same fits);
      told = always result ((told : Told) → KeepsTold table old told → KeepsTold table new (told_by table.files told next (Leaf p q gives))) (λ told t. subst (λ (x : Kept). KeepsTold table x (told_by table.files told next (Leaf p q gives))) same (record {
        place = refl;
        range = t.range;
        pinned = t.pinned;
        root = ends.root ∙ t.root;
        answer = t.answer;
        sums = t.sums;
        plan = t.plan;
        bound = t.bound;
        waiting = ends.waiting ∙ (ap (λ (ns : List Node). drop 1 ns) t.waiting ∙ sym (ap (λ c. cond c (drop 1 told.waiting) told.waiting) more));
        branchings = t.branchings;
        p = ends.p ∙ b.p_is;
        q = ends.q ∙ b.q_is;
        gives = ends.sums [] (b.sums table);
      }));
    }
