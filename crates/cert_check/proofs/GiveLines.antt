-- The gives of a leaf.
use Rattle.std.proofs.Common.{◌≡◌, ℕ, ◌+◌, ◌-◌, ◌<◌, ◌++◌, List, [], ◌∷◌, length, drop, true, false, cond, Option, Some, None, refl, sym, ◌∙◌, ap, subst, arith, inl, inr}
use Rattle.std.specs.Prelude.{IfSome}
use Rattle.std.specs.List.{AllByRecursion}
use Rattle.std.proofs.lemmas.List.{length-append}
use Rattle.seed_model.specs.declared.node.Node.{Node}
use Rattle.seed_model.specs.declared.range.Range.{Range}
use Rattle.seed_model.specs.Tables.{TableValue}
use Rattle.bound_cert.specs.declared.multipliers.Give.{Give as GiveValue}
use Rattle.bound_cert.specs.declared.multipliers.Multipliers.{Multipliers}
use Rattle.bound_cert.specs.declared.place.Place.{Place}
use Rattle.bound_cert.specs.Documents.{give_entry}
use Rattle.bound_cert.specs.Grammar.{after}
use Rattle.bound_cert.specs.Judgements.{Told, Rule, Width, Answering, Sums, InReach, Difference, Mixing, Closing, Using, Charging, Rewarding, Reaching, Apart, Pinning, Keeps, number_of, line_of, node_of, told_by, is_last}
use Rattle.bound_cert.specs.Multipliers.{IsGive}
use Rattle.cert_rules.specs.Judged.{Judges}
use Rattle.cert_check.specs.declared.kept.Broken.{Broken}
use Rattle.cert_check.specs.declared.kept.Kept.{Kept}
use Rattle.cert_check.specs.declared.leaf_sums.LeafSums.{LeafSums}
use Rattle.cert_check.specs.Keeping.{IsSized, IsAt, IsKept, KeepsTold, Takes, JudgesLine, EndsLeaf, rule_of}
use Rattle.cert_check.specs.Leaves.{AreSums, StaysSmall, JudgesLeaf, multipliers_of}
use Rattle.cert_check.specs.Paths.{node_in}
use Rattle.cert_check.proofs.Keepings.{all_behind, many_behind}
use Rattle.cert_check.proofs.LeafLines.{no_leaf, always, work_node}
use Rattle.cert_check.proofs.Placings.{give_at}
use Rattle.cert_check.proofs.Wholes.{KeepsOthers, leaf_judged}

-- a give is taken into the sums
pub record Summed (table : TableValue) (give : GiveValue) (old new : LeafSums) (files : ℕ) : Type 0 where
  pub small : StaysSmall new
  pub shares : length new.shares.items ≡ files
  pub p_is : new.p ≡ old.p
  pub q_is : new.q ≡ old.q
  pub class : new.class ≡ give.class
  pub count : new.gives ≡ old.gives + 1
  pub sums : (gives : List GiveValue) → AreSums table gives old → AreSums table (gives ++ give ∷ []) new

others : (table : TableValue) (told : Told) (give : GiveValue) → IsGive table give → KeepsOthers table told (give_entry give)
others table told give used = record { width = tt; answering = tt; sums = tt; in_reach = tt; difference = tt; mixing = tt; closing = tt; using = used; apart = tt; pinning = tt }

keeps_smaller : (table : TableValue) (told : Told) (give : GiveValue) (other : Rule) → number_of other < 9 → Keeps table told (give_entry give) other
keeps_smaller table told give Width lt = tt
keeps_smaller table told give Answering lt = tt
keeps_smaller table told give Sums lt = tt
keeps_smaller table told give InReach lt = tt
keeps_smaller table told give Difference lt = tt
keeps_smaller table told give Mixing lt = tt
keeps_smaller table told give Closing lt = tt
keeps_smaller table told give Using lt = absurd (omega (arith, lt))
keeps_smaller table told give Charging lt = absurd (omega (arith, lt))
keeps_smaller table told give Rewarding lt = absurd (omega (arith, lt))
keeps_smaller table told give Reaching lt = absurd (omega (arith, lt))
keeps_smaller table told give Apart lt = tt
keeps_smaller table told give Pinning lt = tt

pub give_breaks : (table : TableValue) (old new : Kept) (give : GiveValue) (next : Place) → ((told : Told) → ¬ Keeps table told (give_entry give) Using)
    → Takes table old new (give_entry give) next (Some (record { rule = 9; back = 0 }))
give_breaks table old new give next unused = record {
  judged = λ told t. (Using, refl, record { breaks = unused told; before = λ other lt. keeps_smaller table told give other lt }, λ number. omega arith);
  fits = tt;
  told = tt;
}

pub give_goes : (table : TableValue) (old : Kept) (leaf : LeafSums) (give : GiveValue) (next : Place) → IsKept table old → after old.place (give_entry give) ≡ Some next → is_last old.place ≡ false
    → IsGive table give → Summed table give old.leaf leaf table.files → Takes table old (record old { leaf = leaf; place = next }) (give_entry give) next None
give_goes table old leaf give next k h more used s =
    let at = give_at old.place next give.class give.file give.charge give.reward (length old.path.waiting) old.leaf.class old.leaf.gives h k.at in
    let behind : IsAt next (length old.path.waiting) leaf.class (old.leaf.gives + 1) = subst (λ c. IsAt next (length old.path.waiting) c (old.leaf.gives + 1)) (sym s.class) (at.goes more) in
    let goes : (told : Told) → KeepsTold table old told → is_last told.place ≡ false = λ told t. ap is_last (sym t.place) ∙ more in
    record {
      judged = λ told t. no_leaf table told (give_entry give) (ap (λ c. cond c (Some (record { p = told.p; q = told.q; gives = told.gives ++ give ∷ [] })) None) (goes told t)) (others table told give used);
      fits = record {
        range = k.range;
        bound = k.bound;
        plan = k.plan;
        first = k.first;
        second = k.second;
        root = k.root;
        nodes = k.nodes;
        shares = s.shares;
        small = s.small;
        class = omega (arith, s.class, used.known);
        at = subst (λ g. IsAt next (length old.path.waiting) leaf.class g) (sym s.count) behind;
      };
      told = λ told t. record {
        place = refl;
        range = t.range;
        pinned = t.pinned;
        root = t.root;
        answer = t.answer;
        sums = t.sums;
        plan = t.plan;
        bound = t.bound;
        waiting = t.waiting ∙ sym (ap (λ c. cond c (drop 1 told.waiting) told.waiting) (goes told t));
        branchings = t.branchings;
        p = s.p_is ∙ t.p;
        q = s.q_is ∙ t.q;
        gives = s.sums told.gives t.gives;
      };
    }

-- a failure of a whole leaf carries the line of its `bound`
leaf_line : (told : Told) (give : GiveValue) (rule : Rule) (number back : ℕ) → 9 < number_of rule → number_of rule < 13 → back ≡ length told.gives + 1 → line_of told (give_entry give) rule number ≡ number - back
leaf_line told give Charging number back low high e = omega (arith, e)
leaf_line told give Rewarding number back low high e = omega (arith, e)
leaf_line told give Reaching number back low high e = omega (arith, e)
leaf_line told give Width number back low high e = absurd (omega (arith, low))
leaf_line told give Answering number back low high e = absurd (omega (arith, low))
leaf_line told give Sums number back low high e = absurd (omega (arith, low))
leaf_line told give InReach number back low high e = absurd (omega (arith, low))
leaf_line told give Difference number back low high e = absurd (omega (arith, low))
leaf_line told give Mixing number back low high e = absurd (omega (arith, low))
leaf_line told give Closing number back low high e = absurd (omega (arith, low))
leaf_line told give Using number back low high e = absurd (omega (arith, low))
leaf_line told give Apart number back low high e = absurd (omega (arith, high))
leaf_line told give Pinning number back low high e = absurd (omega (arith, high))

whole_rule : (table : TableValue) (range : Range) (bound : Option ℕ) (node : Node) (m : Multipliers) (rule : ℕ) → JudgesLeaf table range bound node m (Some rule) → (9 < rule) × (rule < 13)
whole_rule table range bound node m rule j = elim j [
  | inl x ↦ (omega (arith, x.0), omega (arith, x.0))
  | inr y ↦ elim y [ inl x ↦ (omega (arith, x.0), omega (arith, x.0)) | inr x ↦ (omega (arith, x.0), omega (arith, x.0)) ]
]

judged_line : (table : TableValue) (told : Told) (give : GiveValue) (m : Multipliers) (node : Node) (count : ℕ) (result : Option Broken) → count ≡ length told.gives + 1 → IfSome result (λ b. b.back ≡ count)
    → JudgesLeaf table told.range told.bound node m (rule_of result) → Judges table told (give_entry give) (rule_of result) → JudgesLine table told (give_entry give) result
judged_line table told give m node count None many back whole j = j
judged_line table told give m node count (Some b) many back whole j =
    let r = whole_rule table told.range told.bound node m b.rule whole in
    (j.0, j.1, j.2, λ number. leaf_line told give j.0 number b.back (omega (arith, r.0, j.1)) (omega (arith, r.1, j.1)) (back ∙ many))

pub give_ends : (table : TableValue) (old new : Kept) (leaf : LeafSums) (give : GiveValue) (next : Place) (result : Option Broken) → IsKept table old → after old.place (give_entry give) ≡ Some next → is_last old.place ≡ true
    → IsGive table give → Summed table give old.leaf leaf table.files → EndsLeaf table (record old { leaf = leaf; place = next }) new result → Takes table old new (give_entry give) next result
give_ends table old new leaf give next result k h one used s ends =
    let at = give_at old.place next give.class give.file give.charge give.reward (length old.path.waiting) old.leaf.class old.leaf.gives h k.at in
    let many : length new.path.waiting ≡ length old.path.waiting - 1 = ap (λ (ns : List Node). length ns) ends.waiting ∙ many_behind old.path.waiting in
    let place : Kept = record old { leaf = new.leaf; place = next; path = new.path } in
    let same : place ≡ new = sym ends.others in
    let last : (told : Told) → KeepsTold table old told → is_last told.place ≡ true = λ told t. ap is_last (sym t.place) ∙ one in
    let fits : IsKept table place = record {
      range = k.range;
      bound = k.bound;
      plan = k.plan;
      first = k.first;
      second = k.second;
      root = subst (λ (x : Node). IsSized table.files x) (sym ends.root) k.root;
      nodes = subst (λ (ns : List Node). AllByRecursion (IsSized table.files) ns) (sym ends.waiting) (all_behind (IsSized table.files) old.path.waiting k.nodes);
      shares = ends.shares;
      small = ends.small;
      class = ends.class;
      at = subst (λ x. IsAt next x new.leaf.class new.leaf.gives) (sym many) (at.ends one new.leaf.class new.leaf.gives);
    } in
    record {
      judged = λ told t.
          let gives : List GiveValue = told.gives ++ give ∷ [] in
          let m : Multipliers = record { p = told.p; q = told.q; gives = gives } in
          let told_m : multipliers_of leaf gives ≡ m = ap (λ x. record (multipliers_of leaf gives) { p = x }) (s.p_is ∙ t.p) ∙ ap (λ x. record { p = told.p; q = x; gives = gives }) (s.q_is ∙ t.q) in
          let sums : AreSums table gives leaf = s.sums told.gives t.gives in
          let whole = ends.judged gives sums in
          let w1 = subst (λ (x : Multipliers). JudgesLeaf table old.range old.bound (node_in old.path) x (rule_of result)) told_m whole in
          let w2 = subst (λ (x : Node). JudgesLeaf table old.range old.bound x m (rule_of result)) (work_node table old told t at.waits) w1 in
          let w3 = subst (λ (x : Range). JudgesLeaf table x old.bound (node_of table.files told) m (rule_of result)) t.range w2 in
          let w4 = subst (λ (x : Option ℕ). JudgesLeaf table told.range x (node_of table.files told) m (rule_of result)) t.bound w3 in
          judged_line table told give m (node_of table.files told) leaf.gives result (sums.count ∙ length-append told.gives (give ∷ [])) ends.back w4
          (leaf_judged table told (give_entry give) m (rule_of result) (ap (λ c. cond c (Some m) None) (last told t)) (others table told give used) w4);
      fits = always result (IsKept table new) (subst (λ (x : Kept). IsKept table x) same fits);
      told = always result ((told : Told) → KeepsTold table old told → KeepsTold table new (told_by table.files told next (give_entry give))) (λ told t. subst (λ (x : Kept). KeepsTold table x (told_by table.files told next (give_entry give))) same (record {
        place = refl;
        range = t.range;
        pinned = t.pinned;
        root = ends.root ∙ t.root;
        answer = t.answer;
        sums = t.sums;
        plan = t.plan;
        bound = t.bound;
        waiting = ends.waiting ∙ (ap (λ (ns : List Node). drop 1 ns) t.waiting ∙ sym (ap (λ c. cond c (drop 1 told.waiting) told.waiting) (last told t)));
        branchings = t.branchings;
        p = ends.p ∙ (s.p_is ∙ t.p);
        q = ends.q ∙ (s.q_is ∙ t.q);
        gives = ends.sums (told.gives ++ give ∷ []) (s.sums told.gives t.gives);
      }));
    }
