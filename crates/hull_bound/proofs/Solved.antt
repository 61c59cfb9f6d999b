-- What a greatest flow with its two sides says of a node.
use Rattle.std.proofs.Common.{inl, inr, ◌≡◌, ℕ, zero, suc, ◌+◌, ◌*◌, ◌^◌, ◌≤◌, ◌<◌, ◌&&◌, not, Bool, true, eqb, cond, get_or, List, [], ◌∷◌, length, refl, sym, ◌∙◌, subst, arith}
use Rattle.std.specs.Prelude.{sum_by, map}
use Rattle.std.specs.List.{AllByRecursion}
use Rattle.std.proofs.lemmas.Bool.{cases_lt, eq-eqb}
use Rattle.std.proofs.lemmas.Nat.{mul-le}
use Rattle.std.proofs.lemmas.List.Sums.{sum_by-cons, get_or-le-sum_by}
use Rattle.seed_model.specs.declared.node.Node.{Node}
use Rattle.seed_model.specs.declared.table.Class.{Class}
use Rattle.seed_model.specs.declared.limits.TheConstants.{MOST_BYTES}
use Rattle.seed_model.specs.Keys.{at_key, class_at, no_class}
use Rattle.seed_model.specs.Nodes.{IsNode}
use Rattle.seed_model.specs.Tables.{TableValue, IsTable}
use Rattle.bound_cert.specs.declared.multipliers.Give.{Give}
use Rattle.bound_cert.specs.Lines.{IsLine}
use Rattle.bound_cert.specs.Documents.{give_entry}
use Rattle.bound_cert.specs.Multipliers.{IsGive, AreMultipliers, charges_of, rewards_of}
use Rattle.flow_net.specs.Cuts.{AreSides}
use Rattle.flow_net.specs.Flows.{IsFlow, is_in}
use Rattle.flow_net.specs.Nets.{NetValue, IsNet}
use Rattle.hull_bound.specs.Forms.{is_some_give, AreMultipliersAt}
use Rattle.hull_bound.specs.Minima.{AreMinima}
use Rattle.hull_bound.specs.Slots.{slots_from, net_of, set_of}
use Rattle.hull_bound.specs.Walks.{AreSmall, node_gives, multipliers_of}
use Rattle.hull_bound.proofs.Attained.{length_pipes, flows_give, is_attained, set_member, tight_are_minimal}
use Rattle.hull_bound.proofs.Members.{sides_bound_minima}
use Rattle.hull_bound.proofs.Walked.{gives_multipliers, gives_won, gives_lost, gives_rise, gives_few, gives_some}

-- a give counts in the sum of its class
grown : (a : Give → ℕ) (g : Give) (gs hs : List Give) → AllByRecursion (λ (h : Give). a h ≤ sum_by (at_key (λ (x : Give). x.class) a h.class) gs) hs
    → AllByRecursion (λ (h : Give). a h ≤ sum_by (at_key (λ (x : Give). x.class) a h.class) (g ∷ gs)) hs
grown a g gs [] all = tt
grown a g gs (h ∷ hs) all = (omega (arith, all.0, sum_by-cons (at_key (λ (x : Give). x.class) a h.class) g gs), grown a g gs hs all.1)

parts_of : (a : Give → ℕ) (gs : List Give) → AllByRecursion (λ (g : Give). a g ≤ sum_by (at_key (λ (x : Give). x.class) a g.class) gs) gs
parts_of a [] = tt
parts_of a (g ∷ gs) =
    let own : cond (eqb g.class g.class) (a g) 0 ≡ a g = rw (eq-eqb g.class g.class refl) refl in
    (omega (arith, own, sum_by-cons (at_key (λ (x : Give). x.class) a g.class) g gs), grown a g gs gs (parts_of a gs))

some_part : (c r : ℕ) → not (eqb c 0 && eqb r 0) ≡ true → 1 ≤ c + r
some_part zero zero h = absurd (cc h)
some_part zero (suc r) h = omega arith
some_part (suc c) r h = omega arith

module _ (table : TableValue) (p q : ℕ) (all : List Give) (lawful : IsTable table) (m : AreMultipliers table (multipliers_of p q all)) (p_fits : p ≤ 2 ^ 50) (q_fits : q ≤ 2 ^ 50) where
  small : (a k : ℕ) → a ≤ 2 ^ 50 → k < length table.classes → a * (class_at table.classes k).size < 2 ^ 100
  small a k fits h =
      let size : (class_at table.classes k).size ≤ MOST_BYTES = omega (arith, get_or-le-sum_by (λ (d : Class). d.size) table.classes k no_class h, lawful.bytes) in
      let most = mul-le a (class_at table.classes k).size (2 ^ 50) MOST_BYTES fits size in
      omega (arith, most)

  lines : (gs : List Give) → AllByRecursion (IsGive table) gs → AllByRecursion (λ (g : Give). g.charge ≤ charges_of all g.class) gs
      → AllByRecursion (λ (g : Give). g.reward ≤ rewards_of all g.class) gs → AllByRecursion (λ g. is_some_give g ≡ true) gs → AllByRecursion IsLine (map give_entry gs)
  lines [] good cs rs some = tt
  lines (g ∷ gs) good cs rs some =
      let h = good.0.known in (
        (
          omega (arith, h, lawful.classes),
          omega (arith, good.0.file, lawful.files),
          omega (arith, cs.0, m.charges g.class h, small q g.class q_fits h),
          omega (arith, rs.0, m.rewards g.class h, small p g.class p_fits h),
          some_part g.charge g.reward some.0,
        ),
        lines gs good.1 cs.1 rs.1 some.1,
      )

  pub gives_lines : AllByRecursion (λ g. is_some_give g ≡ true) all → AllByRecursion IsLine (map give_entry all)
  gives_lines some = lines all m.each (parts_of (λ (g : Give). g.charge) all) (parts_of (λ (g : Give). g.reward) all) some

module _ (table : TableValue) (p q : ℕ) (node : Node) (amounts : List ℕ) (least greatest : List Bool)
    (lawful : IsTable table) (one : IsNode table.files node) (some : 1 ≤ q) (p_fits : p ≤ 2 ^ 50) (q_fits : q ≤ 2 ^ 50)
    (net : IsNet (net_of table p q node)) (flow : IsFlow (net_of table p q node) 0 1 amounts) (sides : AreSides (net_of table p q node) 0 1 amounts least greatest) where
  each : length amounts ≡ length (slots_from node 0 table.classes)
  each = flow.each ∙ length_pipes table.files p q (slots_from node 0 table.classes)

  pub minima_here : AreMinima table p q node (set_of node (is_in least)) (set_of node (is_in greatest))
  minima_here = record {
    first_is = tight_are_minimal table p q node (is_in least) amounts some lawful one net flow sides.least_cut.0 sides.least_tight;
    last_is = tight_are_minimal table p q node (is_in greatest) amounts some lawful one net flow sides.greatest_cut.0 sides.greatest_tight;
    smallest = λ set minimum. (sides_bound_minima table p q node (is_in least) (is_in greatest) set lawful one sides.smallest sides.largest minimum).0;
    largest = λ set minimum. (sides_bound_minima table p q node (is_in least) (is_in greatest) set lawful one sides.smallest sides.largest minimum).1;
  }

  multipliers : AreMultipliers table (multipliers_of p q (node_gives p table node amounts))
  multipliers = gives_multipliers table p q node amounts lawful each (flows_give table p q node amounts some lawful one flow)

  pub gives_here : AreMultipliersAt table node p q (multipliers_of p q (node_gives p table node amounts))
  gives_here = record {
    over = refl;
    under = refl;
    multipliers = multipliers;
    form = record {
      rising = gives_rise table p q node amounts lawful each;
      lines = (
        (p_fits, some, q_fits, omega (arith, gives_few table p q node amounts lawful each, lawful.pairs)),
        gives_lines table p q (node_gives p table node amounts) lawful multipliers p_fits q_fits (gives_some table p q node amounts lawful each),
      );
    };
    attained = record {
      set = set_of node (is_in least);
      member = set_member table.files node (is_in least) one;
      attained =
          omega (
            arith,
            is_attained table p q node (is_in least) amounts some lawful one net flow sides.least_cut.0 sides.least_tight,
            gives_won table p q node amounts lawful each,
            gives_lost table p q node amounts lawful each,
          );
    };
  }

  -- no amount is above the room of its pipe
  pub amounts_small : AreSmall amounts
  amounts_small i = elim (cases_lt i (length amounts)) as (λ _. get_or amounts i 0 < 2 ^ 104) [
    | inl l ↦ omega (arith, flow.within i (omega (arith, l, flow.each)), (net.pipes i (omega (arith, l, flow.each))).small)
    | inr g ↦ omega (arith, past amounts i g)
  ]
    where
      past : (xs : List ℕ) (i : ℕ) → length xs ≤ i → get_or xs i 0 ≡ 0
      past [] i h = refl
      past (x ∷ xs) zero h = absurd (omega (arith, h))
      past (x ∷ xs) (suc i) h = past xs i (omega (arith, h))

-- what is read off the flow, all at once, of a net that is the node's
pub record Solves (table : TableValue) (p q : ℕ) (node : Node) (amounts : List ℕ) (least greatest : List Bool) : Type 0 where
  pub minima : AreMinima table p q node (set_of node (is_in least)) (set_of node (is_in greatest))
  pub pipes : length amounts ≡ length (slots_from node 0 table.classes)
  pub small : AreSmall amounts
  pub gives : AreMultipliersAt table node p q (multipliers_of p q (node_gives p table node amounts))

pub solved_net : (net : NetValue) (table : TableValue) (p q : ℕ) (node : Node) (amounts : List ℕ) (least greatest : List Bool)
    → net ≡ net_of table p q node → IsTable table → IsNode table.files node → 1 ≤ q → p ≤ 2 ^ 50 → q ≤ 2 ^ 50
    → IsNet net → IsFlow net 0 1 amounts → AreSides net 0 1 amounts least greatest → Solves table p q node amounts least greatest
solved_net net table p q node amounts least greatest is lawful one some p_fits q_fits =
    subst (λ (m : NetValue). IsNet m → IsFlow m 0 1 amounts → AreSides m 0 1 amounts least greatest → Solves table p q node amounts least greatest) (sym is)
    (λ net flow sides. record {
      minima = minima_here table p q node amounts least greatest lawful one some p_fits q_fits net flow sides;
      pipes = each table p q node amounts least greatest lawful one some p_fits q_fits net flow sides;
      small = amounts_small table p q node amounts least greatest lawful one some p_fits q_fits net flow sides;
      gives = gives_here table p q node amounts least greatest lawful one some p_fits q_fits net flow sides;
    })
