-- The sums of a leaf: from give to give, and from class to class.
use Rattle.std.proofs.Common.{◌≡◌, ◌≢◌, ℕ, ◌+◌, ◌-◌, ◌*◌, ◌<◌, ◌≤◌, ◌++◌, List, [], ◌∷◌, length, Bool, true, cond, eqb, refl, sym, ◌∙◌, ap, subst, arith, inl, inr}
use Rattle.std.specs.Prelude.{◌↔◌, ◌&&◌, ◌==◌, nat_le, sum_by, Some, None}
use Rattle.std.specs.List.{AllByRecursion}
use Rattle.std.proofs.lemmas.Bool.{cases_eq, cases_Bool, and_parts, ne_eqb, eq-eqb, eqb-true, leb-true, le-leb}
use Rattle.std.proofs.lemmas.List.{length-set, length-append, get_or-set_same, get_or-set_other}
use Rattle.std.proofs.lemmas.List.Sums.{sum_by_push, sum_by-cons}
use Rattle.seed_model.specs.declared.node.Node.{Node}
use Rattle.seed_model.specs.declared.range.Range.{Range}
use Rattle.seed_model.specs.Files.{holds}
use Rattle.seed_model.specs.Keys.{at_key, sum_below, class_at}
use Rattle.seed_model.specs.Tables.{TableValue}
use Rattle.seed_model.proofs.KeySums.{sum_below_same, sum_below_le, sum_below_none, sum_below_entries, all_append}
use Rattle.cert_check.proofs.Counts.{sum_has, sum_part}
use Rattle.bound_cert.specs.declared.multipliers.Give.{Give}
use Rattle.bound_cert.specs.Multipliers.{charges_at, rewards_at, charges_of, rewards_of, AreCharged, AreRewarded, ReachesBound, won, lost, won_at, lost_at}
use Rattle.cert_check.specs.declared.leaf_sums.Share.{Share}
use Rattle.cert_check.specs.declared.leaf_sums.LeafSums.{LeafSums}
use Rattle.cert_check.specs.Leaves.{no_share, share_at, AreChargedBelow, AreRewardedBelow, AreSums, charge_sum, reward_sum, behind_class, with_share, shared_out, share_won, share_lost, SumsReach, JudgesLeaf, multipliers_of}

-- gives of classes up to a number have nothing above it
none_above : (a : Give → ℕ) (gives : List Give) (n m : ℕ) → n < m → AllByRecursion (λ g. g.class ≤ n) gives → sum_by (at_key (λ (g : Give). g.class) a m) gives ≡ 0
none_above a [] n m lt all = refl
none_above a (g ∷ gives) n m lt all =
    let rest = none_above a gives n m lt all.1 in
    let none : cond (eqb g.class m) (a g) 0 ≡ 0 = ap (λ b. cond b (a g) 0) (ne_eqb g.class m (omega (arith, lt, all.0))) in
    sum_by-cons (at_key (λ (g : Give). g.class) a m) g gives ∙ omega (arith, rest, none)

up_to : (gives : List Give) (n m : ℕ) → n ≤ m → AllByRecursion (λ g. g.class ≤ n) gives → AllByRecursion (λ g. g.class ≤ m) gives
up_to [] n m le all = tt
up_to (g ∷ gives) n m le all = (omega (arith, le, all.0), up_to gives n m le all.1)

-- one class more is judged
charged_next : (table : TableValue) (q n amount size : ℕ) (gives : List Give) (before : Bool) → size ≡ (class_at table.classes n).size → amount ≡ charges_of gives n
    → ((before ≡ true) ↔ AreChargedBelow table q gives n) → ((before && nat_le amount (q * size)) ≡ true) ↔ AreChargedBelow table q gives (n + 1)
charged_next table q n amount size gives before is at both = (
  λ e class lt.
      let parts = and_parts before (nat_le amount (q * size)) e in
      elim (cases_eq class n) [
        | inl same ↦
            let le : amount ≤ q * size = leb-true amount (q * size) parts.1 in
            subst (λ k. charges_of gives k ≤ q * (class_at table.classes k).size) (sym same) (subst (λ x. x ≤ q * (class_at table.classes n).size) at (subst (λ s. amount ≤ q * s) is le))
        | inr ne ↦ both.0 parts.0 class (omega (arith, lt, ne))
      ],
  λ all.
      let below : before ≡ true = both.1 (λ class lt. all class (omega (arith, lt))) in
      let here : amount ≤ q * size = subst (λ s. amount ≤ q * s) (sym is) (subst (λ x. x ≤ q * (class_at table.classes n).size) (sym at) (all n (omega arith))) in
      rw (below, le-leb amount (q * size) here) refl,
)

rewarded_next : (table : TableValue) (p n amount size : ℕ) (gives : List Give) (before : Bool) → size ≡ (class_at table.classes n).size → amount ≡ rewards_of gives n
    → ((before ≡ true) ↔ AreRewardedBelow table p gives n) → ((before && (amount == p * size)) ≡ true) ↔ AreRewardedBelow table p gives (n + 1)
rewarded_next table p n amount size gives before is at both = (
  λ e class lt.
      let parts = and_parts before (amount == p * size) e in
      elim (cases_eq class n) [
        | inl same ↦
            let eq : amount ≡ p * size = eqb-true amount (p * size) parts.1 in
            subst (λ k. rewards_of gives k ≡ p * (class_at table.classes k).size) (sym same) (sym at ∙ (eq ∙ ap (λ s. p * s) is))
        | inr ne ↦ both.0 parts.0 class (omega (arith, lt, ne))
      ],
  λ all.
      let below : before ≡ true = both.1 (λ class lt. all class (omega (arith, lt))) in
      let here : amount ≡ p * size = at ∙ (all n (omega arith) ∙ ap (λ s. p * s) (sym is)) in
      rw (below, eq-eqb amount (p * size) here) refl,
)

pub class_next : (table : TableValue) (gives : List Give) (sums : LeafSums) (size : ℕ) → size ≡ (class_at table.classes sums.class).size → AreSums table gives sums → AreSums table gives (behind_class size sums)
class_next table gives sums size is s = record {
  count = s.count;
  rising = up_to gives sums.class (sums.class + 1) (omega arith) s.rising;
  charge = sym (none_above (λ (g : Give). g.charge) gives sums.class (sums.class + 1) (omega arith) s.rising);
  reward = sym (none_above (λ (g : Give). g.reward) gives sums.class (sums.class + 1) (omega arith) s.rising);
  charged = charged_next table sums.q sums.class sums.work.charge size gives sums.charged is s.charge s.charged;
  rewarded = rewarded_next table sums.p sums.class sums.work.reward size gives sums.rewarded is s.reward s.rewarded;
  charges = s.charges;
  rewards = s.rewards;
}

-- what a give adds at its key
key_more : (key a : Give → ℕ) (gives : List Give) (g : Give) (k : ℕ) → key g ≡ k → sum_by (at_key key a k) (gives ++ g ∷ []) ≡ sum_by (at_key key a k) gives + a g
key_more key a gives g k e = sum_by_push (at_key key a k) gives g ∙ ap (λ b. sum_by (at_key key a k) gives + cond b (a g) 0) (eq-eqb (key g) k e)

key_same : (key a : Give → ℕ) (gives : List Give) (g : Give) (k : ℕ) → key g ≢ k → sum_by (at_key key a k) (gives ++ g ∷ []) ≡ sum_by (at_key key a k) gives
key_same key a gives g k ne =
    let e = sum_by_push (at_key key a k) gives g in
    let none : cond (eqb (key g) k) (a g) 0 ≡ 0 = ap (λ b. cond b (a g) 0) (ne_eqb (key g) k ne) in
    omega (arith, e, none)

-- a give of the class in work
pub record Gave (give : Give) (old new : LeafSums) : Type 0 where
  pub gives : new.gives ≡ old.gives + 1
  pub work : new.work ≡ with_share old.work give
  pub shares : new.shares.items ≡ shared_out give old.shares.items
  pub rest : (new.p ≡ old.p) × (new.q ≡ old.q) × (new.class ≡ old.class) × (new.charged ≡ old.charged) × (new.rewarded ≡ old.rewarded)

both_same : {P Q R S : Type 0} → (P → R) → (R → P) → (Q → S) → (S → Q) → (P ↔ Q) → (R ↔ S)
both_same pr rp qs sq both = (λ r. qs (both.0 (rp r)), λ s. pr (both.1 (sq s)))

shared_at : (shares : List Share) (give : Give) (file : ℕ) → give.file < length shares → file ≡ give.file → share_at (shared_out give shares) file ≡ with_share (share_at shares file) give
shared_at shares give file lt e =
    ap (share_at (shared_out give shares)) e ∙ (get_or-set_same shares give.file (with_share (share_at shares give.file) give) no_share lt ∙ ap (λ k. with_share (share_at shares k) give) (sym e))

shared_other : (shares : List Share) (give : Give) (file : ℕ) → file ≢ give.file → share_at (shared_out give shares) file ≡ share_at shares file
shared_other shares give file ne = get_or-set_other shares give.file file (with_share (share_at shares give.file) give) no_share ne

pub give_more : (table : TableValue) (gives : List Give) (give : Give) (old new : LeafSums) → old.class ≡ give.class → give.file < length old.shares.items → Gave give old new → AreSums table gives old → AreSums table (gives ++ give ∷ []) new
give_more table gives give old new at lt more s =
    let class : new.class ≡ old.class = more.rest.2 in
    let all : List Give = gives ++ give ∷ [] in
    let charge : (k : ℕ) → k < old.class → charges_of all k ≡ charges_of gives k = λ k l. key_same (λ (g : Give). g.class) (λ (g : Give). g.charge) gives give k (omega (arith, l, at)) in
    let reward : (k : ℕ) → k < old.class → rewards_of all k ≡ rewards_of gives k = λ k l. key_same (λ (g : Give). g.class) (λ (g : Give). g.reward) gives give k (omega (arith, l, at)) in
    record {
      count = more.gives ∙ (ap (λ n. n + 1) s.count ∙ sym (length-append gives (give ∷ [])));
      rising = subst (λ n. AllByRecursion (λ (g : Give). g.class ≤ n) all) (sym class) (all_append (λ (g : Give). g.class ≤ old.class) gives (give ∷ []) s.rising (omega (arith, at), tt));
      charge = ap (λ (w : Share). w.charge) more.work ∙ (ap (λ n. n + give.charge) s.charge ∙ (sym (key_more (λ (g : Give). g.class) (λ (g : Give). g.charge) gives give old.class (sym at)) ∙ ap (charges_of all) (sym class)));
      reward = ap (λ (w : Share). w.reward) more.work ∙ (ap (λ n. n + give.reward) s.reward ∙ (sym (key_more (λ (g : Give). g.class) (λ (g : Give). g.reward) gives give old.class (sym at)) ∙ ap (rewards_of all) (sym class)));
      charged = (
        λ e k l.
            let l2 : k < old.class = omega (arith, l, class) in
            let was : charges_of gives k ≤ old.q * (class_at table.classes k).size = s.charged.0 (sym more.rest.3 ∙ e) k l2 in
            subst (λ q. charges_of all k ≤ q * (class_at table.classes k).size) (sym more.rest.1) (subst (λ n. n ≤ old.q * (class_at table.classes k).size) (sym (charge k l2)) was),
        λ below. more.rest.3 ∙ s.charged.1 (λ k l.
            let now : charges_of all k ≤ new.q * (class_at table.classes k).size = below k (omega (arith, l, class)) in
            subst (λ n. n ≤ old.q * (class_at table.classes k).size) (charge k l) (subst (λ q. charges_of all k ≤ q * (class_at table.classes k).size) more.rest.1 now)),
      );
      rewarded = (
        λ e k l.
            let l2 : k < old.class = omega (arith, l, class) in
            reward k l2 ∙ (s.rewarded.0 (sym more.rest.4 ∙ e) k l2 ∙ ap (λ p. p * (class_at table.classes k).size) (sym more.rest.0)),
        λ below. more.rest.4 ∙ s.rewarded.1 (λ k l.
            sym (reward k l) ∙ (below k (omega (arith, l, class)) ∙ ap (λ p. p * (class_at table.classes k).size) more.rest.0)),
      );
      charges = λ file l.
          let l2 : file < length old.shares.items = omega (arith, l, ap length more.shares, length-set old.shares.items give.file (with_share (share_at old.shares.items give.file) give)) in
          ap (λ xs. (share_at xs file).charge) more.shares ∙ elim (cases_eq file give.file) as (λ _. (share_at (shared_out give old.shares.items) file).charge ≡ charges_at all file) [
            | inl e ↦ ap (λ (x : Share). x.charge) (shared_at old.shares.items give file lt e) ∙ (ap (λ n. n + give.charge) (s.charges file l2) ∙ sym (key_more (λ (g : Give). g.file) (λ (g : Give). g.charge) gives give file (sym e)))
            | inr ne ↦ ap (λ (x : Share). x.charge) (shared_other old.shares.items give file ne) ∙ (s.charges file l2 ∙ sym (key_same (λ (g : Give). g.file) (λ (g : Give). g.charge) gives give file (λ e. ne (sym e))))
          ];
      rewards = λ file l.
          let l2 : file < length old.shares.items = omega (arith, l, ap length more.shares, length-set old.shares.items give.file (with_share (share_at old.shares.items give.file) give)) in
          ap (λ xs. (share_at xs file).reward) more.shares ∙ elim (cases_eq file give.file) as (λ _. (share_at (shared_out give old.shares.items) file).reward ≡ rewards_at all file) [
            | inl e ↦ ap (λ (x : Share). x.reward) (shared_at old.shares.items give file lt e) ∙ (ap (λ n. n + give.reward) (s.rewards file l2) ∙ sym (key_more (λ (g : Give). g.file) (λ (g : Give). g.reward) gives give file (sym e)))
            | inr ne ↦ ap (λ (x : Share). x.reward) (shared_other old.shares.items give file ne) ∙ (s.rewards file l2 ∙ sym (key_same (λ (g : Give). g.file) (λ (g : Give). g.reward) gives give file (λ e. ne (sym e))))
          ];
    }

-- shares of nothing
pub all_none : (shares : List Share) → ((file : ℕ) → file < length shares → share_at shares file ≡ no_share) → (charge_sum shares ≡ 0) × (reward_sum shares ≡ 0)
all_none shares none =
    let c : sum_below (λ k. (share_at shares k).charge) (length shares) ≡ sum_below (λ k. 0) (length shares) = sum_below_same (λ k. (share_at shares k).charge) (λ k. 0) (length shares) (λ k l. ap (λ (s : Share). s.charge) (none k l)) in
    let r : sum_below (λ k. (share_at shares k).reward) (length shares) ≡ sum_below (λ k. 0) (length shares) = sum_below_same (λ k. (share_at shares k).reward) (λ k. 0) (length shares) (λ k l. ap (λ (s : Share). s.reward) (none k l)) in (
      sym (sum_below_entries (λ (s : Share). s.charge) shares no_share) ∙ (c ∙ sum_below_none (length shares)),
      sym (sum_below_entries (λ (s : Share). s.reward) shares no_share) ∙ (r ∙ sum_below_none (length shares)),
    )

pub no_gives : (table : TableValue) (sums : LeafSums) → sums.gives ≡ 0 → sums.class ≡ 0 → sums.work ≡ no_share → sums.charged ≡ true → sums.rewarded ≡ true
    → ((file : ℕ) → file < length sums.shares.items → share_at sums.shares.items file ≡ no_share) → AreSums table [] sums
no_gives table sums gives class work charged rewarded none = record {
  count = gives;
  rising = tt;
  charge = ap (λ (w : Share). w.charge) work;
  reward = ap (λ (w : Share). w.reward) work;
  charged = (λ _ k l. absurd (omega (arith, l, class)), λ _. charged);
  rewarded = (λ _ k l. absurd (omega (arith, l, class)), λ _. rewarded);
  charges = λ file l. ap (λ (s : Share). s.charge) (none file l);
  rewards = λ file l. ap (λ (s : Share). s.reward) (none file l);
}

won_le : (node : Node) (shares : List Share) (file : ℕ) → share_won node shares file ≤ (share_at shares file).charge
won_le node shares file = elim (cases_Bool (holds node.inside file)) [ inl t ↦ rw t (omega arith) | inr f ↦ rw f (omega arith) ]

lost_le : (node : Node) (shares : List Share) (file : ℕ) → share_lost node shares file ≤ (share_at shares file).reward
lost_le node shares file = elim (cases_Bool (holds node.inside file)) [
  | inl t ↦ rw t (omega arith)
  | inr f ↦ rw f (elim (cases_Bool (holds node.outside file)) [ inl t ↦ rw t (omega arith) | inr g ↦ rw g (omega arith) ])
]

pub won_small : (node : Node) (shares : List Share) (n : ℕ) → n ≤ length shares → sum_below (share_won node shares) n ≤ charge_sum shares
won_small node shares n le =
    let part = sum_part (share_won node shares) n (length shares) le in
    let each = sum_below_le (share_won node shares) (λ k. (share_at shares k).charge) (length shares) (λ k l. won_le node shares k) in
    let all = sum_below_entries (λ (s : Share). s.charge) shares no_share in
    omega (arith, part, each, all)

pub lost_small : (node : Node) (shares : List Share) (n : ℕ) → n ≤ length shares → sum_below (share_lost node shares) n ≤ reward_sum shares
lost_small node shares n le =
    let part = sum_part (share_lost node shares) n (length shares) le in
    let each = sum_below_le (share_lost node shares) (λ k. (share_at shares k).reward) (length shares) (λ k l. lost_le node shares k) in
    let all = sum_below_entries (λ (s : Share). s.reward) shares no_share in
    omega (arith, part, each, all)

-- no share is greater than all together
pub charge_small : (shares : List Share) (file : ℕ) → file < length shares → (share_at shares file).charge ≤ charge_sum shares
charge_small shares file lt =
    let has = sum_has (λ k. (share_at shares k).charge) (length shares) file lt in
    let all = sum_below_entries (λ (s : Share). s.charge) shares no_share in
    omega (arith, has, all)

pub reward_small : (shares : List Share) (file : ℕ) → file < length shares → (share_at shares file).reward ≤ reward_sum shares
reward_small shares file lt =
    let has = sum_has (λ k. (share_at shares k).reward) (length shares) file lt in
    let all = sum_below_entries (λ (s : Share). s.reward) shares no_share in
    omega (arith, has, all)

-- the sums say what the gives win and lose
won_same : (table : TableValue) (node : Node) (gives : List Give) (sums : LeafSums) → length sums.shares.items ≡ table.files → AreSums table gives sums → sum_below (share_won node sums.shares.items) (length sums.shares.items) ≡ won table.files node gives
won_same table node gives sums l s =
    sum_below_same (share_won node sums.shares.items) (won_at node gives) (length sums.shares.items) (λ k lt. ap (λ n. cond (holds node.inside k) n 0) (s.charges k lt)) ∙ ap (sum_below (won_at node gives)) l

lost_same : (table : TableValue) (node : Node) (gives : List Give) (sums : LeafSums) → length sums.shares.items ≡ table.files → AreSums table gives sums → sum_below (share_lost node sums.shares.items) (length sums.shares.items) ≡ lost table.files node gives
lost_same table node gives sums l s =
    sum_below_same (share_lost node sums.shares.items) (lost_at node gives) (length sums.shares.items) (λ k lt.
    ap (λ n. cond (holds node.inside k) n (cond (holds node.outside k) 0 (n - (share_at sums.shares.items k).charge))) (s.rewards k lt)
    ∙ ap (λ n. cond (holds node.inside k) (rewards_at gives k) (cond (holds node.outside k) 0 (rewards_at gives k - n))) (s.charges k lt)) ∙ ap (sum_below (lost_at node gives)) l

pub reach_same : (table : TableValue) (range : Range) (node : Node) (bound : ℕ) (gives : List Give) (sums : LeafSums) → length sums.shares.items ≡ table.files → AreSums table gives sums
    → SumsReach range node bound sums ↔ ReachesBound table range node bound (multipliers_of sums gives)
reach_same table range node bound gives sums l s =
    let w = won_same table node gives sums l s in
    let o = lost_same table node gives sums l s in
    (λ r. omega (arith, r, w, o), λ r. omega (arith, r, w, o))

-- what is left of the three rules once every class is judged
pub record Judged (table : TableValue) (gives : List Give) (old new : LeafSums) : Type 0 where
  pub sums : AreSums table gives new
  pub p : new.p ≡ old.p
  pub q : new.q ≡ old.q
  pub class : new.class ≡ length table.classes
  pub files : length new.shares.items ≡ table.files

all_charged : (table : TableValue) (gives : List Give) (old new : LeafSums) → Judged table gives old new → (new.charged ≡ true) ↔ AreCharged table old.q gives
all_charged table gives old new j = (
  λ e class lt. subst (λ q. charges_of gives class ≤ q * (class_at table.classes class).size) j.q (j.sums.charged.0 e class (omega (arith, lt, j.class))),
  λ all. j.sums.charged.1 (λ class lt. subst (λ q. charges_of gives class ≤ q * (class_at table.classes class).size) (sym j.q) (all class (omega (arith, lt, j.class)))),
)

all_rewarded : (table : TableValue) (gives : List Give) (old new : LeafSums) → Judged table gives old new → (new.rewarded ≡ true) ↔ AreRewarded table old.p gives
all_rewarded table gives old new j = (
  λ e class lt. subst (λ p. rewards_of gives class ≡ p * (class_at table.classes class).size) j.p (j.sums.rewarded.0 e class (omega (arith, lt, j.class))),
  λ all. j.sums.rewarded.1 (λ class lt. subst (λ p. rewards_of gives class ≡ p * (class_at table.classes class).size) (sym j.p) (all class (omega (arith, lt, j.class)))),
)

reached : (table : TableValue) (range : Range) (node : Node) (bound : ℕ) (gives : List Give) (old new : LeafSums) → Judged table gives old new
    → SumsReach range node bound new ↔ ReachesBound table range node bound (multipliers_of old gives)
reached table range node bound gives old new j =
    let same : multipliers_of new gives ≡ multipliers_of old gives = ap (λ p. record (multipliers_of new gives) { p = p }) j.p ∙ ap (λ q. record { p = old.p; q = q; gives = gives }) j.q in
    subst (λ m. SumsReach range node bound new ↔ ReachesBound table range node bound m) same (reach_same table range node bound gives new j.files j.sums)

pub keeps_all : (table : TableValue) (range : Range) (node : Node) (bound : ℕ) (gives : List Give) (old new : LeafSums) → Judged table gives old new → new.charged ≡ true → new.rewarded ≡ true → SumsReach range node bound new
    → JudgesLeaf table range (Some bound) node (multipliers_of old gives) None
keeps_all table range node bound gives old new j c r s =
    ((all_charged table gives old new j).0 c, (all_rewarded table gives old new j).0 r, (reached table range node bound gives old new j).0 s)

pub breaks_reaching : (table : TableValue) (range : Range) (node : Node) (bound : ℕ) (gives : List Give) (old new : LeafSums) → Judged table gives old new → new.charged ≡ true → new.rewarded ≡ true
    → ¬ SumsReach range node bound new → JudgesLeaf table range (Some bound) node (multipliers_of old gives) (Some 12)
breaks_reaching table range node bound gives old new j c r short =
    inr (inr (refl, (all_charged table gives old new j).0 c, (all_rewarded table gives old new j).0 r, λ h. short ((reached table range node bound gives old new j).1 h)))
