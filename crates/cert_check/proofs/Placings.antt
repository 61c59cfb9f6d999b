-- The places at which lines stand, and the nodes that wait there.
use Rattle.std.proofs.Common.{◌≤◌, ap, ◌≡◌, ℕ, zero, suc, ◌+◌, ◌-◌, ◌<◌, List, Bool, true, false, cond, Option, Some, None, refl, sym, ◌∙◌, subst, arith, eqb}
use Rattle.std.proofs.lemmas.Bool.{eq-eqb}
use Rattle.std.proofs.lemmas.Bool.Decides.{nat_tests}
use Rattle.bound_cert.specs.declared.place.Place.{Place}
use Rattle.bound_cert.specs.declared.place.Place.TheVariants.{AtPins, AtPlan, AtBound, AtNode, AtGive}
use Rattle.bound_cert.specs.Documents.{bound_entry}
use Rattle.bound_cert.specs.Grammar.{after, at_gives, is_above}
use Rattle.bound_cert.specs.Judgements.{is_last}
use Rattle.bound_cert.specs.Lines.{Leaf, Pinned, Planned, Branch, Low, High, Give}
use Rattle.bound_cert.proofs.Judging.{not_one}
use Rattle.bound_cert.proofs.Placing.{some_same, at_node, at_give, not_zero}
use Rattle.cert_check.specs.Keeping.{IsAt, IsLast}

no_choice : {X : Type 0} (b : Bool) (x : X) → cond b None None ≡ Some x → ⊥
no_choice true x h = cc
no_choice false x h = cc

pub pins_at : (place next : Place) (go stay : List ℕ) (n c g : ℕ) → after place (Pinned go stay) ≡ Some next → IsAt place n c g → (n ≡ 0) × IsAt next n c g
pins_at AtPins next go stay n c g h a = (a, subst (λ p. IsAt p n c g) (some_same h) a)
pins_at (AtNode m) next go stay n c g h a = absurd (no_choice (eqb m 0) next h)
pins_at (AtGive m k l) next go stay n c g h a = absurd (no_choice (eqb k 0) next h)
pins_at place next go stay n c g h a = absurd cc

pub plan_at : (place next : Place) (set : List ℕ) (m r n c g : ℕ) → after place (Planned set m r) ≡ Some next → IsAt place n c g → (n ≡ 0) × IsAt next n c g
plan_at AtPlan next set m r n c g h a = (a, subst (λ p. IsAt p n c g) (some_same h) a)
plan_at (AtNode k) next set m r n c g h a = absurd (no_choice (eqb k 0) next h)
plan_at (AtGive j k l) next set m r n c g h a = absurd (no_choice (eqb k 0) next h)
plan_at place next set m r n c g h a = absurd cc

pub bound_at : (place next : Place) (bound : Option ℕ) (n c g : ℕ) → after place (bound_entry bound) ≡ Some next → IsAt place n c g → (n ≡ 0) × IsAt next 1 c g
bound_at AtBound next None n c g h a = (a, subst (λ p. IsAt p 1 c g) (some_same h) refl)
bound_at AtBound next (Some z) n c g h a = (a, subst (λ p. IsAt p 1 c g) (some_same h) refl)
bound_at (AtNode m) next None n c g h a = absurd (no_choice (eqb m 0) next h)
bound_at (AtNode m) next (Some z) n c g h a = absurd (no_choice (eqb m 0) next h)
bound_at (AtGive m k l) next None n c g h a = absurd (no_choice (eqb k 0) next h)
bound_at (AtGive m k l) next (Some z) n c g h a = absurd (no_choice (eqb k 0) next h)
bound_at place next None n c g h a = absurd cc
bound_at place next (Some z) n c g h a = absurd cc

-- a line of the tree stands at a node
pub branch_at : (place next : Place) (f : ℕ) (p q : List ℕ) (x y n c g : ℕ) → after place (Branch f p q x y) ≡ Some next → IsAt place n c g → (0 < n) × IsAt next (n + 1) c g
branch_at (AtNode zero) next f p q x y n c g h a = absurd cc
branch_at (AtNode (suc m)) next f p q x y n c g h a =
    let e : AtNode (m + 2) ≡ next = some_same (sym (at_node m (Branch f p q x y)) ∙ h) in
    (omega (arith, a), subst (λ t. IsAt t (n + 1) c g) e (omega (arith, a)))
branch_at (AtGive m k l) next f p q x y n c g h a = absurd (no_choice (eqb k 0) next h)
branch_at place next f p q x y n c g h a = absurd cc

pub low_at : (place next : Place) (n c g : ℕ) → after place Low ≡ Some next → IsAt place n c g → (0 < n) × IsAt next (n - 1) c g
low_at (AtNode zero) next n c g h a = absurd cc
low_at (AtNode (suc m)) next n c g h a =
    let e : AtNode m ≡ next = some_same (sym (at_node m Low) ∙ h) in
    (omega (arith, a), subst (λ t. IsAt t (n - 1) c g) e (omega (arith, a)))
low_at (AtGive m k l) next n c g h a = absurd (no_choice (eqb k 0) next h)
low_at place next n c g h a = absurd cc

pub high_at : (place next : Place) (n c g : ℕ) → after place High ≡ Some next → IsAt place n c g → (0 < n) × IsAt next (n - 1) c g
high_at (AtNode zero) next n c g h a = absurd cc
high_at (AtNode (suc m)) next n c g h a =
    let e : AtNode m ≡ next = some_same (sym (at_node m High) ∙ h) in
    (omega (arith, a), subst (λ t. IsAt t (n - 1) c g) e (omega (arith, a)))
high_at (AtGive m k l) next n c g h a = absurd (no_choice (eqb k 0) next h)
high_at place next n c g h a = absurd cc

leaf_next : (m gives n c g : ℕ) → n ≡ m + 1 → g ≡ 0 → c ≡ 0 → gives ≤ 4194303 → (b : Bool) → eqb gives 0 ≡ b
    → IsAt (cond b (AtNode m) (AtGive m gives None)) (cond b (n - 1) n) c g
leaf_next m gives n c g e eg ec few true is = omega (arith, e)
leaf_next m gives n c g e eg ec few false is = (e, omega (arith, eg, few), ec)

-- behind the first line of a leaf, its node waits where gives follow
pub leaf_at : (place next : Place) (p q gives n c g c2 : ℕ) → after place (Leaf p q gives) ≡ Some next → IsAt place n c g → gives ≤ 4194303 → c2 ≡ 0
    → (0 < n) × IsAt next (cond (eqb gives 0) (n - 1) n) c2 0
leaf_at (AtNode zero) next p q gives n c g c2 h a few ec = absurd cc
leaf_at (AtNode (suc m)) next p q gives n c g c2 h a few ec =
    let e = some_same (sym (at_node m (Leaf p q gives)) ∙ h) in
    (omega (arith, a), subst (λ t. IsAt t (cond (eqb gives 0) (n - 1) n) c2 0) e (leaf_next m gives n c2 0 (omega (arith, a)) refl ec few (eqb gives 0) refl))
leaf_at (AtGive m k l) next p q gives n c g c2 h a few ec = absurd (no_choice (eqb k 0) next h)
leaf_at place next p q gives n c g c2 h a few ec = absurd cc

-- behind a leaf without gives, the next node
pub node_place : (next : Place) (p q gives n m : ℕ) (place : Place) (c g c2 g2 : ℕ) → after place (Leaf p q gives) ≡ Some next → IsAt place n c g → gives ≡ 0 → m ≡ n - 1 → IsAt next m c2 g2
node_place next p q gives n m (AtNode zero) c g c2 g2 h a e em = absurd cc
node_place next p q gives n m (AtNode (suc k)) c g c2 g2 h a e em =
    let t : cond (eqb gives 0) (AtNode k) (AtGive k gives None) ≡ next = some_same (sym (at_node k (Leaf p q gives)) ∙ h) in
    let u : AtNode k ≡ next = sym (ap (λ b. cond b (AtNode k) (AtGive k gives None)) (eq-eqb gives 0 e)) ∙ t in
    subst (λ x. IsAt x m c2 g2) u (omega (arith, a, em))
node_place next p q gives n m (AtGive i k l) c g c2 g2 h a e em = absurd (no_choice (eqb k 0) next h)
node_place next p q gives n m place c g c2 g2 h a e em = absurd cc

-- the place of a give, by the class in work, and the places behind it
pub record GiveAt (place next : Place) (c n class g : ℕ) : Type 0 where
  pub waits : 0 < n
  pub few : g < 4194303
  pub rises : class ≤ c
  pub goes : is_last place ≡ false → IsAt next n c (g + 1)
  pub ends : is_last place ≡ true → (c2 g2 : ℕ) → IsAt next (n - 1) c2 g2

above_last : (last : Option (ℕ × ℕ)) (c f class : ℕ) → is_above c f last ≡ true → IsLast last class → class ≤ c
above_last None c f class above at = omega (arith, at)
above_last (Some last) c f class above at = grind (arith, nat_tests)

gives_go : (m k c f n class g : ℕ) (last : Option (ℕ × ℕ)) → IsAt (AtGive m (suc k) last) n class g → eqb (suc k) 1 ≡ false → IsAt (at_gives m k (Some (c, f))) n c (g + 1)
gives_go m zero c f n class g last at more = absurd (let e : true ≡ false = more in cc)
gives_go m (suc k) c f n class g last at more =
    subst (λ b. IsAt (cond b (AtNode m) (AtGive m (suc k) (Some (c, f)))) n c (g + 1)) (sym (not_zero k)) (at.0, omega (arith, at.1), refl)

gives_end : (m k c f n class g : ℕ) (last : Option (ℕ × ℕ)) (c2 g2 : ℕ) → IsAt (AtGive m (suc k) last) n class g → eqb (suc k) 1 ≡ true → IsAt (at_gives m k (Some (c, f))) (n - 1) c2 g2
gives_end m zero c f n class g last c2 g2 at one = omega (arith, at.0)
gives_end m (suc k) c f n class g last c2 g2 at one = absurd (let e : true ≡ false = sym one ∙ not_one k in cc)

pub give_at : (place next : Place) (c f a b n class g : ℕ) → after place (Give c f a b) ≡ Some next → IsAt place n class g → GiveAt place next c n class g
give_at (AtGive m zero last) next c f a b n class g h at = absurd cc
give_at (AtGive m (suc k) last) next c f a b n class g h at =
    let x = at_give m k last c f a b next h in
    record {
      waits = omega (arith, at.0);
      few = omega (arith, at.1);
      rises = above_last last c f class x.0 at.2;
      goes = λ more. subst (λ p. IsAt p n c (g + 1)) (sym x.1) (gives_go m k c f n class g last at more);
      ends = λ one c2 g2. subst (λ p. IsAt p (n - 1) c2 g2) (sym x.1) (gives_end m k c f n class g last c2 g2 at one);
    }
give_at (AtNode m) next c f a b n class g h at = absurd (no_choice (eqb m 0) next h)
give_at place next c f a b n class g h at = absurd cc
