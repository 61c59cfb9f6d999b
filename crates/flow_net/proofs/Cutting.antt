use Rattle.std.proofs.Common.{inl, inr, ◌≡◌, ◌≢◌, ℕ, zero, suc, ◌+◌, ◌-◌, ◌*◌, ◌^◌, ◌≤◌, ◌<◌, Bool, true, false, cond, not, eqb, List, [], ◌∷◌, length, replicate, get_or, refl, sym, ◌∙◌, ap, subst, arith}
use Rattle.std.proofs.lemmas.Bool.{cases_lt, lt-ltb, le-ltb, ltb-true, ne_eqb}
use Rattle.std.proofs.lemmas.List.{get_or_past, length-replicate, get_or-replicate}
use Rattle.flow_net.specs.declared.pipes.Pipe.{Pipe}
use Rattle.flow_net.specs.Nets.{NetValue, FillingValue, IsNet, pipe_at}
use Rattle.flow_net.specs.Paths.{use_of, start_of, end_of}
use Rattle.flow_net.specs.Flows.{AreRoomsBelow, amount_on, cost, IsSide, IsFlow, IsLeastCut, IsTight, is_in}
use Rattle.flow_net.specs.Pushes.{part, across, left_across, AreWithin, IsCarried, Augments}
use Rattle.flow_net.specs.Levels.{unreached, level_of, IsReached, reached, IsClosed, IsSearched}
use Rattle.flow_net.specs.Cuts.{AreSides}
use Rattle.flow_net.proofs.Carrying.{left_across-out, augments_on}
use Rattle.flow_net.proofs.Sums.{amount_on-cons}
use Rattle.flow_net.proofs.Powering.{left_each, left_rooms, source_side, searched_side}
use Rattle.std.proofs.Math.Nat.{mul-le-mul_left}

-- what a side's cut costs is the value, and what can still cross it
cost_is :
    (ps : List Pipe) (a b : ℕ) (xs : List ℕ) (s : ℕ → Bool) (carried : IsCarried ps a b xs) → IsSide a b s →
    cost s ps ≡ left_across s ps xs + carried.value
cost_is ps a b xs s carried side =
    let law = left_across-out s ps xs carried.each carried.within in
    let at_a : part (s a) carried.value ≡ carried.value = ap (λ c. part c carried.value) side.0 in
    let at_b : part (s b) carried.value ≡ 0 = ap (λ c. part c carried.value) side.1 in
    omega (arith, law, carried.balanced s, at_a, at_b)

-- one pipe is within the sum
across_at :
    (s : ℕ → Bool) (ps : List Pipe) (xs : List ℕ) (i : ℕ) → length xs ≡ length ps → i < length ps →
    across (s (pipe_at ps i).from) (s (pipe_at ps i).to) (pipe_at ps i).room (get_or xs i 0) ≤ left_across s ps xs
across_at s [] xs i each h = absurd (omega (arith, h))
across_at s (p ∷ ps) [] i each h = absurd (omega (arith, each))
across_at s (p ∷ ps) (x ∷ xs) zero each h = omega arith
across_at s (p ∷ ps) (x ∷ xs) (suc i) each h = omega (arith, across_at s ps xs i (omega (arith, each)) (omega (arith, h)))

-- where nothing can cross, the side is tight
tight_from_none :
    (s : ℕ → Bool) (ps : List Pipe) (xs : List ℕ) → length xs ≡ length ps → AreWithin ps xs → left_across s ps xs ≡ 0 → IsTight s ps xs
tight_from_none s ps xs each within none =
    record {
      full =
          λ i h f t.
          let at = across_at s ps xs i each h in
          full_at (s (pipe_at ps i).from) (s (pipe_at ps i).to) (pipe_at ps i).room (get_or xs i 0) (within i h) (omega (arith, at, none)) f t;
      empty =
          λ i h f t.
          let at = across_at s ps xs i each h in
          empty_at (s (pipe_at ps i).from) (s (pipe_at ps i).to) (pipe_at ps i).room (get_or xs i 0) (omega (arith, at, none)) f t;
    }
  where
    full_at : (f t : Bool) (r x : ℕ) → x ≤ r → across f t r x ≤ 0 → f ≡ true → t ≡ false → x ≡ r
    full_at true false r x h l ef et = omega (arith, h, l)
    full_at true true r x h l ef et = absurd (cc et)
    full_at false t r x h l ef et = absurd (cc ef)

    empty_at : (f t : Bool) (r x : ℕ) → across f t r x ≤ 0 → f ≡ false → t ≡ true → x ≡ 0
    empty_at false true r x l ef et = omega (arith, l)
    empty_at false false r x l ef et = absurd (cc et)
    empty_at true t r x l ef et = absurd (cc ef)

-- nothing can cross a set that is closed at power 1
none_from_closed :
    (s : ℕ → Bool) (ps : List Pipe) (xs : List ℕ) → length xs ≡ length ps → IsClosed ps xs 1 false s → left_across s ps xs ≡ 0
none_from_closed s ps xs each closed =
    let all = left_each s ps xs 0 each
    (λ i h. one (s (pipe_at ps i).from) (s (pipe_at ps i).to) (pipe_at ps i).room (get_or xs i 0) (closed i false h) (closed i true h)) in
    omega (arith, all)
  where
    one : (f t : Bool) (r x : ℕ) → (1 ≤ r - x → f ≡ true → t ≡ true) → (1 ≤ x → t ≡ true → f ≡ true) → across f t r x ≤ 0
    one true true r x out back = omega arith
    one true false r x out back =
        elim (cases_lt (r - x) 1) as (λ _. r - x ≤ 0) [ inl below ↦ omega arith | inr above ↦ absurd (cc (out above refl)) ]
    one false true r x out back =
        elim (cases_lt x 1) as (λ _. x ≤ 0) [ inl below ↦ omega arith | inr above ↦ absurd (cc (back above refl)) ]
    one false false r x out back = omega arith

-- a closed side is tight, and its cut is least
pub closed_tight :
    (ps : List Pipe) (a b : ℕ) (xs : List ℕ) (s : ℕ → Bool) → IsCarried ps a b xs → IsClosed ps xs 1 false s → IsTight s ps xs
closed_tight ps a b xs s carried closed =
    tight_from_none s ps xs carried.each carried.within (none_from_closed s ps xs carried.each closed)

pub closed_least :
    (ps : List Pipe) (a b : ℕ) (xs : List ℕ) (s : ℕ → Bool) → IsCarried ps a b xs → IsSide a b s → IsClosed ps xs 1 false s →
    IsLeastCut ps a b s
closed_least ps a b xs s carried side closed = (
  side,
  λ t other.
      omega (arith, cost_is ps a b xs s carried side, cost_is ps a b xs t carried other, none_from_closed s ps xs carried.each closed),
)

-- a tight side is closed
closed_from_tight :
    (ps : List Pipe) (xs : List ℕ) (s : ℕ → Bool) → IsTight s ps xs → IsClosed ps xs 1 false s
closed_from_tight ps xs s tight i false h left at =
    by_end (s (pipe_at ps i).to) (λ e. let full = tight.full i h at e in absurd (omega (arith, full, left)))
  where
    by_end : (b : Bool) → (b ≡ false → b ≡ true) → b ≡ true
    by_end true h = refl
    by_end false h = h refl
closed_from_tight ps xs s tight i true h left at =
    by_end (s (pipe_at ps i).from) (λ e. let empty = tight.empty i h e at in absurd (omega (arith, empty, left)))
  where
    by_end : (b : Bool) → (b ≡ false → b ≡ true) → b ≡ true
    by_end true h = refl
    by_end false h = h refl

-- nothing can cross a tight side
pub tight_none : (s : ℕ → Bool) (ps : List Pipe) (xs : List ℕ) → length xs ≡ length ps → IsTight s ps xs → left_across s ps xs ≡ 0
tight_none s ps xs each tight = none_from_closed s ps xs each (closed_from_tight ps xs s tight)

-- the side of any least cut is closed, where some side is
pub least_closed :
    (ps : List Pipe) (a b : ℕ) (xs : List ℕ) (s t : ℕ → Bool) → IsCarried ps a b xs → IsSide a b s → IsClosed ps xs 1 false s →
    IsLeastCut ps a b t → IsClosed ps xs 1 false t
least_closed ps a b xs s t carried side closed least =
    let none : left_across t ps xs ≡ 0 =
    (let a1 = cost_is ps a b xs s carried side in
    let a2 = cost_is ps a b xs t carried least.0 in
    let a3 = none_from_closed s ps xs carried.each closed in
    let a4 = least.1 s side in
    omega (arith, a1, a2, a3, a4)) in
    closed_from_tight ps xs t (tight_from_none t ps xs carried.each carried.within none)

opposite : (b c : Bool) → (b ≡ true → c ≡ true) → not c ≡ true → not b ≡ true
opposite true true h e = e
opposite true false h e = absurd (cc (h refl))
opposite false c h e = refl

-- what is closed one way has its complement closed the other way
pub closed_turned :
    (ps : List Pipe) (xs : List ℕ) (w : ℕ) (backward : Bool) (s : ℕ → Bool) → IsClosed ps xs w backward s →
    IsClosed ps xs w (not backward) (λ v. not (s v))
closed_turned ps xs w true s closed i true h left at = opposite (s (pipe_at ps i).from) (s (pipe_at ps i).to) (closed i false h left) at
closed_turned ps xs w true s closed i false h left at = opposite (s (pipe_at ps i).to) (s (pipe_at ps i).from) (closed i true h left) at
closed_turned ps xs w false s closed i true h left at = opposite (s (pipe_at ps i).from) (s (pipe_at ps i).to) (closed i false h left) at
closed_turned ps xs w false s closed i false h left at = opposite (s (pipe_at ps i).to) (s (pipe_at ps i).from) (closed i true h left) at

-- only the nodes of the net matter
pub closed_agree :
    (net : NetValue) (xs : List ℕ) (w : ℕ) (backward : Bool) (s t : ℕ → Bool) → IsNet net → ((v : ℕ) → v < net.nodes → t v ≡ s v) →
    IsClosed net.pipes xs w backward s → IsClosed net.pipes xs w backward t
closed_agree net xs w backward s t lawful agree closed i back h left at =
    agree (end_of net.pipes (use_of i back)) (end_in back) ∙
    closed i back h left (sym (agree (start_of net.pipes (use_of i back)) (start_in back)) ∙ at)
  where
    start_in : (b : Bool) → start_of net.pipes (use_of i b) < net.nodes
    start_in true = (lawful.pipes i h).to_is_node
    start_in false = (lawful.pipes i h).from_is_node

    end_in : (b : Bool) → end_of net.pipes (use_of i b) < net.nodes
    end_in true = (lawful.pipes i h).from_is_node
    end_in false = (lawful.pipes i h).to_is_node

-- what flows is a flow
pub carried_flow :
    (net : NetValue) (a b : ℕ) (xs : List ℕ) → IsCarried net.pipes a b xs → IsFlow net a b xs
carried_flow net a b xs carried =
    record {
      each = carried.each;
      within = carried.within;
      conserved =
          λ v h not_a not_b.
          let at_a : part (eqb a v) carried.value ≡ 0 = ap (λ c. part c carried.value) (ne_eqb a v (λ e. not_a (sym e))) in
          let at_b : part (eqb b v) carried.value ≡ 0 = ap (λ c. part c carried.value) (ne_eqb b v (λ e. not_b (sym e))) in
          omega (arith, carried.balanced (λ u. eqb u v), at_a, at_b);
    }

module _ (net : NetValue) (a b : ℕ) (xs : List ℕ) (levels levels2 : List ℕ) (found : Bool) (least greatest : List Bool)
    (lawful : IsNet net) (carried : IsCarried net.pipes a b xs) (a_in : a < net.nodes) (b_in : b < net.nodes)
    (searched : IsSearched net.pipes xs 1 false a b levels false) (back : IsSearched net.pipes xs 1 true b a levels2 found)
    (least_is : (v : ℕ) → v < net.nodes → is_in least v ≡ reached levels v)
    (greatest_is : (v : ℕ) → v < net.nodes → is_in greatest v ≡ not (reached levels2 v))
    (least_len : length least ≡ net.nodes) where
  fore : IsClosed net.pipes xs 1 false (reached levels)
  fore = searched.closed refl

  -- the search back reaches nothing that the search from the source reached
  apart_from : (v : ℕ) → IsReached levels2 v → not (reached levels v) ≡ true
  apart_from v r =
      back.within (λ u. not (reached levels u)) (closed_turned net.pipes xs 1 false (reached levels) fore)
      (ap not (searched_side net.pipes xs 1 a b levels searched).1) v r

  missed : found ≡ false
  missed =
      by_found found
      (λ e. let no : not (reached levels a) ≡ true = apart_from a (back.goal_reached e) in
      let yes : reached levels a ≡ true = (searched_side net.pipes xs 1 a b levels searched).0 in
      cc (no, yes))
    where
      by_found : (c : Bool) → (c ≡ true → ⊥) → c ≡ false
      by_found true h = absurd (h refl)
      by_found false h = refl

  greatest_closed : IsClosed net.pipes xs 1 false (is_in greatest)
  greatest_closed =
      closed_agree net xs 1 false (λ v. not (reached levels2 v)) (is_in greatest) lawful greatest_is
      (closed_turned net.pipes xs 1 true (reached levels2) (back.closed missed))

  least_closed_is : IsClosed net.pipes xs 1 false (is_in least)
  least_closed_is = closed_agree net xs 1 false (reached levels) (is_in least) lawful least_is fore

  least_side : IsSide a b (is_in least)
  least_side = (
    least_is a a_in ∙ (searched_side net.pipes xs 1 a b levels searched).0,
    least_is b b_in ∙ (searched_side net.pipes xs 1 a b levels searched).1,
  )

  greatest_side : IsSide a b (is_in greatest)
  greatest_side = (
    greatest_is a a_in ∙ ap not (le-ltb (level_of levels2 a) unreached (let m = back.goal_missed missed in omega (arith, m))),
    greatest_is b b_in ∙ ap not (lt-ltb (level_of levels2 b) unreached (let z = back.begin in omega (arith, z))),
  )

  pub sides_are : AreSides net a b xs least greatest
  sides_are =
      record {
        least_cut = closed_least net.pipes a b xs (is_in least) carried least_side least_closed_is;
        greatest_cut = closed_least net.pipes a b xs (is_in greatest) carried greatest_side greatest_closed;
        least_tight = closed_tight net.pipes a b xs (is_in least) carried least_closed_is;
        greatest_tight = closed_tight net.pipes a b xs (is_in greatest) carried greatest_closed;
        smallest =
            λ s cut v at.
            let closed = least_closed net.pipes a b xs (is_in least) s carried least_side least_closed_is cut in
            elim (cases_lt v net.nodes) as (λ _. s v ≡ true) [
              | inl inside ↦
                  searched.within s closed cut.0.0 v (ltb-true (level_of levels v) unreached (sym (least_is v inside) ∙ at))
              | inr outside ↦
                  let none : is_in least v ≡ false = get_or_past least v false (omega (arith, outside, least_len)) in
                  absurd (cc (none, at))
            ];
        largest =
            λ s cut v inside at.
            let closed = least_closed net.pipes a b xs (is_in least) s carried least_side least_closed_is cut in
            greatest_is v inside ∙
            elim (cases_lt (level_of levels2 v) unreached) as (λ _. not (reached levels2 v) ≡ true) [
              | inl r ↦
                  let out : not (s v) ≡ true =
                  back.within (λ u. not (s u)) (closed_turned net.pipes xs 1 false s closed) (ap not cut.0.1) v r in
                  absurd (cc (out, at))
              | inr far ↦ ap not (le-ltb (level_of levels2 v) unreached far)
            ];
      }

-- the first pushes are within the bound
pub begin_bound : (p m k : ℕ) → p ≤ 2 * m → p ≤ 2 * m * (k + 1)
begin_bound p m k h =
    let a : 2 * m * 1 ≤ 2 * m * (k + 1) = mul-le-mul_left (2 * m) (let e : 1 ≤ k + 1 = omega arith in e) in
    omega (arith, a, h)

-- all pushes are within the bound
pub all_bound :
    (ps : List Pipe) (a b : ℕ) (f g h : FillingValue) → a ≢ b → IsCarried ps a b f.amounts → f.pushes ≡ 0 → Augments ps a b 1 f g →
    Augments ps a b 1 g h → g.pushes ≤ 2 * length ps →
    ((k : ℕ) → 1 ≤ k → AreRoomsBelow (2 ^ k) ps → h.pushes ≤ g.pushes + 2 * length ps * k) →
    (k : ℕ) → AreRoomsBelow (2 ^ k) ps → h.pushes ≤ 2 * length ps * (k + 1)
all_bound ps a b f g h apart carried none one two begun more zero rooms =
    let fall = (augments_on ps a b 1 f g h one two).falls (λ v. eqb v a) (source_side a b apart) in
    let left = left_rooms (λ v. eqb v a) ps f.amounts 0 carried.each carried.within (λ i l. let r = rooms i l in omega (arith, r)) in
    let flat : length ps * 0 ≡ 0 = omega arith in
    omega (arith, fall, left, flat, none)
all_bound ps a b f g h apart carried none one two begun more (suc k) rooms =
    let bound = more (suc k) (omega arith) rooms in
    let step : 2 * length ps * (suc k + 1) ≡ 2 * length ps * suc k + 2 * length ps = omega arith in
    omega (arith, bound, begun, step)

amount_on-none : (test : Pipe → Bool) (ps : List Pipe) → amount_on test ps (replicate (length ps) 0) ≡ 0
amount_on-none test [] = refl
amount_on-none test (p ∷ ps) =
    omega (arith, amount_on-cons test p ps 0 (replicate (length ps) 0), zero_both (test p), amount_on-none test ps)
  where
    zero_both : (b : Bool) → ◌≡◌ {A = ℕ} (cond b 0 0) 0
    zero_both true = refl
    zero_both false = refl

-- nothing flows at first
pub carried_none :
    (ps : List Pipe) (a b : ℕ) (xs : List ℕ) → xs ≡ replicate (length ps) 0 → IsCarried ps a b xs
carried_none ps a b xs is =
    let zeros : List ℕ = replicate (length ps) 0 in
    subst (λ (ys : List ℕ). IsCarried ps a b ys) (sym is)
    (record {
      each = length-replicate (length ps) 0;
      within = λ i h. let none : get_or zeros i 0 ≡ 0 = get_or-replicate (length ps) i 0 0 h in omega (arith, none);
      value = 0;
      balanced =
          λ s.
          omega (arith, amount_on-none (λ (p : Pipe). s p.from) ps, amount_on-none (λ (p : Pipe). s p.to) ps, part_none (s a), part_none (s b));
    })
  where
    part_none : (c : Bool) → part c 0 ≡ 0
    part_none true = refl
    part_none false = refl
